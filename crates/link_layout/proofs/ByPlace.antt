-- Lists at the same places: what a loop over the places has still to come to.
use Rattle.std.proofs.Common.{◌≡◌, ℕ, ◌+◌, ◌≤◌, zero, suc, Bool, true, ◌&&◌, List, [], ◌∷◌}
use Rattle.std.proofs.Common.{length, drop, fold, map, min, Option, Some, None, unwrap_or}
use Rattle.std.proofs.Common.{refl, sym, ap, ◌∙◌, arith}
use Rattle.std.specs.List.{cons_option, enumerate_from, list_all, slice_get, zip}
use Rattle.std.specs.Option.{option_map}
use Rattle.std.proofs.lemmas.Bool.{and_parts}
use Rattle.std.proofs.lemmas.List.{drop_all, drop_more, length-map}
use Rattle.std.proofs.lemmas.List.FromFn.{get_or-enumerate_from, length-enumerate_from}
use Rattle.std.proofs.lemmas.Option.{get_or_from_slice_get, slice_get-map, slice_get_within}
use Rattle.std.proofs.lemmas.Slice.Zip.{length-zip, get_or-zip}
use Rattle.dict_row.specs.Keys.{decoded}
use Rattle.dict_row.proofs.Decoded.{found}
use Rattle.omos_model.specs.FixupParts.{field_of}
use Rattle.omos_model.specs.declared.fragment.Aim.{Aim}
use Rattle.omos_model.specs.declared.fragment.Fixup.{Fixup}
use Rattle.omos_model.specs.declared.mark.Landing.{Landing}
use Rattle.omos_model.specs.declared.mark.Target.{Target}
use Rattle.link_layout.specs.Slots.{slots_with}
use Rattle.link_layout.specs.inside.Fields.{slots_with_field}

-- ---- two lists

module _ {A B : Type 0} (xs : List A) (ys : List B) (i : ℕ) where
  module _ (x : A) (y : B) (first : slice_get xs i ≡ Some x)
      (second : slice_get ys i ≡ Some y) where
    pub pairs-at : drop i (zip xs ys) ≡ (x, y) ∷ drop (i + 1) (zip xs ys)
    pairs-at =
        let below = slice_get_within xs i x first in
        let below' = slice_get_within ys i y second in
        drop_more (zip xs ys) i (x, y) (omega (arith, below, below', length-zip xs ys))
        ∙ ap (λ z. z ∷ drop (i + 1) (zip xs ys))
        (get_or-zip xs ys i (x, y) below below'
        ∙ (λ j. (get_or_from_slice_get xs i x x first j, get_or_from_slice_get ys i y y second j)))

    zero_more : 0 + i ≡ i
    zero_more = omega arith

    pub numbered-at : drop i (enumerate_from 0 (zip xs ys))
        ≡ (i, (x, y)) ∷ drop (i + 1) (enumerate_from 0 (zip xs ys))
    numbered-at =
        let below = slice_get_within xs i x first in
        let below' = slice_get_within ys i y second in
        let count = length-zip xs ys in
        drop_more (enumerate_from 0 (zip xs ys)) i (i, (x, y))
        (omega (arith, below, below', count, length-enumerate_from 0 (zip xs ys)))
        ∙ ap (λ z. z ∷ drop (i + 1) (enumerate_from 0 (zip xs ys)))
        (get_or-enumerate_from 0 (zip xs ys) i (i, (x, y)) (omega (arith, below, below', count))
        ∙ (λ j. (
          zero_more j,
          (get_or-zip xs ys i (x, y) below below'
              ∙ (λ h. (
                get_or_from_slice_get xs i x x first h,
                get_or_from_slice_get ys i y y second h,
              ))) j,
        )))

  module _ (all : min (length xs) (length ys) ≤ i) where
    pub pairs-past : drop i (zip xs ys) ≡ []
    pairs-past = drop_all i (zip xs ys) (omega (arith, all, length-zip xs ys))

    pub numbered-past : drop i (enumerate_from 0 (zip xs ys)) ≡ []
    numbered-past =
        drop_all i (enumerate_from 0 (zip xs ys))
        (omega (
          arith,
          all,
          length-zip xs ys,
          length-enumerate_from 0 (zip xs ys),
        ))

-- ---- fixups by their fields and aims

pub slots-by-field : (slots : List Target) (fixups : List Fixup) (landings : List Landing)
    → fold slots_with_field slots (zip (map field_of fixups) landings)
    ≡ fold slots_with slots (zip fixups landings)
slots-by-field slots [] ys = refl
slots-by-field slots (x ∷ xs) [] = refl
slots-by-field slots (x ∷ xs) (y ∷ ys) = slots-by-field (slots_with slots (x, y)) xs ys

some-same : {X : Type 0} (x y : X) → Some x ≡ Some y → x ≡ y
some-same x y = ap (λ o. unwrap_or o x)

pub fixup-at : (fixups : List Fixup) (aims : List Aim) (i : ℕ) (aim : Aim)
    → aims ≡ map (λ x. x.aim) fixups → slice_get aims i ≡ Some aim
    → (x : Fixup) × (slice_get fixups i ≡ Some x) × (x.aim ≡ aim)
fixup-at fixups aims i aim are is =
    let below = slice_get_within aims i aim is in
    let here = found fixups i
    (omega (arith, below, ap length are, length-map fixups (λ (x : Fixup). x.aim))) in
    let seen : slice_get aims i ≡ Some here.0.aim =
    ap (λ list. slice_get list i) are ∙ slice_get-map (λ (x : Fixup). x.aim) fixups i
    ∙ ap (option_map (λ (x : Fixup). x.aim)) here.1 in
    (here.0, here.1, some-same here.0.aim aim (sym seen ∙ is))

-- ---- what holds of each value

value-holds : {T : Type 0} (f : T → Bool) (values : List T) (key : ℕ) (x : T)
    → list_all f values ≡ true → slice_get values key ≡ Some x → f x ≡ true
value-holds f [] key x h is = cc
value-holds f (v ∷ vs) zero x h is =
    ap f (sym (some-same v x is)) ∙ (and_parts (f v) (list_all f vs) h).0
value-holds f (v ∷ vs) (suc key) x h is =
    value-holds f vs key x (and_parts (f v) (list_all f vs) h).1 is

holds-at : {T : Type 0} (f : T → Bool) (values : List T) (key : ℕ) (rest : List T)
    → list_all f values ≡ true → list_all f rest ≡ true
    → list_all f (cons_option (slice_get values key) rest) ≡ true
holds-at {T} f values key rest h later = go (slice_get values key) refl
  where
    go : (o : Option T) → slice_get values key ≡ o → list_all f (cons_option o rest) ≡ true
    go None is = later
    go (Some x) is = (λ i. value-holds f values key x h is i && later i)

pub all-decoded : {T : Type 0} (f : T → Bool) (values : List T) (keys : List ℕ)
    → list_all f values ≡ true → list_all f (decoded values keys) ≡ true
unfolding decoded
all-decoded f values [] h = refl
all-decoded f values (key ∷ keys) h =
    holds-at f values key (decoded values keys) h (all-decoded f values keys h)
