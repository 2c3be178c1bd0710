-- Paths told apart by their keys, and what stands at a position.
use Rattle.std.proofs.Common.{◌≡◌, ◌≢◌, ℕ, suc, ◌+◌, ◌<◌, ◌≤◌, Bool, true, false, not, ◌&&◌, cond}
use Rattle.std.proofs.Common.{List, [], ◌∷◌, ◌++◌, length, get_or, map, drop, filter, Some, None}
use Rattle.std.proofs.Common.{refl, ap, sym, ◌∙◌, arith, nat_eq, nat_le, nat_lt, true≢false}
use Rattle.std.proofs.Common.{append-nil}
use Rattle.std.proofs.Common.{append_assoc, ◌||◌}
use Rattle.std.specs.Prelude.{slice_get}
use Rattle.std.specs.List.{find, position_or_len, list_any}
use Rattle.std.proofs.lemmas.Bool.Decides.{nat_tests}
use Rattle.std.proofs.lemmas.List.{map_push, drop-drop, drop-map, at_drop_more, drop_all}
use Rattle.std.proofs.lemmas.List.{length-map}
use Rattle.std.proofs.lemmas.List.Folds.{find_at}
use Rattle.std.proofs.lemmas.Option.{slice_get_read, slice_get_past}
use Rattle.omos_model.specs.Names.{Name, same_name}
use Rattle.omos_model.specs.Places.{serves, is_of, past_of}
use Rattle.omos_model.specs.declared.placement.Placement.{Placement}
use Rattle.omos_model.proofs.Names.{same_name-true}
use Rattle.place_book.specs.Keys.{key_of, key_of_placement, next_of}

-- a placement of the path has its key
pub key_of_path : (path : Name) (p : Placement) → is_of path p ≡ true
    → key_of path ≡ key_of_placement p
key_of_path path p e = ap key_of (same_name-true path p.path e)

pub key_of_server : (path : Name) (pages lo hi : ℕ) (p : Placement)
    → serves path pages lo hi p ≡ true
    → key_of path ≡ key_of_placement p
key_of_server path pages lo hi p e = go (same_name path p.path) refl e
  where
    go : (b : Bool) → same_name path p.path ≡ b
        → (b && nat_le pages p.pages && nat_le lo p.base && nat_le (past_of p) hi) ≡ true
        → key_of path ≡ key_of_placement p
    go true d k = key_of_path path p d
    go false d k = absurd (true≢false (sym k))

pub key_joins : (keys : List ℕ) (ps : List Placement) (p : Placement)
    → keys ≡ map key_of_placement ps
    → keys ++ key_of p.path ∷ [] ≡ map key_of_placement (ps ++ p ∷ [])
key_joins keys ps p e = ap (λ ks. ks ++ key_of p.path ∷ []) e ∙ sym (map_push key_of_placement ps p)

pub found : {X : Type 0} (p : X → Bool) (xs : List X) (n : ℕ) (x : X) → n ≡ position_or_len p xs
    → n < length xs
    → x ≡ get_or xs n x → find p xs ≡ Some x
found p xs n x e l g = find_at p xs ∙ ap (slice_get xs) (sym e)
    ∙ slice_get_read xs (length xs) n x refl l g

pub missing : {X : Type 0} (p : X → Bool) (xs : List X) (n : ℕ) → n ≡ position_or_len p xs
    → length xs ≤ n
    → find p xs ≡ None
missing p xs n e l = find_at p xs ∙ ap (slice_get xs) (sym e) ∙ slice_get_past xs n l

pub same_count : (keys : List ℕ) (ps : List Placement) → keys ≡ map key_of_placement ps
    → length keys ≡ length ps
same_count keys ps e = ap length e ∙ length-map ps key_of_placement

-- ---- the first element that passes

position_here : {X : Type 0} (p : X → Bool) (x : X) (xs : List X) → p x ≡ true
    → position_or_len p (x ∷ xs) ≡ 0
position_here p x xs e = rw e refl

position_later : {X : Type 0} (p : X → Bool) (x : X) (xs : List X) → p x ≡ false
    → position_or_len p (x ∷ xs) ≡ 1 + position_or_len p xs
position_later p x xs e = rw e refl

-- counted from a place on, or from the next one where that element doesn't pass
pub position_step : {X : Type 0} (p : X → Bool) (xs : List X) (at : ℕ) (x : X) → at < length xs
    → x ≡ get_or xs at x → p x ≡ false
    → at + position_or_len p (drop at xs) ≡ (at + 1) + position_or_len p (drop (at + 1) xs)
position_step p xs at x l g e =
    let cut = at_drop_more (position_or_len p) xs at x l in
    let later = position_later p (get_or xs at x) (drop (at + 1) xs) (ap p (sym g) ∙ e) in
    omega (arith, cut, later)

-- ---- the next position of a key

-- it isn't at a place of another key
pub next_later : (key : ℕ) (keys : List ℕ) (at k : ℕ) → at < length keys → k ≡ get_or keys at k
    → k ≢ key
    → next_of key at keys ≡ next_of key (at + 1) keys
next_later key keys at k l g e =
    position_step (nat_eq key) keys at k l g (other (nat_eq key k) refl)
  where
    other : (b : Bool) → nat_eq key k ≡ b → nat_eq key k ≡ false
    other true d = let same : k ≡ key = grind (arith, nat_tests, d) in absurd (e same)
    other false d = d

pub next_here : (key : ℕ) (keys : List ℕ) (at k : ℕ) → at < length keys → k ≡ get_or keys at k
    → k ≡ key
    → at ≡ next_of key at keys
next_here key keys at k l g e =
    let cut = at_drop_more (position_or_len (nat_eq key)) keys at k l in
    let same : nat_eq key k ≡ true = grind (arith, nat_tests, e) in
    let here =
    position_here (nat_eq key) (get_or keys at k) (drop (at + 1) keys)
    (ap (nat_eq key) (sym g) ∙ same) in
    omega (arith, cut, here)

pub next_past : (key : ℕ) (keys : List ℕ) (at : ℕ) → length keys ≤ at → at ≡ next_of key at keys
next_past key keys at l =
    let none = ap (position_or_len (nat_eq key)) (drop_all at keys l) in omega (arith, none)

-- ---- what no other key can pass is passed over

skip_position : {X : Type 0} (p : X → Bool) (f : X → ℕ) (key : ℕ)
    → ((x : X) → p x ≡ true → key ≡ f x)
    → (xs : List X) (n : ℕ) → n ≡ position_or_len (nat_eq key) (map f xs)
    → position_or_len p xs ≡ n + position_or_len p (drop n xs)
skip_position p f key h [] n e = rw e refl
skip_position p f key h (x ∷ xs) n e =
    go (nat_eq key (f x)) (p x) refl refl e
    (skip_position p f key h xs (position_or_len (nat_eq key) (map f xs)) refl)
  where
    go : (b d : Bool) → nat_eq key (f x) ≡ b → p x ≡ d
        → n ≡ cond (not b) (1 + position_or_len (nat_eq key) (map f xs)) 0
        → position_or_len p xs ≡ position_or_len (nat_eq key) (map f xs)
        + position_or_len p (drop (position_or_len (nat_eq key) (map f xs)) xs)
        → position_or_len p (x ∷ xs) ≡ n + position_or_len p (drop n (x ∷ xs))
    go true d b q k i = rw k (omega arith)
    go false true b q k i = let same = h x q in absurd (grind (arith, nat_tests, b, same))
    go false false b q k i =
        let s : n ≡ suc (position_or_len (nat_eq key) (map f xs)) = omega arith in
        let later = position_later p x xs q in
        rw s (omega (arith, later, i))

skip_filter : {X : Type 0} (p : X → Bool) (f : X → ℕ) (key : ℕ) → ((x : X) → p x ≡ true → key ≡ f x)
    → (xs : List X) (n : ℕ) → n ≡ position_or_len (nat_eq key) (map f xs)
    → filter p xs ≡ filter p (drop n xs)
skip_filter p f key h [] n e = rw e refl
skip_filter p f key h (x ∷ xs) n e =
    go (nat_eq key (f x)) (p x) refl refl e
    (skip_filter p f key h xs (position_or_len (nat_eq key) (map f xs)) refl)
  where
    go : (b d : Bool) → nat_eq key (f x) ≡ b → p x ≡ d
        → n ≡ cond (not b) (1 + position_or_len (nat_eq key) (map f xs)) 0
        → filter p xs ≡ filter p (drop (position_or_len (nat_eq key) (map f xs)) xs)
        → filter p (x ∷ xs) ≡ filter p (drop n (x ∷ xs))
    go true d b q k i = rw k refl
    go false true b q k i = let same = h x q in absurd (grind (arith, nat_tests, b, same))
    go false false b q k i =
        let s : n ≡ suc (position_or_len (nat_eq key) (map f xs)) = omega arith in
        rw (s, q) i

jump : {X : Type 0} (f : X → ℕ) (key from at : ℕ) (keys : List ℕ) (xs : List X) → keys ≡ map f xs
    → at ≡ next_of key from keys
    → (n : ℕ) × (n ≡ position_or_len (nat_eq key) (map f (drop from xs))) × (at ≡ from + n)
    × (drop n (drop from xs) ≡ drop at xs)
jump f key from at keys xs k a =
    let n = position_or_len (nat_eq key) (drop from keys) in
    let e = ap (λ ks. position_or_len (nat_eq key) (drop from ks)) k
    ∙ ap (position_or_len (nat_eq key)) (drop-map f from xs) in
    (n, e, a, drop-drop n from xs ∙ ap (λ m. drop m xs) (sym a))

pub jump_position : {X : Type 0} (p : X → Bool) (f : X → ℕ) (key : ℕ)
    → ((x : X) → p x ≡ true → key ≡ f x)
    → (from at : ℕ) (keys : List ℕ) (xs : List X) → keys ≡ map f xs → at ≡ next_of key from keys
    → at + position_or_len p (drop at xs) ≡ from + position_or_len p (drop from xs)
jump_position p f key h from at keys xs k a =
    let j = jump f key from at keys xs k a in
    let s = skip_position p f key h (drop from xs) j.0 j.1 in
    let t = ap (position_or_len p) j.3 in
    let b = j.2 in
    omega (arith, s, t, b)

pub jump_filter : {X : Type 0} (p : X → Bool) (f : X → ℕ) (key : ℕ)
    → ((x : X) → p x ≡ true → key ≡ f x)
    → (from at : ℕ) (keys : List ℕ) (xs : List X) → keys ≡ map f xs → at ≡ next_of key from keys
    → filter p (drop at xs) ≡ filter p (drop from xs)
jump_filter p f key h from at keys xs k a =
    let j = jump f key from at keys xs k a in
    sym (skip_filter p f key h (drop from xs) j.0 j.1 ∙ ap (filter p) j.3)

-- ---- the placements that pass, one by one

filter_first : {X : Type 0} (p : X → Bool) (x : X) (xs : List X)
    → filter p (x ∷ xs) ≡ cond (p x) (x ∷ []) [] ++ filter p xs
filter_first p x xs = go (p x) refl
  where
    go : (b : Bool) → p x ≡ b → filter p (x ∷ xs) ≡ cond (p x) (x ∷ []) [] ++ filter p xs
    go true e = rw e refl
    go false e = rw e refl

pub filter_step : {X : Type 0} (p : X → Bool) (xs : List X) (at : ℕ) (x : X) (before after : List X)
    → at < length xs → x ≡ get_or xs at x → before ++ filter p (drop at xs) ≡ filter p xs
    → after ≡ before ++ cond (p x) (x ∷ []) [] → after ++ filter p (drop (at + 1) xs) ≡ filter p xs
filter_step p xs at x before after l g b a =
    let rest = filter p (drop (at + 1) xs) in
    let cut = at_drop_more (filter p) xs at x l
    ∙ ap (λ y. filter p (y ∷ drop (at + 1) xs)) (sym g) ∙ filter_first p x (drop (at + 1) xs) in
    ap (λ ys. ys ++ rest) a ∙ append_assoc before (cond (p x) (x ∷ []) []) rest
    ∙ ap (λ ys. before ++ ys) (sym cut) ∙ b

pub filter_past : {X : Type 0} (p : X → Bool) (xs : List X) (at : ℕ) (found : List X)
    → length xs ≤ at
    → found ++ filter p (drop at xs) ≡ filter p xs → found ≡ filter p xs
filter_past p xs at found l e =
    sym (append-nil found) ∙ ap (λ ys. found ++ filter p ys) (sym (drop_all at xs l)) ∙ e

-- ---- whether there is one

pub any_found : {X : Type 0} (p : X → Bool) (xs : List X) (n : ℕ) → n ≡ position_or_len p xs
    → (n < length xs → list_any p xs ≡ true) × (length xs ≤ n → list_any p xs ≡ false)
any_found p [] n e = (λ l. absurd (omega arith), λ l. refl)
any_found p (x ∷ xs) n e = go (p x) refl e (any_found p xs (position_or_len p xs) refl)
  where
    go : (b : Bool) → p x ≡ b → n ≡ cond (not b) (1 + position_or_len p xs) 0
        → (position_or_len p xs < length xs → list_any p xs ≡ true)
        × (length xs ≤ position_or_len p xs → list_any p xs ≡ false)
        → (n < length (x ∷ xs) → (b || list_any p xs) ≡ true)
        × (length (x ∷ xs) ≤ n → (b || list_any p xs) ≡ false)
    go true d k i = (λ l. refl, λ l. absurd (omega arith))
    go false d k i = (λ l. i.0 (omega arith), λ l. i.1 (omega arith))

pub listed : (keys : List ℕ) (key n : ℕ) → n ≡ next_of key 0 keys
    → nat_lt n (length keys) ≡ list_any (nat_eq key) keys
listed keys key n e = go (nat_lt n (length keys)) refl
  where
    place : n ≡ position_or_len (nat_eq key) keys
    place = omega (arith, e)

    go : (b : Bool) → nat_lt n (length keys) ≡ b → b ≡ list_any (nat_eq key) keys
    go true d = sym ((any_found (nat_eq key) keys n place).0 (grind (arith, nat_tests, d)))
    go false d = sym ((any_found (nat_eq key) keys n place).1 (grind (arith, nat_tests, d)))
