-- The laws of the operators, proved.
use Rattle.std.proofs.Common.{◌≡◌, ℕ, zero, suc, ◌==◌, Bool, true, false, not, ◌&&◌, ◌||◌, List, []}
use Rattle.std.proofs.Common.{◌∷◌, ◌++◌, Option, Some, None, refl, sym, ap, ◌∙◌}
use Rattle.std.specs.Prelude.{IsTrue, filter, is_some, slice_get, cond, map}
use Rattle.std.specs.List.{list_any, list_all}
use Rattle.std.specs.Option.{option_or, option_map}
use Rattle.std.proofs.lemmas.List.Folds.{list_any-append}
use Rattle.std.proofs.lemmas.Bool.{and_parts, and_from, and_right, not-true, eqb-true}
use Rattle.omos_model.specs.Names.{Name, same_name}
use Rattle.omos_model.specs.Op.{Restrict, Freeze, Hide}
use Rattle.omos_model.specs.NameLists.{is_among, distinct}
use Rattle.omos_model.specs.Term.{Term, Leaf, Merge, Override, Apply, leaf_numbers}
use Rattle.omos_model.specs.Definition.{definition, written}
use Rattle.omos_model.specs.State.{state, states, remarked, in_row, in_rows, mark_of, marked_by}
use Rattle.omos_model.specs.State.{mark_at}
use Rattle.omos_model.specs.FirstRefusal.{both_define}
use Rattle.omos_model.specs.Laws.{HideLaw, MergeLaw, OverrideLaw, StatesLaw, RowsLaw, has_leaf}
use Rattle.omos_model.specs.Laws.{are_apart, restrict_each, shared}
use Rattle.omos_model.proofs.Joined.{option_or_None, option_or_assoc, or_some}
use Rattle.omos_model.proofs.Names.{same_name-true, same_name-swap}
use Rattle.omos_model.specs.declared.refusal.Site.{Site}
use Rattle.omos_model.specs.declared.mark.Target.{Target}
use Rattle.omos_model.specs.declared.mark.MarkRow.{MarkRow}
use Rattle.omos_model.specs.declared.mark.Mark.{Mark}
use Rattle.omos_model.specs.declared.mark.Mark.TheVariants.{Bound, Open}

-- ---- references

-- where at most one is there, the order does not count
pub option_or_swaps : {X : Type 0} (a b : Option X) → (is_some a && is_some b) ≡ false
    → option_or a b ≡ option_or b a
option_or_swaps None None h = refl
option_or_swaps None (Some x) h = refl
option_or_swaps (Some x) None h = refl
option_or_swaps (Some x) (Some y) h = cc

option_map_some : {X Y : Type 0} (f : X → Y) (o : Option X) → is_some (option_map f o) ≡ is_some o
option_map_some f None = refl
option_map_some f (Some x) = refl

cond_some : {X : Type 0} (b : Bool) (o : Option X) → is_some (cond b o None) ≡ true
    → (b || false) ≡ true
cond_some true o h = refl
cond_some false o h = h

-- a reference stands in a leaf of the term
pub has_leaf_where : (t : Term) (leaf k : ℕ) → is_some (state t leaf k) ≡ true
    → has_leaf t leaf ≡ true
has_leaf_where (Leaf s number f) leaf k h =
    cond_some (leaf == number) (mark_at number f.fixups k) h
has_leaf_where (Merge s l r) leaf k h =
    rw list_any-append
    (or_some (state l leaf k) (state r leaf k) _ _ (has_leaf_where l leaf k)
    (has_leaf_where r leaf k) h)
has_leaf_where (Override s l r) leaf k h =
    rw list_any-append
    (or_some (state l leaf k) (state r leaf k) _ _ (has_leaf_where l leaf k)
    (has_leaf_where r leaf k) h)
has_leaf_where (Apply s op u) leaf k h =
    has_leaf_where u leaf k (sym (option_map_some _ (state u leaf k)) ∙ h)

-- a restriction changes no reference
restrict-mark : (a : Name) (w : Name → Option Target) (m : Mark) → marked_by (Restrict a) w m ≡ m
restrict-mark a w (Bound d) = refl
restrict-mark a w (Open x) = refl

hide-mark : (a : Name) (u : Name → Option Target) (m : Mark)
    → marked_by (Hide a) u m ≡ marked_by (Freeze a) u m
hide-mark a u (Bound d) = refl
hide-mark a u (Open x) = refl

option_map_with : {X : Type 0} (f g h : X → X) (o : Option X) → ((x : X) → h x ≡ f (g x))
    → option_map h o ≡ option_map f (option_map g o)
option_map_with f g h None e = refl
option_map_with f g h (Some x) e = ap Some (e x)

option_map_id : {X : Type 0} (f : X → X) (o : Option X) → ((x : X) → f x ≡ x) → option_map f o ≡ o
option_map_id f None e = refl
option_map_id f (Some x) e = ap Some (e x)

pub hide_law : HideLaw
hide_law s q r a t = record {
  names = λ n. refl;
  references = λ leaf k.
      option_map_with _ _ _ (state t leaf k) (λ m. hide-mark a (definition t) m
      ∙ sym (restrict-mark a (definition t) (marked_by (Freeze a) (definition t) m)));
}

-- ---- leaves that stand apart

apart_at : (ls : List ℕ) (r : Term) (leaf : ℕ) → list_all (λ n. not (has_leaf r n)) ls ≡ true
    → (list_any (λ n. leaf == n) ls && has_leaf r leaf) ≡ false
apart_at [] r leaf h = refl
apart_at (p ∷ ls) r leaf h = go (leaf == p) refl (apart_at ls r leaf parts.1)
  where
    parts : (not (has_leaf r p) ≡ true) × (list_all (λ n. not (has_leaf r n)) ls ≡ true)
    parts = and_parts _ _ h

    go : (b : Bool) → leaf == p ≡ b → (list_any (λ n. leaf == n) ls && has_leaf r leaf) ≡ false
        → ((b || list_any (λ n. leaf == n) ls) && has_leaf r leaf) ≡ false
    go true e i = rw (eqb-true leaf p e) (not-true _ parts.0)
    go false e i = i

not_both : (a b p q : Bool) → (a ≡ true → p ≡ true) → (b ≡ true → q ≡ true) → (p && q) ≡ false
    → (a && b) ≡ false
not_both false b p q h k e = refl
not_both true false p q h k e = refl
not_both true true p q h k e = sym (and_from p q (h refl) (k refl)) ∙ e

apart_states : (l r : Term) (leaf k : ℕ) → IsTrue (are_apart l r)
    → (is_some (state l leaf k) && is_some (state r leaf k)) ≡ false
apart_states l r leaf k h =
    not_both _ _ (has_leaf l leaf) (has_leaf r leaf) (has_leaf_where l leaf k)
    (has_leaf_where r leaf k) (apart_at (leaf_numbers l) r leaf h)

pub merge_law : MergeLaw
merge_law s q l r apart none = record {
  names = λ n. option_or_swaps (definition l n) (definition r n) (none n);
  references =
      λ leaf k. option_or_swaps (state l leaf k) (state r leaf k) (apart_states l r leaf k apart);
}

-- ---- restrictions

restrict_each-state : (s : Site) (ns : List Name) (t : Term) (leaf k : ℕ)
    → state (restrict_each s ns t) leaf k ≡ state t leaf k
restrict_each-state s [] t leaf k = refl
restrict_each-state s (n ∷ ns) t leaf k =
    option_map_id _ (state (restrict_each s ns t) leaf k)
    (λ m. restrict-mark n (definition (restrict_each s ns t)) m)
    ∙ restrict_each-state s ns t leaf k

cond_or : {X : Type 0} (a b : Bool) (o : Option X)
    → cond a None (cond b None o) ≡ cond (a || b) None o
cond_or true b o = refl
cond_or false b o = refl

restrict_each-definition : (s : Site) (ns : List Name) (t : Term) (n : Name)
    → definition (restrict_each s ns t) n ≡ cond (is_among ns n) None (definition t n)
restrict_each-definition s [] t n = refl
restrict_each-definition s (m ∷ ns) t n =
    rw (restrict_each-definition s ns t n, same_name-swap m n)
    (cond_or (same_name n m) (is_among ns n) (definition t n))

-- what a filter keeps passes its test
neither : (a b : Bool) → (a || b) ≡ false → (a ≡ false) × (b ≡ false)
neither false b h = (refl, h)
neither true b h = cc

among_filter : (test : Name → Bool) (ns : List Name) (n : Name) → test n ≡ false
    → is_among (filter test ns) n ≡ false
among_filter test [] n h = refl
among_filter test (m ∷ ns) n h = go (test m) (same_name n m) refl refl (among_filter test ns n h)
  where
    go : (b c : Bool) → test m ≡ b → same_name n m ≡ c → is_among (filter test ns) n ≡ false
        → is_among (cond b (m ∷ filter test ns) (filter test ns)) n ≡ false
    go false c e d i = i
    go true true e d i = let q : n ≡ m = same_name-true n m d in let f : test n ≡ true =
        rw q e in cc
    go true false e d i = rw d i

or_cond : {X : Type 0} (o p : Option X) (b : Bool) → (is_some o ≡ false → b ≡ false)
    → option_or o p ≡ option_or o (cond b None p)
or_cond None p b h = rw (h refl) refl
or_cond (Some x) p b h = refl

among_distinct : (ns : List Name) (n : Name) → is_among ns n ≡ false
    → is_among (distinct ns) n ≡ false
among_distinct [] n h = refl
among_distinct (m ∷ ns) n h = go (is_among ns m) (among_distinct ns n parts.1)
  where
    parts : (same_name n m ≡ false) × (is_among ns n ≡ false)
    parts = neither (same_name n m) (is_among ns n) h

    go : (b : Bool) → is_among (distinct ns) n ≡ false
        → is_among (cond b (distinct ns) (m ∷ distinct ns)) n ≡ false
    go true i = i
    go false i = rw parts.0 i

pub override_law : OverrideLaw
override_law s q p l r apart = record {
  names = λ n. rw (restrict_each-definition p (shared l r) l n)
      (or_cond (definition r n) (definition l n) _
      (λ e. among_distinct (filter (both_define l r) (written l)) n
      (among_filter _ (written l) n (and_right _ _ e))));
  references = λ leaf k. rw (restrict_each-state p (shared l r) l leaf k)
      (option_or_swaps (state l leaf k) (state r leaf k) (apart_states l r leaf k apart));
}

-- ---- the list of all references

in_rows-append : (xs ys : List MarkRow) (leaf k : ℕ)
    → in_rows (xs ++ ys) leaf k ≡ option_or (in_rows xs leaf k) (in_rows ys leaf k)
in_rows-append [] ys leaf k = refl
in_rows-append (x ∷ xs) ys leaf k =
    rw (in_rows-append xs ys leaf k)
    (sym (option_or_assoc (in_row x leaf k) (in_rows xs leaf k) (in_rows ys leaf k)))

option_map_or : {X Y : Type 0} (f : X → Y) (a b : Option X)
    → option_map f (option_or a b) ≡ option_or (option_map f a) (option_map f b)
option_map_or f None b = refl
option_map_or f (Some x) b = refl

pub slice_get-map : {X Y : Type 0} (f : X → Y) (xs : List X) (k : ℕ)
    → slice_get (map f xs) k ≡ option_map f (slice_get xs k)
slice_get-map f [] k = refl
slice_get-map f (x ∷ xs) zero = refl
slice_get-map f (x ∷ xs) (suc k) = slice_get-map f xs k

in_row-remarked : (f : Mark → Mark) (r : MarkRow) (leaf k : ℕ)
    → in_row (remarked f r) leaf k ≡ option_map f (in_row r leaf k)
in_row-remarked f r leaf k = go (leaf == r.number)
  where
    go : (b : Bool) → cond b (slice_get (map f r.marks) k) None
        ≡ option_map f (cond b (slice_get r.marks k) None)
    go true = slice_get-map f r.marks k
    go false = refl

in_rows-remarked : (f : Mark → Mark) (rows : List MarkRow) (leaf k : ℕ)
    → in_rows (map (remarked f) rows) leaf k ≡ option_map f (in_rows rows leaf k)
in_rows-remarked f [] leaf k = refl
in_rows-remarked f (r ∷ rows) leaf k =
    rw (in_row-remarked f r leaf k, in_rows-remarked f rows leaf k)
    (sym (option_map_or f (in_row r leaf k) (in_rows rows leaf k)))

-- the state of a reference is what the list of all has for it
pub state-in_rows : StatesLaw
state-in_rows (Leaf s number f) leaf k =
    sym (option_or_None
    (cond (leaf == number) (slice_get (map (λ x. mark_of number x.aim) f.fixups) k) None)
    ∙ ap (λ o. cond (leaf == number) o None) (slice_get-map (λ x. mark_of number x.aim) f.fixups k))
state-in_rows (Merge s l r) leaf k =
    rw (state-in_rows l leaf k, state-in_rows r leaf k)
    (sym (in_rows-append (states l) (states r) leaf k))
state-in_rows (Override s l r) leaf k =
    rw (state-in_rows l leaf k, state-in_rows r leaf k)
    (sym (in_rows-append (states l) (states r) leaf k))
state-in_rows (Apply s op u) leaf k =
    rw (state-in_rows u leaf k) (sym (in_rows-remarked _ (states u) leaf k))

map-append : {X Y : Type 0} (f : X → Y) (xs ys : List X) → map f (xs ++ ys) ≡ map f xs ++ map f ys
map-append f [] ys = refl
map-append f (x ∷ xs) ys = ap (λ zs. f x ∷ zs) (map-append f xs ys)

map-remarked : (f : Mark → Mark) (rows : List MarkRow)
    → map (λ r. r.number) (map (remarked f) rows) ≡ map (λ r. r.number) rows
map-remarked f [] = refl
map-remarked f (r ∷ rows) = ap (λ ns. r.number ∷ ns) (map-remarked f rows)

-- the rows are numbered as the leaves
pub states-numbers : RowsLaw
states-numbers (Leaf s number f) = refl
states-numbers (Merge s l r) =
    map-append _ (states l) (states r)
    ∙ ap (λ ns. ns ++ map (λ x. x.number) (states r)) (states-numbers l)
    ∙ ap (λ ns. leaf_numbers l ++ ns) (states-numbers r)
states-numbers (Override s l r) =
    map-append _ (states l) (states r)
    ∙ ap (λ ns. ns ++ map (λ x. x.number) (states r)) (states-numbers l)
    ∙ ap (λ ns. leaf_numbers l ++ ns) (states-numbers r)
states-numbers (Apply s op u) = map-remarked _ (states u) ∙ states-numbers u
