-- What the lists of all references have is what descent finds for each.
use Rattle.std.proofs.Common.{◌≡◌, ℕ, zero, suc, ◌+◌, ◌==◌, Bool, true, false, List, [], ◌∷◌, ◌++◌}
use Rattle.std.proofs.Common.{Option, Some, None, Ok, Err, refl, sym, ap, ◌∙◌, subst, cond, map}
use Rattle.std.proofs.Common.{arith}
use Rattle.std.specs.Prelude.{IsTrue, ◌↔◌, ◌||◌, Result, slice_get, unwrap_or}
use Rattle.std.specs.List.{AllByRecursion, IsDistinct, list_any, zip, enumerate_from, flat_map}
use Rattle.std.specs.Option.{option_map, option_or}
use Rattle.std.proofs.lemmas.Bool.{eqb-true}
use Rattle.omos_model.specs.Names.{Name, same_name}
use Rattle.omos_model.specs.Numbers.{numbers_from}
use Rattle.omos_model.specs.Term.{Term, leaf_numbers}
use Rattle.omos_model.specs.Definition.{Meaning, definition}
use Rattle.omos_model.specs.State.{state, states, in_row, in_rows, is_open_as, is_open_in, landed}
use Rattle.omos_model.specs.State.{landing}
use Rattle.omos_model.specs.Expansion.{Visited, expansion}
use Rattle.omos_model.specs.declared.fragment.Fixup.{Fixup}
use Rattle.omos_model.specs.declared.mark.Landing.{Landing}
use Rattle.omos_model.specs.declared.mark.Mark.{Mark}
use Rattle.omos_model.specs.declared.mark.Mark.TheVariants.{Bound, Open}
use Rattle.omos_model.specs.declared.mark.MarkRow.{MarkRow}
use Rattle.omos_model.specs.Visit.{Visit}
use Rattle.omos_model.proofs.Leaves.{leaves_law}
use Rattle.omos_model.proofs.Names.{same_name-true, same_name-refl}
use Rattle.omos_model.proofs.TermLaws.{state-in_rows, states-numbers}
use Rattle.link_model.specs.Laws.{ModuleLandingsLaw, ProgramLandingsLaw, ReferencesLaw}
use Rattle.link_model.specs.Laws.{LeavesApartLaw, OpenLaw, IsOpenAt}
use Rattle.link_model.specs.Module.{Module, IsModule, landing_at}
use Rattle.link_model.specs.Program.{Part, Parts, Reference, landings_of, object_of, part_of}
use Rattle.link_model.specs.Program.{parts_of_term, reference_of, references_in}

-- ---- rows that are numbered from one on

abbrev numbers : List MarkRow → List ℕ
numbers rows = map (λ r. r.number) rows

same_number : (a b : ℕ) → a ≡ b → (a == b) ≡ true
same_number a b e = grind arith

other_number : (a b : ℕ) → (a ≡ b → ⊥) → (a == b) ≡ false
other_number a b e = go (a == b) refl
  where
    go : (c : Bool) → (a == b) ≡ c → c ≡ false
    go true h = absurd (e (eqb-true a b h))
    go false h = refl

-- the row's number and those of the rows behind it
head_number : (r : MarkRow) (rows : List MarkRow) (start count : ℕ)
    → numbers (r ∷ rows) ≡ numbers_from start count
    → (more : ℕ) × (r.number ≡ start) × (numbers rows ≡ numbers_from (start + 1) more)
head_number r rows start zero h = cc
head_number r rows start (suc more) h = (more, cc, cc)

-- no row has a number below the first
none_below : (rows : List MarkRow) (start count below more k : ℕ) → start ≡ below + 1 + more
    → numbers rows ≡ numbers_from start count → in_rows rows below k ≡ None
none_below [] start count below more k e h = refl
none_below (r ∷ rows) start count below more k e h =
    let parts = head_number r rows start count h in
    let apart : (below == r.number) ≡ false =
    other_number below r.number (λ same. omega (arith, e, same, parts.1)) in
    let next : start + 1 ≡ below + 1 + (more + 1) = omega (arith, e) in
    rw apart (none_below rows (start + 1) parts.0 below (more + 1) k next parts.2)

option_map_or_None : {X Y : Type 0} (f : X → Y) (a b : Option X) → b ≡ None
    → option_map f a ≡ option_map f (option_or a b)
option_map_or_None f None b e = sym (ap (option_map f) e)
option_map_or_None f (Some x) b e = refl

slice_get-map : {X Y : Type 0} (f : X → Y) (xs : List X) (k : ℕ)
    → slice_get (map f xs) k ≡ option_map f (slice_get xs k)
slice_get-map f [] k = refl
slice_get-map f (x ∷ xs) zero = refl
slice_get-map f (x ∷ xs) (suc k) = slice_get-map f xs k

-- item k of list i
abbrev item_at : List (List Landing) → ℕ → ℕ → Option Landing
item_at rows i k = slice_get (unwrap_or (slice_get rows i) []) k

-- what is made of each mark of each row is found by the row's number
by_number : (f : Mark → Landing) (rows : List MarkRow) (start count i k : ℕ)
    → numbers rows ≡ numbers_from start count
    → item_at (map (λ r. map f r.marks) rows) i k ≡ option_map f (in_rows rows (start + i) k)
by_number f [] start count i k h = refl
by_number f (r ∷ rows) start count zero k h =
    let parts = head_number r rows start count h in
    let same : (start + 0 == r.number) ≡ true =
    same_number (start + 0) r.number (omega (arith, parts.1)) in
    let below : start + 1 ≡ (start + 0) + 1 + 0 = omega arith in
    rw same
    (slice_get-map f r.marks k
    ∙ option_map_or_None f (slice_get r.marks k) (in_rows rows (start + 0) k)
    (none_below rows (start + 1) parts.0 (start + 0) 0 k below parts.2))
by_number f (r ∷ rows) start count (suc i) k h =
    let parts = head_number r rows start count h in
    let apart : (start + suc i == r.number) ≡ false =
    other_number (start + suc i) r.number (λ same. omega (arith, same, parts.1)) in
    let next : start + 1 + i ≡ start + suc i = omega arith in
    rw apart
    (by_number f rows (start + 1) parts.0 i k parts.2
    ∙ ap (λ n. option_map f (in_rows rows n k)) next)

-- ---- the leaves of an expansion

numbered : (t : Term) (count : ℕ) → leaf_numbers t ≡ numbers_from 0 count
    → (leaf k : ℕ) → item_at (map (landings_of t) (states t)) leaf k ≡ landing t leaf k
numbered t count h leaf k =
    let first : 0 + leaf ≡ leaf = omega arith in
    by_number (landed (definition t)) (states t) 0 count leaf k (states-numbers t ∙ h)
    ∙ ap (λ n. option_map (landed (definition t)) (in_rows (states t) n k)) first
    ∙ ap (option_map (landed (definition t))) (sym (state-in_rows t leaf k))

abbrev term_in : Term → Visited Term → Term
term_in t (Ok r) = r.0
term_in t (Err x) = t

same_term : (t u : Term) (v w : Visit) (a : Visited Term) → a ≡ Ok (t, v) → a ≡ Ok (u, w) → t ≡ u
same_term t u v w a h k = ap (term_in t) (sym h ∙ k)

pub module_landings_law : ModuleLandingsLaw
module_landings_law m h t v is leaf k =
    let e = h.2 in
    let same : h.0 ≡ t = same_term h.0 t h.1 v (expansion m.footprint m.path) e.expanded is in
    ap (λ rows. item_at rows leaf k)
    (e.landings ∙ ap (λ (u : Term). map (landings_of u) (states u)) same)
    ∙ numbered t v.leaves (leaves_law m.footprint m.path t v is) leaf k

landings-parts : (t : Term) (rows : List MarkRow)
    → map (λ (p : Part). p.landings) (map (part_of t) rows) ≡ map (landings_of t) rows
landings-parts t [] = refl
landings-parts t (r ∷ rows) = ap (λ ls. landings_of t r ∷ ls) (landings-parts t rows)

pub program_landings_law : ProgramLandingsLaw
program_landings_law ns path t v is leaf k =
    ap (λ rows. item_at rows leaf k) (landings-parts t (states t))
    ∙ numbered t v.leaves (leaves_law ns path t v is) leaf k

-- ---- each reference

module _ (t : Term) where
  abbrev Lands : Reference → Type 0
  Lands r = landing t r.leaf r.number ≡ Some r.landing

  all-append : (xs ys : List Reference) → AllByRecursion Lands xs → AllByRecursion Lands ys
      → AllByRecursion Lands (xs ++ ys)
  all-append [] ys h k = k
  all-append (x ∷ xs) ys h k = (h.0, all-append xs ys h.1 k)

  lands_in : (leaf first : ℕ) (fixups : List Fixup) (landings : List Landing)
      → ((k : ℕ) → slice_get landings k ≡ landing t leaf (first + k))
      → AllByRecursion Lands (map (reference_of leaf) (enumerate_from first (zip fixups landings)))
  lands_in leaf first [] landings h = tt
  lands_in leaf first (x ∷ fixups) [] h = tt
  lands_in leaf first (x ∷ fixups) (l ∷ landings) h =
      let here : first + 0 ≡ first = omega arith in
      let next : (k : ℕ) → first + suc k ≡ (first + 1) + k = λ k. omega arith in (
        sym (h 0 ∙ ap (landing t leaf) here),
        lands_in leaf (first + 1) fixups landings (λ k. h (suc k) ∙ ap (landing t leaf) (next k)),
      )

  all_land : (first : ℕ) (rows : List MarkRow)
      → ((i k : ℕ) → item_at (map (landings_of t) rows) i k ≡ landing t (first + i) k)
      → AllByRecursion Lands (flat_map references_in (enumerate_from first (map (part_of t) rows)))
  all_land first [] h = tt
  all_land first (r ∷ rows) h =
      let here : first + 0 ≡ first = omega arith in
      let next : (i : ℕ) → first + suc i ≡ (first + 1) + i = λ i. omega arith in
      all-append (references_in (first, part_of t r))
      (flat_map references_in (enumerate_from (first + 1) (map (part_of t) rows)))
      (lands_in first 0 (object_of r.entry).fixups (landings_of t r)
      (λ k. let same : k ≡ 0 + k = omega arith in
      h 0 k ∙ ap (λ n. landing t n k) here ∙ ap (landing t first) same))
      (all_land (first + 1) rows (λ i k. h (suc i) k ∙ ap (λ n. landing t n k) (next i)))

pub references_law : ReferencesLaw
references_law ns path t v is =
    let first : (i : ℕ) → i ≡ 0 + i = λ i. omega arith in
    all_land t 0 (states t)
    (λ i k. numbered t v.leaves (leaves_law ns path t v is) i k ∙ ap (λ n. landing t n k) (first i))

-- ---- leaves stand apart

apart_from : (number start count more : ℕ) → start ≡ number + 1 + more
    → AllByRecursion (λ n. (number == n) ≡ false) (numbers_from start count)
apart_from number start zero more e = tt
apart_from number start (suc count) more e =
    let next : start + 1 ≡ number + 1 + (more + 1) = omega (arith, e) in (
      other_number number start (λ same. omega (arith, e, same)),
      apart_from number (start + 1) count (more + 1) next,
    )

run_apart : (start count : ℕ) → IsDistinct ◌==◌ (numbers_from start count)
unfolding IsDistinct
run_apart start zero = tt
run_apart start (suc count) =
    let next : start + 1 ≡ start + 1 + 0 = omega arith in
    (apart_from start (start + 1) count 0 next, run_apart (start + 1) count)

pub leaves_apart_law : LeavesApartLaw
leaves_apart_law ns path t v is =
    subst (IsDistinct ◌==◌) (sym (leaves_law ns path t v is)) (run_apart 0 v.leaves)

-- ---- names that are open

open_as : (x : Name) (m : Mark) → is_open_as x m ≡ true → m ≡ Open x
open_as x (Open y) h = sym (ap Open (same_name-true x y h))
open_as x (Bound d) h = cc

opens_as : (x : Name) → is_open_as x (Open x) ≡ true
opens_as x = same_name-refl x x refl

open_in_row : (x : Name) (marks : List Mark) → list_any (is_open_as x) marks ≡ true
    → (k : ℕ) × (slice_get marks k ≡ Some (Open x))
open_in_row x [] h = cc
open_in_row x (m ∷ marks) h = go (is_open_as x m) refl h (open_in_row x marks)
  where
    go : (b : Bool) → is_open_as x m ≡ b → (b || list_any (is_open_as x) marks) ≡ true
        → (list_any (is_open_as x) marks ≡ true → (k : ℕ) × (slice_get marks k ≡ Some (Open x)))
        → (k : ℕ) × (slice_get (m ∷ marks) k ≡ Some (Open x))
    go true e i rest = (0, ap Some (open_as x m e))
    go false e i rest = (suc (rest i).0, (rest i).1)

row_opens : (x : Name) (marks : List Mark) (k : ℕ) → slice_get marks k ≡ Some (Open x)
    → list_any (is_open_as x) marks ≡ true
row_opens x [] k h = cc
row_opens x (m ∷ marks) zero h =
    let is : m ≡ Open x = cc in
    rw (ap (is_open_as x) is ∙ opens_as x) refl
row_opens x (m ∷ marks) (suc k) h = go (is_open_as x m) (row_opens x marks k h)
  where
    go : (b : Bool) → list_any (is_open_as x) marks ≡ true
        → (b || list_any (is_open_as x) marks) ≡ true
    go true i = refl
    go false i = i

-- a leaf whose reference is there is among the numbers
among_numbers : (number : ℕ) (rows : List MarkRow) (leaf k : ℕ) (m : Mark)
    → AllByRecursion (λ n. (number == n) ≡ false) (numbers rows)
    → in_rows rows leaf k ≡ Some m → (leaf == number) ≡ false
among_numbers number [] leaf k m apart h = cc
among_numbers number (r ∷ rows) leaf k m apart h =
    go (leaf == r.number) refl h (among_numbers number rows leaf k m apart.1)
  where
    go : (b : Bool) → (leaf == r.number) ≡ b
        → option_or (cond b (slice_get r.marks k) None) (in_rows rows leaf k) ≡ Some m
        → (in_rows rows leaf k ≡ Some m → (leaf == number) ≡ false)
        → (leaf == number) ≡ false
    go true e i rest =
        other_number leaf number (λ same.
        let no : (number == r.number) ≡ false = apart.0 in
        let yes : (number == r.number) ≡ true = ap (λ n. n == r.number) (sym same) ∙ e in cc)
    go false e i rest = rest i

found_open : (x : Name) (rows : List MarkRow) → IsDistinct ◌==◌ (numbers rows)
    → is_open_in rows x ≡ true → (leaf : ℕ) × (k : ℕ) × (in_rows rows leaf k ≡ Some (Open x))
unfolding IsDistinct
found_open x [] apart h = cc
found_open x (r ∷ rows) apart h =
    go (list_any (is_open_as x) r.marks) refl h (found_open x rows apart.1)
  where
    go : (b : Bool) → list_any (is_open_as x) r.marks ≡ b → (b || is_open_in rows x) ≡ true
        → (is_open_in rows x ≡ true
        → (leaf : ℕ) × (k : ℕ) × (in_rows rows leaf k ≡ Some (Open x)))
        → (leaf : ℕ) × (k : ℕ) × (in_rows (r ∷ rows) leaf k ≡ Some (Open x))
    go true e i rest =
        let here = open_in_row x r.marks e in
        (r.number, here.0, rw (same_number r.number r.number refl, here.1) refl)
    go false e i rest =
        let there = rest i in
        let other = among_numbers r.number rows there.0 there.1 (Open x) apart.0 there.2 in
        (there.0, there.1, rw other there.2)

opens : (x : Name) (rows : List MarkRow) (leaf k : ℕ) → in_rows rows leaf k ≡ Some (Open x)
    → is_open_in rows x ≡ true
opens x [] leaf k h = cc
opens x (r ∷ rows) leaf k h =
    go (leaf == r.number) (slice_get r.marks k) refl h (opens x rows leaf k)
  where
    either : (a b : Bool) → b ≡ true → (a || b) ≡ true
    either true b e = refl
    either false b e = e

    go : (b : Bool) (o : Option Mark) → slice_get r.marks k ≡ o
        → option_or (cond b o None) (in_rows rows leaf k) ≡ Some (Open x)
        → (in_rows rows leaf k ≡ Some (Open x) → is_open_in rows x ≡ true)
        → (list_any (is_open_as x) r.marks || is_open_in rows x) ≡ true
    go true (Some m) e i rest =
        let is : slice_get r.marks k ≡ Some (Open x) = e ∙ i in rw (row_opens x r.marks k is) refl
    go true None e i rest = either (list_any (is_open_as x) r.marks) (is_open_in rows x) (rest i)
    go false o e i rest = either (list_any (is_open_as x) r.marks) (is_open_in rows x) (rest i)

pub open_law : OpenLaw
open_law t apart x = (to, from)
  where
    to : is_open_in (states t) x ≡ true → IsOpenAt t x
    to h =
        let found =
        found_open x (states t) (subst (IsDistinct ◌==◌) (sym (states-numbers t)) apart) h in
        (found.0, found.1, state-in_rows t found.0 found.1 ∙ found.2)

    from : IsOpenAt t x → is_open_in (states t) x ≡ true
    from h = opens x (states t) h.0 h.1 (sym (state-in_rows t h.0 h.1) ∙ h.2)
