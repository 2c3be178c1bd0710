-- What a term defines, refers to and is refused for, when its leaves have other numbers.
use Rattle.std.proofs.Common.{◌≡◌, ℕ, ◌+◌, Bool, true, false, not, ◌&&◌, ◌||◌, List, [], ◌∷◌, ◌++◌}
use Rattle.std.proofs.Common.{Option, Some, None, refl, sym, ap, ◌∙◌, cond, map}
use Rattle.std.specs.Prelude.{is_some}
use Rattle.std.specs.List.{find, list_any}
use Rattle.std.specs.Option.{option_map, option_or}
use Rattle.omos_model.specs.Names.{Name, same_name}
use Rattle.omos_model.specs.NameLists.{is_among, least}
use Rattle.omos_model.specs.Op.{Op, Rename, Restrict, Freeze, Hide, Show, CopyAs}
use Rattle.omos_model.specs.Term.{Term, Leaf, Merge, Override, Apply}
use Rattle.omos_model.specs.Definition.{Meaning, target_of, exported, defined_by, definition}
use Rattle.omos_model.specs.Definition.{is_defined, written, given_by}
use Rattle.omos_model.specs.State.{mark_of, marked_by, opened_by, bound_to, states, remarked}
use Rattle.omos_model.specs.State.{is_open, is_open_in, is_open_as}
use Rattle.omos_model.specs.FirstRefusal.{both_define, conflict, first_refusal, refused_by}
use Rattle.omos_model.specs.declared.entry.Entry.TheVariants.{Object}
use Rattle.omos_model.specs.declared.fragment.Aim.{Aim}
use Rattle.omos_model.specs.declared.fragment.Aim.TheVariants as aim
use Rattle.omos_model.specs.declared.fragment.Export.{Export}
use Rattle.omos_model.specs.declared.fragment.Fixup.{Fixup}
use Rattle.omos_model.specs.declared.fragment.Spot.{Spot}
use Rattle.omos_model.specs.declared.fragment.Spot.TheVariants as spot
use Rattle.omos_model.specs.declared.mark.Mark.{Mark}
use Rattle.omos_model.specs.declared.mark.Mark.TheVariants.{Bound, Open}
use Rattle.omos_model.specs.declared.mark.MarkRow.{MarkRow}
use Rattle.omos_model.specs.declared.mark.Target.{Target}
use Rattle.omos_model.specs.declared.refusal.Refusal.{Refusal}
use Rattle.omos_model.specs.declared.refusal.Refusal.TheVariants as refusal
use Rattle.omos_model.specs.declared.refusal.Site.{Site}
use Rattle.module_share.specs.Shifted.{raised, shifted_target, shifted_mark, shifted_row, shifted}

-- ---- options and lists

some_mapped : {X Y : Type 0} (f : X → Y) (o : Option X) → is_some (option_map f o) ≡ is_some o
some_mapped f None = refl
some_mapped f (Some x) = refl

or_mapped : {X Y : Type 0} (f : X → Y) (a b : Option X)
    → option_or (option_map f a) (option_map f b) ≡ option_map f (option_or a b)
or_mapped f None b = refl
or_mapped f (Some x) b = refl

cond_mapped : {X Y : Type 0} (f : X → Y) (b : Bool) (o p : Option X)
    → cond b (option_map f o) (option_map f p) ≡ option_map f (cond b o p)
cond_mapped f true o p = refl
cond_mapped f false o p = refl

mapped_twice : {X Y Z : Type 0} (f : X → Y) (g : Y → Z) (h : X → Z) → ((x : X) → h x ≡ g (f x))
    → (o : Option X) → option_map h o ≡ option_map g (option_map f o)
mapped_twice f g h e None = refl
mapped_twice f g h e (Some x) = ap Some (e x)

map_twice : {X Y Z : Type 0} (f : X → Y) (g : Y → Z) (h : X → Z) → ((x : X) → h x ≡ g (f x))
    → (xs : List X) → map h xs ≡ map g (map f xs)
map_twice f g h e [] = refl
map_twice f g h e (x ∷ xs) = λ i. e x i ∷ map_twice f g h e xs i

map_both : {X Y : Type 0} (f : X → Y) (xs ys : List X) → map f xs ++ map f ys ≡ map f (xs ++ ys)
map_both f [] ys = refl
map_both f (x ∷ xs) ys = ap (λ zs. f x ∷ zs) (map_both f xs ys)

module _ (k : ℕ) where
  -- ---- definitions

  moved : Meaning → Meaning
  moved u n = option_map (shifted_target k) (u n)

  target_moved : (leaf : ℕ) (s : Spot)
      → target_of (raised k leaf) s ≡ shifted_target k (target_of leaf s)
  target_moved leaf (spot.Inside piece offset) = refl
  target_moved leaf (spot.Fixed value) = refl

  exported_moved : (leaf : ℕ) (xs : List Export) (n : Name)
      → exported (raised k leaf) xs n ≡ option_map (shifted_target k) (exported leaf xs n)
  exported_moved leaf xs n =
      mapped_twice (λ (x : Export). target_of leaf x.spot) (shifted_target k)
      (λ (x : Export). target_of (raised k leaf) x.spot)
      (λ x. target_moved leaf x.spot) (find (λ x. same_name n x.name) xs)

  defined_moved : (op : Op) (u : Meaning) (n : Name)
      → defined_by op (λ m. option_map (shifted_target k) (u m)) n
      ≡ option_map (shifted_target k) (defined_by op u n)
  defined_moved (Rename a b) u n =
      ap (λ c. cond c
      (cond (same_name b n) (option_map (shifted_target k) (u a))
      (cond (same_name a n) None (option_map (shifted_target k) (u n))))
      (option_map (shifted_target k) (u n)))
      (some_mapped (shifted_target k) (u a))
      ∙ ap (λ o. cond (is_some (u a)) o (option_map (shifted_target k) (u n)))
      (ap (λ o. cond (same_name b n) (option_map (shifted_target k) (u a)) o)
      (cond_mapped (shifted_target k) (same_name a n) None (u n))
      ∙ cond_mapped (shifted_target k) (same_name b n) (u a) (cond (same_name a n) None (u n)))
      ∙ cond_mapped (shifted_target k) (is_some (u a))
      (cond (same_name b n) (u a) (cond (same_name a n) None (u n))) (u n)
  defined_moved (Restrict a) u n = cond_mapped (shifted_target k) (same_name a n) None (u n)
  defined_moved (Freeze a) u n = refl
  defined_moved (Hide a) u n = cond_mapped (shifted_target k) (same_name a n) None (u n)
  defined_moved (Show names) u n = cond_mapped (shifted_target k) (is_among names n) (u n) None
  defined_moved (CopyAs a b) u n = cond_mapped (shifted_target k) (same_name b n) (u a) (u n)

  -- each name has the target that it had, at the other number
  pub definition_shifted : (t : Term) (n : Name)
      → definition (shifted k t) n ≡ option_map (shifted_target k) (definition t n)
  definition_shifted (Leaf s number f) n = exported_moved number f.exports n
  definition_shifted (Merge s l r) n =
      (λ i. option_or (definition_shifted l n i) (definition_shifted r n i))
      ∙ or_mapped (shifted_target k) (definition l n) (definition r n)
  definition_shifted (Override s l r) n =
      (λ i. option_or (definition_shifted r n i) (definition_shifted l n i))
      ∙ or_mapped (shifted_target k) (definition r n) (definition l n)
  definition_shifted (Apply s op u) n =
      (λ i. defined_by op (λ m. definition_shifted u m i) n) ∙ defined_moved op (definition u) n

  -- ---- references

  mark_moved : (leaf : ℕ) (a : Aim) → mark_of (raised k leaf) a ≡ shifted_mark k (mark_of leaf a)
  mark_moved leaf (aim.At s) = ap Bound (target_moved leaf s)
  mark_moved leaf (aim.Name name weak) = refl

  bound_moved : (o : Option Target) (x : Name)
      → bound_to (option_map (shifted_target k) o) x ≡ shifted_mark k (bound_to o x)
  bound_moved None x = refl
  bound_moved (Some d) x = refl

  cond_mark : (b : Bool) (l m : Mark)
      → cond b (shifted_mark k l) (shifted_mark k m) ≡ shifted_mark k (cond b l m)
  cond_mark true l m = refl
  cond_mark false l m = refl

  opened_moved : (op : Op) (u : Meaning) (x : Name)
      → opened_by op (λ m. option_map (shifted_target k) (u m)) x
      ≡ shifted_mark k (opened_by op u x)
  opened_moved (Rename a b) u x = cond_mark (same_name a x) (Open b) (Open x)
  opened_moved (Restrict a) u x = refl
  opened_moved (Freeze a) u x =
      ap (λ m. cond (same_name a x) m (Open x)) (bound_moved (u a) x)
      ∙ cond_mark (same_name a x) (bound_to (u a) x) (Open x)
  opened_moved (Hide a) u x =
      ap (λ m. cond (same_name a x) m (Open x)) (bound_moved (u a) x)
      ∙ cond_mark (same_name a x) (bound_to (u a) x) (Open x)
  opened_moved (Show names) u x =
      ap (λ m. cond (is_among names x) (Open x) m) (bound_moved (u x) x)
      ∙ cond_mark (is_among names x) (Open x) (bound_to (u x) x)
  opened_moved (CopyAs a b) u x = refl

  marked_moved : (op : Op) (u : Meaning) (m : Mark)
      → marked_by op (λ n. option_map (shifted_target k) (u n)) (shifted_mark k m)
      ≡ shifted_mark k (marked_by op u m)
  marked_moved op u (Bound d) = refl
  marked_moved op u (Open x) = opened_moved op u x

  row_moved : (op : Op) (u : Meaning) (r : MarkRow)
      → shifted_row k (remarked (marked_by op u) r)
      ≡ remarked (marked_by op (λ n. option_map (shifted_target k) (u n))) (shifted_row k r)
  row_moved op u r = λ i. record r { number = raised k r.number; marks = marks i }
    where
      marks : map (shifted_mark k) (map (marked_by op u) r.marks)
          ≡ map (marked_by op (λ n. option_map (shifted_target k) (u n)))
          (map (shifted_mark k) r.marks)
      marks =
          sym (map_twice (marked_by op u) (shifted_mark k) (λ m. shifted_mark k (marked_by op u m))
          (λ m. refl) r.marks)
          ∙ map_twice (shifted_mark k) (marked_by op (λ n. option_map (shifted_target k) (u n)))
          (λ m. shifted_mark k (marked_by op u m)) (λ m. sym (marked_moved op u m)) r.marks

  rows_moved : (op : Op) (u : Meaning) (rows : List MarkRow)
      → map (remarked (marked_by op (λ n. option_map (shifted_target k) (u n))))
      (map (shifted_row k) rows)
      ≡ map (shifted_row k) (map (remarked (marked_by op u)) rows)
  rows_moved op u [] = refl
  rows_moved op u (r ∷ rows) = λ i. sym (row_moved op u r) i ∷ rows_moved op u rows i

  -- each reference is what it was, at the other number
  pub states_shifted : (t : Term) → states (shifted k t) ≡ map (shifted_row k) (states t)
  states_shifted (Leaf s number f) =
      λ i. record { number = raised k number; entry = Object f; marks = marks i } ∷ []
    where
      marks : map (λ (x : Fixup). mark_of (raised k number) x.aim) f.fixups
          ≡ map (shifted_mark k) (map (λ (x : Fixup). mark_of number x.aim) f.fixups)
      marks =
          map_twice (λ (x : Fixup). mark_of number x.aim) (shifted_mark k)
          (λ (x : Fixup). mark_of (raised k number) x.aim)
          (λ x. mark_moved number x.aim) f.fixups
  states_shifted (Merge s l r) =
      (λ i. states_shifted l i ++ states_shifted r i)
      ∙ map_both (shifted_row k) (states l) (states r)
  states_shifted (Override s l r) =
      (λ i. states_shifted l i ++ states_shifted r i)
      ∙ map_both (shifted_row k) (states l) (states r)
  states_shifted (Apply s op u) =
      (λ i. map (remarked (marked_by op (λ n. definition_shifted u n i))) (states_shifted u i))
      ∙ rows_moved op (definition u) (states u)

  -- ---- refusals

  open_mark : (x : Name) (ms : List Mark)
      → list_any (is_open_as x) (map (shifted_mark k) ms) ≡ list_any (is_open_as x) ms
  open_mark x [] = refl
  open_mark x (Bound d ∷ ms) = ap (λ b. false || b) (open_mark x ms)
  open_mark x (Open y ∷ ms) = ap (λ b. same_name x y || b) (open_mark x ms)

  open_rows : (rows : List MarkRow) (x : Name)
      → is_open_in (map (shifted_row k) rows) x ≡ is_open_in rows x
  open_rows [] x = refl
  open_rows (r ∷ rows) x = λ i. open_mark x r.marks i || open_rows rows x i

  open_shifted : (t : Term) (x : Name) → is_open (shifted k t) x ≡ is_open t x
  open_shifted t x = ap (λ rows. is_open_in rows x) (states_shifted t) ∙ open_rows (states t) x

  find_missing : (u : Meaning) (names : List Name)
      → find (λ n. not (is_some (option_map (shifted_target k) (u n)))) names
      ≡ find (λ n. not (is_some (u n))) names
  find_missing u names = λ i. find (λ n. not (some_mapped (shifted_target k) (u n) i)) names

  refused_moved : (s : Site) (op : Op) (u : Meaning) (test : Name → Bool)
      → refused_by s op (λ n. option_map (shifted_target k) (u n)) test ≡ refused_by s op u test
  refused_moved s (Rename a b) u test =
      λ i.
      option_or
      (cond (not (some_mapped (shifted_target k) (u a) i) && not (test a))
      (Some (refusal.NoName s a)) None)
      (cond (not (same_name a b) && some_mapped (shifted_target k) (u a) i
      && some_mapped (shifted_target k) (u b) i) (Some (refusal.Taken s b)) None)
  refused_moved s (Restrict a) u test =
      λ i. cond (not (some_mapped (shifted_target k) (u a) i)) (Some (refusal.NoDefinition s a))
      None
  refused_moved s (Freeze a) u test =
      λ i. cond (not (some_mapped (shifted_target k) (u a) i)) (Some (refusal.NoDefinition s a))
      None
  refused_moved s (Hide a) u test =
      λ i. cond (not (some_mapped (shifted_target k) (u a) i)) (Some (refusal.NoDefinition s a))
      None
  refused_moved s (Show names) u test =
      ap (option_map (refusal.NoDefinition s)) (find_missing u names)
  refused_moved s (CopyAs a b) u test =
      λ i.
      option_or
      (cond (not (some_mapped (shifted_target k) (u a) i)) (Some (refusal.NoDefinition s a))
      None)
      (cond (some_mapped (shifted_target k) (u b) i) (Some (refusal.Taken s b)) None)

  written_shifted : (t : Term) → written (shifted k t) ≡ written t
  written_shifted (Leaf s number f) = refl
  written_shifted (Merge s l r) = λ i. written_shifted l i ++ written_shifted r i
  written_shifted (Override s l r) = λ i. written_shifted l i ++ written_shifted r i
  written_shifted (Apply s op u) = ap (λ ns. given_by op ++ ns) (written_shifted u)

  defined_shifted : (t : Term) (n : Name) → is_defined (shifted k t) n ≡ is_defined t n
  defined_shifted t n =
      ap is_some (definition_shifted t n) ∙ some_mapped (shifted_target k) (definition t n)

  conflict_shifted : (l r : Term) → conflict (shifted k l) (shifted k r) ≡ conflict l r
  conflict_shifted l r =
      λ i. least (λ n. defined_shifted l n i && defined_shifted r n i) (written_shifted l i)

  -- it is refused where it was, for what it was
  pub first_refusal_shifted : (t : Term) → first_refusal (shifted k t) ≡ first_refusal t
  first_refusal_shifted (Leaf s number f) = refl
  first_refusal_shifted (Merge s l r) =
      λ i.
      option_or (first_refusal_shifted l i)
      (option_or (first_refusal_shifted r i)
      (option_map (refusal.Conflict s) (conflict_shifted l r i)))
  first_refusal_shifted (Override s l r) =
      λ i. option_or (first_refusal_shifted l i) (first_refusal_shifted r i)
  first_refusal_shifted (Apply s op u) =
      λ i. option_or (first_refusal_shifted u i) (own i)
    where
      own : refused_by s op (definition (shifted k u)) (is_open (shifted k u))
          ≡ refused_by s op (definition u) (is_open u)
      own =
          (λ i. refused_by s op (λ n. definition_shifted u n i) (λ x. open_shifted u x i))
          ∙ refused_moved s op (definition u) (is_open u)
