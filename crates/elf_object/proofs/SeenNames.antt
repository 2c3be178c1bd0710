-- What was seen of names, as one more is met.
use Rattle.std.proofs.Common.{◌≡◌, ℕ, ◌+◌, ◌%◌, ◌<◌, ◌≤◌, ◌==◌, Bool, true, false, not}
use Rattle.std.proofs.Common.{◌&&◌, ◌||◌, List, length, refl, sym, ap, ◌∙◌, cond, arith, get_or}
use Rattle.std.proofs.Common.{replicate}
use Rattle.std.proofs.Math.ListN.{set}
use Rattle.std.proofs.Math.Nat.{mod-lt}
use Rattle.std.specs.Prelude.{nat_lt}
use Rattle.std.specs.Ordering.{is_eq}
use Rattle.std.proofs.lemmas.Bool.{and_right, eqb-false, eqb-true, false_from_ne_true}
use Rattle.std.proofs.lemmas.Bool.{ltb-false, ltb-true}
use Rattle.std.proofs.lemmas.List.{get_or-replicate, get_or-set_other, get_or-set_same, get_or_past}
use Rattle.std.proofs.lemmas.List.{length-replicate, length-set}
use Rattle.omos_model.specs.ElfFields.{name_of}
use Rattle.omos_model.specs.ElfFaults.{is_again, is_export}
use Rattle.omos_model.specs.Names.{Name, name_cmp, same_name}
use Rattle.std.specs.Cmp.{both_tied}
use Rattle.std.specs.Ordering.{nat_cmp}
use Rattle.std.proofs.lemmas.Cmp.{nat_cmp_total, tied_itself}
use Rattle.omos_model.proofs.Names.{is_eq-name_cmp, same_name-swap, same_name-true}
use Rattle.elf_object.specs.inside.Seen.{HaveSeen, digest, symbol_in_place, is_defined_below}
use Rattle.elf_object.specs.inside.Seen.{is_held_name}
use Rattle.elf_object.specs.inside.Seen.{name_order}
use Rattle.elf_object.proofs.DefinedBelow.{again_as, below_export, below_other}

abbrev place : List ℕ → Name → ℕ
place places n = digest n % length places

-- ---- the order of names

-- names that it ties are the same
is_eq-name_order : (a b : Name) → is_eq (name_order a b) ≡ same_name a b
is_eq-name_order a b =
    sym (both_tied (is_eq (nat_cmp (digest a) (digest b))) (same_name a b)
    (nat_cmp (digest a) (digest b)) (name_cmp a b) refl (sym (is_eq-name_cmp a b)))
    ∙ go (same_name a b) refl
  where
    go : (s : Bool) → same_name a b ≡ s
        → (is_eq (nat_cmp (digest a) (digest b)) && same_name a b) ≡ same_name a b
    go true e =
        ap (λ x. x && same_name a b)
        (ap (λ n. is_eq (nat_cmp (digest a) (digest n))) (sym (same_name-true a b e))
        ∙ ap is_eq (tied_itself nat_cmp_total (digest a)))
    go false e =
        ap (λ s. is_eq (nat_cmp (digest a) (digest b)) && s) e
        ∙ and_right (is_eq (nat_cmp (digest a) (digest b))) false refl ∙ sym e

-- ---- a free place

free_held : (file places : List ℕ) (n : Name) → symbol_in_place places n ≡ 0
    → is_held_name file places n ≡ false
free_held file places n free =
    ap (λ (j : ℕ). not (j == 0) && same_name n (name_of file j)) free

free_below : (file : List ℕ) (k : ℕ) (places : List ℕ) (others : Name → Bool) (n : Name)
    → HaveSeen file k places others → symbol_in_place places n ≡ 0
    → is_defined_below file k n ≡ false
free_below file k places others n seen free =
    seen.defined n ∙ ap (λ b. b || others n) (free_held file places n free) ∙ seen.taken n free

pub free_new : (file : List ℕ) (k : ℕ) (places : List ℕ) (others : Name → Bool) (name : Name)
    → is_export file k ≡ true → name ≡ name_of file k → HaveSeen file k places others
    → symbol_in_place places name ≡ 0 → is_again file k ≡ false
free_new file k places others name export same seen free =
    again_as file k name false export same (free_below file k places others name seen free)

-- ---- names by places

abbrev free_places : ℕ → List ℕ
free_places count = replicate count 0

zero_at : (n p : ℕ) → get_or (free_places n) p 0 ≡ 0
zero_at n p = go (nat_lt p n) refl
  where
    go : (b : Bool) → nat_lt p n ≡ b → get_or (free_places n) p 0 ≡ 0
    go true e = get_or-replicate {A = ℕ} n p 0 0 (ltb-true p n e)
    go false e =
        let past : n ≤ p = ltb-false p n e in
        get_or_past (free_places n) p 0 (omega (arith, past, length-replicate {A = ℕ} n 0))

-- a table of free places, where nothing was seen
pub nothing_seen : (file : List ℕ) (count : ℕ) (others : Name → Bool) → 0 < count
    → ((n : Name) → others n ≡ false) → HaveSeen file 1 (free_places count) others
nothing_seen file count others some none =
    record {
      some = omega (arith, some, length-replicate {A = ℕ} count 0);
      below = λ p. omega (arith, zero_at count p);
      defined = λ n.
          sym (ap (λ b. b || others n) (free_held file (free_places count) n (zero_at count _))
          ∙ none n);
      taken = λ n _. none n;
    }

-- a symbol that is no export leaves what was seen
pub seen_still : (file : List ℕ) (k : ℕ) (places : List ℕ) (others : Name → Bool) → 1 ≤ k
    → is_export file k ≡ false → HaveSeen file k places others
    → HaveSeen file (k + 1) places others
seen_still file k places others low none seen =
    record {
      some = seen.some;
      below = λ p. omega (arith, seen.below p);
      defined = λ n. below_other file k n low none ∙ seen.defined n;
      taken = seen.taken;
    }

or_regroup : (a b c : Bool) → ((a || b) || c) ≡ (a || cond c true b)
or_regroup true b c = refl
or_regroup false true true = refl
or_regroup false true false = refl
or_regroup false false true = refl
or_regroup false false false = refl

or_false : (b : Bool) → (b || false) ≡ b
or_false true = refl
or_false false = refl

nonzero : (k : ℕ) → 1 ≤ k → (k == 0) ≡ false
nonzero k low =
    false_from_ne_true _ (λ e. let z : k ≡ 0 = eqb-true k 0 e in absurd (omega (arith, low, z)))

module _ (file : List ℕ) (k : ℕ) (places : List ℕ) (others : Name → Bool) (name : Name)
    (low : 1 ≤ k) (export : is_export file k ≡ true) (same : name ≡ name_of file k)
    (seen : HaveSeen file k places others) where
  abbrev put : List ℕ
  put = set places (place places name) k

  inside : place places name < length places
  inside = mod-lt (digest name) seen.some

  put_place : (n : Name) → symbol_in_place put n ≡ get_or put (place places n) 0
  put_place n =
      ap (λ (c : ℕ). get_or put (digest n % c) 0) (length-set places (place places name) k)

  put_here : (n : Name) → place places n ≡ place places name → symbol_in_place put n ≡ k
  put_here n e =
      put_place n ∙ ap (λ (p : ℕ). get_or put p 0) e
      ∙ get_or-set_same places (place places name) k 0 inside

  put_other : (n : Name) → (place places n ≡ place places name → ⊥)
      → symbol_in_place put n ≡ symbol_in_place places n
  put_other n apart =
      put_place n ∙ get_or-set_other places (place places name) (place places n) k 0 apart

  apart_names : (n : Name) → (place places n ≡ place places name → ⊥)
      → same_name n name ≡ false
  apart_names n apart =
      false_from_ne_true _ (λ e. apart (ap (place places) (same_name-true n name e)))

  held_here : (n : Name) → symbol_in_place put n ≡ k → is_held_name file put n ≡ same_name n name
  held_here n e =
      ap (λ (j : ℕ). not (j == 0) && same_name n (name_of file j)) e
      ∙ ap (λ b. not b && same_name n (name_of file k)) (nonzero k low)
      ∙ ap (same_name n) (sym same)

  below_at : (p : ℕ) (b : Bool) → (p == place places name) ≡ b → get_or put p 0 < k + 1
  below_at p true e =
      let here : get_or put p 0 ≡ k =
      ap (λ (q : ℕ). get_or put q 0) (eqb-true p (place places name) e)
      ∙ get_or-set_same places (place places name) k 0 inside in
      omega (arith, here)
  below_at p false e =
      let other : get_or put p 0 ≡ get_or places p 0 =
      get_or-set_other places (place places name) p k 0 (eqb-false p (place places name) e) in
      omega (arith, other, seen.below p)

  defined_at : symbol_in_place places name ≡ 0 → (n : Name) (b : Bool)
      → (place places n == place places name) ≡ b
      → is_defined_below file (k + 1) n ≡ (is_held_name file put n || others n)
  defined_at free n true e =
      let here = eqb-true (place places n) (place places name) e in
      let none : symbol_in_place places n ≡ 0 = ap (λ (p : ℕ). get_or places p 0) here ∙ free in
      below_export file k name n low export same
      ∙ ap (λ b. b || same_name n name) (free_below file k places others n seen none)
      ∙ sym (ap (λ b. b || others n) (held_here n (put_here n here))
      ∙ ap (λ b. same_name n name || b) (seen.taken n none) ∙ or_false (same_name n name))
  defined_at free n false e =
      let apart = eqb-false (place places n) (place places name) e in
      below_export file k name n low export same
      ∙ ap (λ b. is_defined_below file k n || b) (apart_names n apart)
      ∙ or_false (is_defined_below file k n) ∙ seen.defined n
      ∙ ap (λ (j : ℕ). not (j == 0) && same_name n (name_of file j) || others n)
      (sym (put_other n apart))

  taken_at : (n : Name) (b : Bool) → (place places n == place places name) ≡ b
      → symbol_in_place put n ≡ 0 → others n ≡ false
  taken_at n true e h =
      let here = put_here n (eqb-true (place places n) (place places name) e) in
      absurd (omega (arith, h, here, low))
  taken_at n false e h =
      seen.taken n (sym (put_other n (eqb-false (place places n) (place places name) e)) ∙ h)

  -- the name takes its free place
  pub seen_put : symbol_in_place places name ≡ 0 → HaveSeen file (k + 1) put others
  seen_put free =
      record {
        some = omega (arith, seen.some, length-set places (place places name) k);
        below = λ p. below_at p (p == place places name) refl;
        defined = λ n. defined_at free n (place places n == place places name) refl;
        taken = λ n. taken_at n (place places n == place places name) refl;
      }

  -- ---- a place that is taken

  abbrev there : ℕ
  there = symbol_in_place places name

  -- by the same name
  pub again_held : (there ≡ 0 → ⊥) → same_name name (name_of file there) ≡ true
      → is_again file k ≡ true
  again_held some is =
      let zero : (there == 0) ≡ false = false_from_ne_true _ (λ e. some (eqb-true there 0 e)) in
      again_as file k name true export same
      (seen.defined name
      ∙ ap (λ b. not b && same_name name (name_of file there) || others name) zero
      ∙ ap (λ b. b || others name) is)

  -- by another: then the others decide
  pub again_other : same_name name (name_of file there) ≡ false → (b : Bool) → others name ≡ b
      → is_again file k ≡ b
  again_other is b e =
      again_as file k name b export same
      (seen.defined name
      ∙ ap (λ x. x || others name)
      (ap (λ x. not (there == 0) && x) is ∙ and_right (not (there == 0)) false refl)
      ∙ e)

  more_is : (more : Name → Bool)
      → ((n : Name) → more n ≡ cond (is_eq (name_order name n)) true (others n))
      → (n : Name) → more n ≡ cond (same_name n name) true (others n)
  more_is more e n =
      e n ∙ ap (λ b. cond b true (others n)) (is_eq-name_order name n ∙ same_name-swap name n)

  more_taken : (more : Name → Bool) → (there ≡ 0 → ⊥)
      → ((n : Name) → more n ≡ cond (same_name n name) true (others n))
      → (n : Name) → symbol_in_place places n ≡ 0 → (b : Bool) → same_name n name ≡ b
      → more n ≡ false
  more_taken more some e n free true is =
      absurd (some (ap (symbol_in_place places) (sym (same_name-true n name is)) ∙ free))
  more_taken more some e n free false is =
      e n ∙ ap (λ b. cond b true (others n)) is ∙ seen.taken n free

  -- and have it from then on
  pub seen_more : (there ≡ 0 → ⊥) → (more : Name → Bool)
      → ((n : Name) → more n ≡ cond (is_eq (name_order name n)) true (others n))
      → HaveSeen file (k + 1) places more
  seen_more some more e =
      record {
        some = seen.some;
        below = λ p. omega (arith, seen.below p);
        defined = λ n.
            below_export file k name n low export same
            ∙ ap (λ b. b || same_name n name) (seen.defined n)
            ∙ or_regroup (is_held_name file places n) (others n) (same_name n name)
            ∙ ap (λ b. is_held_name file places n || b) (sym (more_is more e n));
        taken = λ n free.
            more_taken more some (more_is more e) n free (same_name n name) refl;
      }
