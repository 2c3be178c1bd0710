-- The names that a search for one defined twice has met, in two places: a table by a number made
-- of a name's bytes, and a set of the names whose place there was taken.
use Rattle.std.specs.Prelude.{◌≡◌, ℕ, ◌-◌, ◌%◌, ◌<◌, ◌==◌, Bool, false, not, ◌&&◌, ◌||◌, List}
use Rattle.std.specs.Prelude.{length, slice_index_or}
use Rattle.std.specs.List.{list_any}
use Rattle.std.specs.Cmp.Lexicographic.{slice_cmp}
use Rattle.std.specs.Hash.FoldHasher as folding
use Rattle.std.specs.Ordering.{nat_cmp, on, then_cmp}
use Rattle.std.specs.declared.cmp.Ordering.{Ordering}
use Rattle.omos_model.specs.Names.{Name, same_name}
use Rattle.omos_model.specs.Numbers.{numbers_from}
use Rattle.omos_model.specs.ElfFields.{name_of}
use Rattle.omos_model.specs.ElfFaults.{is_export}

-- the number that stands for a name; others may share it
unfoldable pub digest : Name → ℕ
digest name = folding.finish (folding.write folding.initial name)

-- names are ordered by their numbers, and those that share one by their bytes
abbrev pub name_order : Name → Name → Ordering
name_order = then_cmp (on digest nat_cmp) (slice_cmp nat_cmp)

-- a symbol below k defines the name
abbrev pub is_defined_below : List ℕ → ℕ → Name → Bool
is_defined_below file k n =
    list_any (λ j. is_export file j && same_name n (name_of file j)) (numbers_from 1 (k - 1))

-- the number of the symbol in the name's place, or 0 where there is none
abbrev pub symbol_in_place : List ℕ → Name → ℕ
symbol_in_place places n = slice_index_or places (digest n % length places) 0

abbrev pub is_held_name : List ℕ → List ℕ → Name → Bool
is_held_name file places n =
    not (symbol_in_place places n == 0) && same_name n (name_of file (symbol_in_place places n))

-- what the symbols below k define is held in the table, or is among the others
pub record HaveSeen (file : List ℕ) (k : ℕ) (places : List ℕ) (others : Name → Bool) : Type 0 where
  pub some : 0 < length places
  pub below : (p : ℕ) → slice_index_or places p 0 < k
  pub defined : (n : Name) → is_defined_below file k n ≡ (is_held_name file places n || others n)
  pub taken : (n : Name) → symbol_in_place places n ≡ 0 → others n ≡ false
