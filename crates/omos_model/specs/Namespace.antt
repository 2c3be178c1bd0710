-- Versions of the namespace: a finite map from paths to entries with their stamps.
use Rattle.std.specs.Prelude.{ℕ, ◌+◌, List, [], ◌∷◌, take, fold, length, Option}
use Rattle.std.specs.List.{find}
use Rattle.std.specs.Ordering.{match_ordering}
use Rattle.omos_model.specs.Names.{Name, same_name, name_cmp}
use Rattle.omos_model.specs.declared.entry.Entry.{Entry}
use Rattle.omos_model.specs.declared.entry.Stamped.{Stamped}

-- in the order of paths, each path once
abbrev pub Space : Type 0
Space = List Stamped

-- what stands under a path
abbrev pub look_up : Space → Name → Option Stamped
look_up ns path = find (λ s. same_name path s.path) ns

-- with an entry in place of the one of its path, or at its place in the order
abbrev pub with_entry : Space → Stamped → Space
with_entry [] s = s ∷ []
with_entry (x ∷ xs) s =
    match_ordering (name_cmp s.path x.path) (s ∷ x ∷ xs) (s ∷ xs) (x ∷ with_entry xs s)

-- the publishes, each stamped with the number of the version that it makes
abbrev pub stamped_from : ℕ → List (Name × Entry) → List Stamped
stamped_from n [] = []
stamped_from n (put ∷ puts) =
    record { path = put.0; stamp = n; entry = put.1 } ∷ stamped_from (n + 1) puts

-- version 0 is empty, and each publish makes the next
abbrev pub version_of : List (Name × Entry) → ℕ
version_of puts = length puts

-- version v: each path of the first v publishes has the last one's entry, stamped with its number
abbrev pub namespace_at : List (Name × Entry) → ℕ → Space
namespace_at puts v = fold with_entry [] (stamped_from 1 (take v puts))
