-- Laws of the definitions.
use Rattle.std.specs.Prelude.{◌≡◌, ◌↔◌, ◌+◌, ◌≤◌, ◌++◌, Some, slice_get, ℕ, ◌==◌, Bool, false, not}
use Rattle.std.specs.Prelude.{List, [], ◌∷◌, filter, length, map}
use Rattle.std.specs.Prelude.{reverse, take, Ok, IfOk, IsTrue}
use Rattle.std.specs.List.{list_all, list_any, find, sum_by, IsDistinct}
use Rattle.std.specs.List.Sorted.{IsStrictlySortedBy}
use Rattle.omos_base.specs.SymNames.{IsSymName}
use Rattle.omos_model.specs.Names.{Name, same_name, name_cmp, is_symbol_name}
use Rattle.omos_model.specs.FragmentParts.{IsFragment}
use Rattle.omos_model.specs.FragmentOf.{fragment_of}
use Rattle.omos_model.specs.NameLists.{distinct, IsLeast}
use Rattle.omos_model.specs.Numbers.{numbers_from}
use Rattle.omos_model.specs.Op.{Restrict, Freeze, Hide}
use Rattle.omos_model.specs.Term.{Term, Merge, Override, Apply, leaf_numbers}
use Rattle.omos_model.specs.Definition.{definition, written}
use Rattle.omos_model.specs.State.{state, states, in_rows}
use Rattle.omos_model.specs.FirstRefusal.{both_define, conflict}
use Rattle.omos_model.specs.Namespace.{Space, look_up, stamped_from, with_entry, version_of}
use Rattle.omos_model.specs.Namespace.{namespace_at}
use Rattle.omos_model.specs.Expansion.{expansion, max_leaves, max_sum}
use Rattle.omos_model.specs.Footprint.{footprint}
use Rattle.omos_model.specs.declared.entry.Entry.{Entry}
use Rattle.omos_model.specs.declared.entry.Stamped.{Stamped}
use Rattle.omos_model.specs.declared.refusal.Site.{Site}
use Rattle.omos_model.specs.Visit.{Visit}

-- ---- operators

-- each name has the same definition, and each reference is the same
pub record SameModule (a b : Term) : Type 0 where
  pub names : (n : Name) → definition a n ≡ definition b n
  pub references : (leaf k : ℕ) → state a leaf k ≡ state b leaf k

abbrev pub has_leaf : Term → ℕ → Bool
has_leaf t leaf = list_any (λ n. leaf == n) (leaf_numbers t)

-- no leaf number stands in both
abbrev pub are_apart : Term → Term → Bool
are_apart a b = list_all (λ n. not (has_leaf b n)) (leaf_numbers a)

abbrev pub NoneShared : Term → Term → Type 0
NoneShared a b = (n : Name) → both_define a b n ≡ false

-- the names that both define, each once
abbrev pub shared : Term → Term → List Name
shared a b = distinct (filter (both_define a b) (written a))

-- a module under one restrict for each name
abbrev pub restrict_each : Site → List Name → Term → Term
restrict_each s [] t = t
restrict_each s (n ∷ ns) t = Apply s (Restrict n) (restrict_each s ns t)

-- to hide is to freeze and then to restrict
abbrev pub HideLaw : Type 0
HideLaw =
    (s q r : Site) (a : Name) (t : Term)
    → SameModule (Apply s (Hide a) t) (Apply q (Restrict a) (Apply r (Freeze a) t))

-- to override is to merge with what the right side doesn't define
abbrev pub OverrideLaw : Type 0
OverrideLaw =
    (s q p : Site) (l r : Term) → IsTrue (are_apart l r)
    → SameModule (Override s l r) (Merge q r (restrict_each p (shared l r) l))

-- where nothing is defined twice the order of a merge doesn't count
abbrev pub MergeLaw : Type 0
MergeLaw =
    (s q : Site) (l r : Term) → IsTrue (are_apart l r) → NoneShared l r
    → SameModule (Merge s l r) (Merge q r l)

-- ---- two ways to say one thing

-- the test on symbol names that the faults of an object take is right
abbrev pub NameLaw : Type 0
NameLaw = (bytes : List ℕ) → IsTrue (is_symbol_name bytes) ↔ IsSymName bytes

-- the list of all references has each one's state
abbrev pub StatesLaw : Type 0
StatesLaw = (t : Term) (leaf k : ℕ) → state t leaf k ≡ in_rows (states t) leaf k

abbrev pub RowsLaw : Type 0
RowsLaw = (t : Term) → map (λ r. r.number) (states t) ≡ leaf_numbers t

-- the conflict of a merge is the least of all names that both define
abbrev pub ConflictLaw : Type 0
ConflictLaw = (l r : Term) → IsLeast (both_define l r) (conflict l r)

-- ---- objects

-- what a file without a fault holds is a fragment
abbrev pub FragmentLaw : Type 0
FragmentLaw = (file : List ℕ) → IfOk (fragment_of file) IsFragment

-- ---- expansion and the namespace

-- the leaves of an expansion are numbered from 0, from left to right
abbrev pub LeavesLaw : Type 0
LeavesLaw =
    (ns : Space) (path : Name) (t : Term) (v : Visit) → expansion ns path ≡ Ok (t, v)
    → leaf_numbers t ≡ numbers_from 0 v.leaves

-- an expansion has at most 256 leaves, and one reference for each fixup, at most 524,288 in all
abbrev pub CountsLaw : Type 0
CountsLaw =
    (ns : Space) (path : Name) (t : Term) (v : Visit) → expansion ns path ≡ Ok (t, v)
    → (length (states t) ≤ max_leaves) × (sum_by (λ r. length r.marks) (states t) ≤ max_sum)

-- what stands under a path is what its last publish put there
abbrev pub LastPutLaw : Type 0
LastPutLaw =
    (puts : List (Name × Entry)) (v : ℕ) (path : Name)
    → look_up (namespace_at puts v) path
    ≡ find (λ s. same_name path s.path) (reverse (stamped_from 1 (take v puts)))

-- a namespace is in the order of paths, each path once
abbrev pub OrderLaw : Type 0
OrderLaw =
    (puts : List (Name × Entry)) (v : ℕ)
    → IsStrictlySortedBy name_cmp (map (λ s. s.path) (namespace_at puts v))

-- a publish makes the next version, in which its path alone has another entry
abbrev pub NextVersionLaw : Type 0
NextVersionLaw =
    (puts : List (Name × Entry)) (path : Name) (entry : Entry)
    → namespace_at (puts ++ (path, entry) ∷ []) (version_of puts + 1)
    ≡ with_entry (namespace_at puts (version_of puts))
    (record { path = path; stamp = version_of puts + 1; entry = entry })

-- later publishes change no version that is there
abbrev pub OldVersionsLaw : Type 0
OldVersionsLaw =
    (puts more : List (Name × Entry)) (v : ℕ) → v ≤ version_of puts
    → namespace_at (puts ++ more) v ≡ namespace_at puts v

-- the footprint has an entry for each path read, the requested one first, and each path once
abbrev pub FootprintLaw : Type 0
FootprintLaw =
    (ns : Space) (path : Name) (t : Term) (v : Visit) (entries : List Stamped)
    → expansion ns path ≡ Ok (t, v) → footprint ns path ≡ Some entries
    → (map (λ s. s.path) entries ≡ v.read) × (slice_get v.read 0 ≡ Some path)
    × IsDistinct same_name v.read
