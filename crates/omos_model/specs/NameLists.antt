-- Lists of names.
use Rattle.std.specs.Prelude.{◌≡◌, Bool, true, false, ◌&&◌, if◌then◌else◌, List, [], ◌∷◌, fold}
use Rattle.std.specs.Prelude.{Option, Some, None}
use Rattle.std.specs.List.{list_any}
use Rattle.std.specs.Ordering.{is_lt, is_gt}
use Rattle.omos_model.specs.Names.{Name, same_name, name_cmp}

abbrev pub is_among : List Name → Name → Bool
is_among names n = list_any (same_name n) names

-- each name once
abbrev pub distinct : List Name → List Name
distinct [] = []
distinct (n ∷ names) = if is_among names n then distinct names else n ∷ distinct names

-- the lesser of the least so far and one more name, of those that pass
abbrev pub lesser : (Name → Bool) → Option Name → Name → Option Name
lesser test None n = if test n then Some n else None
lesser test (Some m) n = if test n && is_lt (name_cmp n m) then Some n else Some m

-- the least name of a list that passes, in the order of bytes
abbrev pub least : (Name → Bool) → List Name → Option Name
least test names = fold (lesser test) None names

-- the least of all names that pass: it passes, and none that passes is below it
abbrev pub IsLeast : (Name → Bool) → Option Name → Type 0
IsLeast test None = (n : Name) → test n ≡ false
IsLeast test (Some m) =
    (test m ≡ true) × ((n : Name) → test n ≡ true → is_gt (name_cmp m n) ≡ false)
