-- Names of symbols and paths as lists of bytes, and tests on them.
use Rattle.std.specs.Prelude.{ℕ, ◌==◌, nat_le, Bool, ◌&&◌, List, length}
use Rattle.std.specs.List.{list_all}
use Rattle.std.specs.Ordering.{nat_cmp}
use Rattle.std.specs.declared.cmp.Ordering.{Ordering}
use Rattle.std.specs.Cmp.Lexicographic.{slice_cmp, pointwise}
pub use Rattle.omos_base.specs.SymNames.{is_name_byte}

abbrev pub Name : Type 0
Name = List ℕ

-- names are ordered by their bytes, a proper prefix first
abbrev pub name_cmp : Name → Name → Ordering
name_cmp = slice_cmp nat_cmp

abbrev pub same_name : Name → Name → Bool
same_name = pointwise (λ a b. a == b)

-- 1 to 1,024 of them
abbrev pub is_symbol_name : Name → Bool
is_symbol_name bs = nat_le 1 (length bs) && nat_le (length bs) 1024 && list_all is_name_byte bs
