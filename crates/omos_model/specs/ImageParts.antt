-- A blueprint as a value, and when it is one that a text can say.
use Rattle.std.specs.Prelude.{ℕ, ◌+◌, ◌-◌, ◌%◌, ◌^◌, ◌==◌, nat_le, nat_lt, Bool, true, ◌&&◌, length}
use Rattle.std.specs.Prelude.{fold, max, IsTrue}
use Rattle.std.specs.List.{list_all}
use Rattle.omos_model.specs.declared.entry.Start.{Start}
use Rattle.omos_model.specs.declared.expr.Expr.{Expr, fold-Expr}
use Rattle.omos_model.specs.declared.expr.Expr.TheOpen.{Expr-F}

-- what contracts see of a blueprint
pub record ImageParts : Type 0 where
  pub start : Start
  pub lo : ℕ
  pub hi : ℕ
  pub body : Expr

abbrev pub image_of : Start → ℕ → ℕ → Expr → ImageParts
image_of start lo hi body = record { start = start; lo = lo; hi = hi; body = body }

-- where user space ends, but for its last page
abbrev pub top : ℕ
top = 2 ^ 47 - 4096

-- whole pages, from 0x10000 on, of user space
abbrev pub is_range : ℕ → ℕ → Bool
is_range lo hi =
    (lo % 4096 == 0) && (hi % 4096 == 0) && nat_le 65536 lo && nat_lt lo hi && nat_le hi top

abbrev pub formed_layer : Expr-F Bool → Bool
formed_layer (Expr-F.Path p) = true
formed_layer (Expr-F.Merge xs) = nat_le 2 (length xs) && list_all (λ x. x) xs
formed_layer (Expr-F.Override l r) = l && r
formed_layer (Expr-F.Rename a b x) = x
formed_layer (Expr-F.Restrict a x) = x
formed_layer (Expr-F.Freeze a x) = x
formed_layer (Expr-F.Hide a x) = x
formed_layer (Expr-F.Show names x) = x
formed_layer (Expr-F.CopyAs a b x) = x

-- each merge has at least two operands
abbrev pub is_formed : Expr → Bool
is_formed x = fold-Expr Bool formed_layer x

abbrev pub nesting_layer : Expr-F ℕ → ℕ
nesting_layer (Expr-F.Path p) = 0
nesting_layer (Expr-F.Merge xs) = fold max 0 xs + 1
nesting_layer (Expr-F.Override l r) = max l r + 1
nesting_layer (Expr-F.Rename a b x) = x + 1
nesting_layer (Expr-F.Restrict a x) = x + 1
nesting_layer (Expr-F.Freeze a x) = x + 1
nesting_layer (Expr-F.Hide a x) = x + 1
nesting_layer (Expr-F.Show names x) = max 1 x + 1
nesting_layer (Expr-F.CopyAs a b x) = x + 1

-- how deep the parentheses of an expression's text nest; the list of names of a show has its own
abbrev pub nesting : Expr → ℕ
nesting x = fold-Expr ℕ nesting_layer x

-- the parentheses of the whole text nest at most 64 deep, the image's own counted
abbrev pub is_image : ImageParts → Bool
is_image i = is_range i.lo i.hi && is_formed i.body && nat_le (nesting i.body + 1) 64

abbrev pub IsImage : ImageParts → Type 0
IsImage i = IsTrue (is_image i)
