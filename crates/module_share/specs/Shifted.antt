-- Terms and tables whose leaves have other numbers.
use Rattle.std.specs.Prelude.{ℕ, ◌+◌, ◌%◌, List, map}
use Rattle.omos_model.specs.Term.{Term, Leaf, Merge, Override, Apply}
use Rattle.omos_model.specs.declared.mark.Mark.{Mark}
use Rattle.omos_model.specs.declared.mark.Mark.TheVariants.{Bound, Open}
use Rattle.omos_model.specs.declared.mark.MarkRow.{MarkRow}
use Rattle.omos_model.specs.declared.mark.Target.{Target}
use Rattle.omos_model.specs.declared.mark.Target.TheVariants.{Inside, Fixed}

-- a leaf number, raised by k as a number of 32 bits
abbrev pub raised : ℕ → ℕ → ℕ
raised k number = (number + k) % 4294967296

abbrev pub shifted_target : ℕ → Target → Target
shifted_target k (Inside leaf piece offset) = Inside (raised k leaf) piece offset
shifted_target k (Fixed value) = Fixed value

abbrev pub shifted_mark : ℕ → Mark → Mark
shifted_mark k (Bound d) = Bound (shifted_target k d)
shifted_mark k (Open x) = Open x

abbrev pub shifted_row : ℕ → MarkRow → MarkRow
shifted_row k r = record r { number = raised k r.number; marks = map (shifted_mark k) r.marks }

-- the term with each leaf number raised by k, which no leaf number that expansion gives passes
abbrev pub shifted : ℕ → Term → Term
shifted k (Leaf s number f) = Leaf s (raised k number) f
shifted k (Merge s l r) = Merge s (shifted k l) (shifted k r)
shifted k (Override s l r) = Override s (shifted k l) (shifted k r)
shifted k (Apply s op u) = Apply s op (shifted k u)
