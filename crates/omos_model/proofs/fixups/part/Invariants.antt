use Rattle.std.proofs.Common.{◌≡◌, ◌++◌, map}
use Rattle.omos_model.specs.FixupParts.{field_of}
use Rattle.omos_model.proofs.fixups.part.Given as goal

pub record AreApart (l : goal.Live-loop-fixup) : Type 0 where
  pub fields : l.fields ≡ l.initial.fields ++ map field_of l.yielded
  pub aims : l.aims ≡ l.initial.aims ++ map (λ x. x.aim) l.yielded

abbrev pub invariant-loop-fixup : goal.invariant-loop-fixup
invariant-loop-fixup l = AreApart l
