use Rattle.std.proofs.Common.{arith}
use Rattle.omos_model.specs.declared.fragment.Group.TheVariants.{Code, Consts, Vars, Zeros}
use Rattle.link_layout.proofs.sizes.sizes_of.Goals as goal

pub end_with_slots-requires-clause-end : goal.end_with_slots-requires-clause-end
end_with_slots-requires-clause-end c = c.requires.near Vars

pub returns-clause-near : goal.returns-clause-near
returns-clause-near c = record {
  code = omega (arith, c.requires.near Code);
  consts = omega (arith, c.requires.near Consts);
  vars = omega (arith, c.requires.near Vars);
  zeros = omega (arith, c.requires.near Zeros);
}
