use Rattle.link_layout.proofs.Planned.{laid-module}
use Rattle.link_layout.proofs.layout_of.lay.Goals as goal

pub returns : goal.returns
returns c =
    record {
      laid = laid-module c.args.evaluated.now _ c.lay_program.result c.program_of.ensures
          c.lay_program.ensures.laid;
    }
