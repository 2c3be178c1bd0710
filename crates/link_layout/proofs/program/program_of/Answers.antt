use Rattle.std.proofs.Common.{length, sym, ap, ◌∙◌, arith}
use Rattle.std.specs.List.{sum_by}
use Rattle.omos_model.specs.declared.mark.Landing.{Landing}
use Rattle.std.proofs.Common.{List}
use Rattle.link_layout.proofs.Planned.{as_many}
use Rattle.link_layout.proofs.program.program_of.Goals as goal

pub returns : goal.returns
returns c =
    let m = c.args.evaluated.now in
    let bounds = c.modules_are_bounded.ensures m c.leaves.ensures.evaluated in
    record {
      few = record {
        count = ap length c.landings.ensures.landings ∙ as_many m c.leaves.ensures.evaluated
            ∙ sym (ap length c.leaves.ensures.leaves);
        leaves = omega (arith, ap length c.leaves.ensures.leaves, bounds.leaves);
        references = omega (
          arith,
          ap (sum_by (λ (ls : List Landing). length ls)) c.landings.ensures.landings,
          bounds.references,
        );
      };
      leaves = c.leaves.ensures.leaves;
      landings = c.landings.ensures.landings;
      start = c.start.ensures;
      entry = c.entry_in.ensures;
    }
