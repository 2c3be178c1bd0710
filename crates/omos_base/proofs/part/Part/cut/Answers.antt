use Rattle.std.proofs.Common.{◌+◌, ◌≤◌, length, ap, sym, ◌∙◌, arith}
use Rattle.omos_base.specs.Runs.{run_of}
use Rattle.omos_base.proofs.Runs.{length_run, run_of_run}
use Rattle.omos_base.proofs.part.Part.cut.Goals as goal

within : (c : goal.In_ok-twin) → c.args.at + c.args.size ≤ c.self.inside.size
within c =
    let seen = ap length c.self.view_is in
    let all = length_run c.self.inside.block c.self.inside.at c.self.inside.size
    c.self.invariant.0 in
    let asked = c.requires in
    omega (arith, seen, all, asked)

pub overflow_add-result : goal.overflow_add-result
overflow_add-result c =
    let fits = within c in
    let least = c.self.invariant.1 in
    omega (arith, fits, least)

pub returns : goal.returns
returns c =
    let part = c.self.inside in
    let twin = c.in_ok-twin.ensures in
    ap (λ block. run_of (part.at + c.args.at) c.args.size block) twin
    ∙ sym (run_of_run part.block part.at part.size c.args.at c.args.size (within c))
    ∙ ap (run_of c.args.at c.args.size) c.self.view_is
