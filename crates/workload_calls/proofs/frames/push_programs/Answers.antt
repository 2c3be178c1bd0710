use Rattle.std.proofs.Common.{◌+◌, ◌-◌, ◌∷◌, [], arith}
use Rattle.omos_model.specs.Numbers.{numbers_from}
use Rattle.workload_calls.specs.Stream.{put_all, put_program}
use Rattle.workload_calls.proofs.Adding.{adds_mapped, adds_next, up_to}
use Rattle.workload_calls.proofs.frames.push_programs.Goals as goal

pub programs-preserved : goal.programs-preserved
programs-preserved c = (
  adds_next put_program c.push_all.new.stream c.programs.stream c.push_program.new.stream
      (numbers_from 1 (c.programs.i - 1)) (numbers_from 1 (c.programs.i + 1 - 1)) c.programs.i
      (up_to c.programs.i c.programs.invariant.1)
      c.programs.invariant.0 c.in_ok-push_program.ensures,
  omega arith,
  omega arith,
)

pub returns : goal.returns
returns c =
    adds_mapped put_program c.args.stream.now c.push_all.new.stream c.programs.stream
    (put_all c.args.n ∷ []) c.programs.i c.args.n
    (omega (arith, c.programs.invariant.1, c.programs.invariant.2)) c.in_ok-push_all.ensures
    c.programs.invariant.0
