use Rattle.std.proofs.Common.{◌+◌, ◌-◌, arith}
use Rattle.omos_model.specs.Numbers.{numbers_from}
use Rattle.workload_calls.specs.Stream.{all_path, program_path, twice}
use Rattle.workload_calls.proofs.Adding.{adds_all, adds_more, up_to}
use Rattle.workload_calls.proofs.frames.push_links.Goals as goal

pub links-preserved : goal.links-preserved
links-preserved c = (
  adds_more (λ i. twice (program_path i)) c.push_twice.new.stream c.links.stream
      c.push_links_of.new.stream
      (numbers_from 1 (c.links.i - 1)) (numbers_from 1 (c.links.i + 1 - 1)) c.links.i
      (up_to c.links.i c.links.invariant.1)
      c.links.invariant.0 c.in_ok-push_links_of.ensures,
  omega arith,
  omega arith,
)

pub returns : goal.returns
returns c =
    adds_all (λ i. twice (program_path i)) c.args.stream.now c.push_twice.new.stream c.links.stream
    (twice all_path) c.links.i c.args.n
    (omega (arith, c.links.invariant.1, c.links.invariant.2)) c.in_ok-push_twice.ensures
    c.links.invariant.0
