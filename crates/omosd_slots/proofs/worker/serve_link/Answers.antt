use Rattle.std.proofs.Common.{rules}
use Rattle.omosd_slots.proofs.Linked.{visit_where}
use Rattle.omosd_slots.proofs.worker.serve_link.Goals as goal

pub returns-clause-link : goal.returns-clause-link
returns-clause-link g c =
    let s = c.serve_shared in (
      _,
      c.done.ensures.state,
      visit_where _ _ _ _ _ _ _ _ _ _ _ _ _ _ _ c.requires.fresh
          s.ensures.session s.ensures.read_fault s.ensures.write_fault,
    )
