use Rattle.std.proofs.Common.{◌≡◌, ◌∙◌, ◌+◌, ◌-◌, ◌≤◌, ◌++◌, ◌∷◌, [], length, length-append}
use Rattle.std.proofs.Common.{reverse, true, false, Ok, Err, sym, ap, refl, subst, arith}
use Rattle.std.proofs.lemmas.Result.{err_from_is_err_and}
use Rattle.omos_model.specs.Expansion.{here, site_of, source}
use Rattle.omos_model.specs.Names.{Name}
use Rattle.omos_model.specs.Term.{Apply}
use Rattle.omos_model.specs.Tree.{tree_of}
use Rattle.omos_model.specs.declared.refusal.Refusal.TheVariants.{NoEntry}
use Rattle.module_share.specs.Trails.{and_on, begin_on, one_on, visit_on}
use Rattle.module_eval.specs.inside.Counted.{visit_of}
use Rattle.module_eval.specs.Costs.{operators, owed}
use Rattle.module_eval.specs.inside.Known.{AreKnown}
use Rattle.module_eval.specs.inside.Operators.{op_of}
use Rattle.module_eval.specs.inside.Reaches.{PassesNoLimit, added, tally_of_visit}
use Rattle.module_eval.specs.declared.reach.Tally.{Tally}
use Rattle.omos_model.specs.Visit.{Visit}
use Rattle.module_eval.specs.inside.Pendings.{Comes, EndsAt, EndsIn, others_in}
use Rattle.module_eval.specs.inside.Walked.{Walked, path_in, term_with, tree_in}
use Rattle.module_eval.specs.inside.Walks.{CanUse, MayGoOn}
use Rattle.module_eval.specs.declared.walk.Walk.{Walk}
use Rattle.module_eval.proofs.Again.{run_of}
use Rattle.module_eval.proofs.Charged.{ok_all, on_ok, owed_more}
use Rattle.module_eval.proofs.Entered.{gone_through, refused_before, refused_inside}
use Rattle.module_eval.proofs.Spent.{planned_kept}
use Rattle.module_eval.proofs.Uses.{named_then, used_again, used_counting, used_first, uses_from}
use Rattle.module_eval.proofs.Times.{left_more}
use Rattle.module_eval.specs.inside.Times.{occurs, occurs_at, occurs_left}
use Rattle.module_eval.proofs.Further.{back_again, back_from, back_object, back_on, count_on}
use Rattle.module_eval.proofs.Further.{max_low, ready_again}
use Rattle.module_eval.proofs.Joined.{means_any}
use Rattle.module_eval.proofs.Known.{known_closed}
use Rattle.module_eval.proofs.Opened.{popped_so}
use Rattle.module_eval.proofs.Reached.{named_by, reach_of, reused}
use Rattle.module_eval.proofs.Ended.{after, begun, comes_more, ends_so, not_begun, popped, pushed}
use Rattle.module_eval.proofs.Ended.{refused_so, walked_on}
use Rattle.module_eval.specs.declared.part.Part.TheVariants.{Counted}
use Rattle.module_eval.specs.declared.pending.Pending.{Pending}
use Rattle.module_eval.specs.declared.pending.Pending.TheVariants.{Under, First, Right}
use Rattle.module_eval.proofs.AtPaths.{barred, err_on_walk, none_at, object_at, source_at}
use Rattle.module_eval.proofs.AtPaths.{source_none, told, walked_inside, walked_nested}
use Rattle.module_eval.proofs.+visits.Goals as goal

-- ---- a path

pub paths::visit_path-returns-in_default-clause-walk :
    goal.paths::visit_path-returns-in_default-clause-walk
paths::visit_path-returns-in_default-clause-walk g t c limit lim =
    told c.args.place.now.counting c.no_entry.result
    (NoEntry (here c.args.place.now.at.now (visit_of c.args.walk.now.counts)) c.args.path.now) _
    c.args.walk.now.counts c.no_entry.ensures
    (none_at (source c.args.place.now.snap.now.entries) c.args.walk.now.above c.args.counted
    c.args.place.now.at.now c.args.path.now (visit_of c.args.walk.now.counts)
    (limit - length c.args.walk.now.above)
    (source_none c.args.place.now.snap.now.entries c.args.path.now c.in_default.ensures))

pub paths::visit_path-returns-in-Object-clause-walk :
    goal.paths::visit_path-returns-in-Object-clause-walk
paths::visit_path-returns-in-Object-clause-walk g t c limit lim =
    let above = c.args.walk.now.above in
    let is = sym c.get-2.ensures ∙ c.in-Object.is in
    let found =
    source_at c.args.place.now.snap.now.entries c.args.path.now c.in-Some.found.now _
    c.in-Some.ensures is in
    rw (object_at (source c.args.place.now.snap.now.entries) above c.args.counted
    c.args.place.now.at.now c.args.path.now (visit_of c.args.walk.now.counts)
    (limit - length above) _ found)
    (c.visit_object.ensures.walk _ is)

pub paths::visit_path-returns-in-Object-clause-back :
    goal.paths::visit_path-returns-in-Object-clause-back
paths::visit_path-returns-in-Object-clause-back g t c =
    let ns = c.args.place.now.snap.now.entries in
    let is = sym c.get-2.ensures ∙ c.in-Object.is in
    let found = source_at ns c.args.path.now c.in-Some.found.now _ c.in-Some.ensures is in
    let object = c.visit_object.ensures in
    let away = c.requires.ready.away in
    let planned = c.has_uses.ensures.planned in
    back_object ns c.args.counted c.args.walk.now c.visit_object.new.counts c.args.path.now
    c.in-Some.found.now _ c.visit_object.result c.requires.ready (sym c.in-Some.ensures) found
    object.found object.alone object.stay
    (on_ok c.visit_object.result _ _
    (λ read. read ns c.args.walk.now.plan c.args.walk.now.memo.kept.entries planned away)
    object.away)

pub paths::visit_path-returns-in-Object-clause-uses :
    goal.paths::visit_path-returns-in-Object-clause-uses
paths::visit_path-returns-in-Object-clause-uses g t c counted =
    let ns = c.args.place.now.snap.now.entries in
    ok_all c.visit_object.result _
    (used_again ns c.args.place.now.counting c.args.path.now c.args.walk.now.counts.read.entries
    c.visit_object.new.counts.read.entries c.args.walk.now.memo.kept.entries
    (c.visit_object.ensures.occurs ns))

pub paths::visit_path-returns-in-Object-clause-cost :
    goal.paths::visit_path-returns-in-Object-clause-cost
paths::visit_path-returns-in-Object-clause-cost g t c =
    let more = c.visit_object.ensures.grown c.args.place.now.snap.now.entries in omega (arith, more)

-- ---- a blueprint

pub paths::visit_blueprint-returns-in-Some-clause-walk :
    goal.paths::visit_blueprint-returns-in-Some-clause-walk
paths::visit_blueprint-returns-in-Some-clause-walk g t c limit lim =
    let ns = c.args.place.now.snap.now.entries in
    let above = c.args.walk.now.above in
    let p = c.args.blueprint.now.path.now in
    subst (λ n. Walked c.args.place.now.counting (Err c.in-Some.barred)
    (path_in ns n above c.args.counted c.args.place.now.at.now p
    (visit_of c.args.walk.now.counts)) c.args.walk.now.counts) (sym lim)
    (barred (source ns) above c.args.counted c.args.place.now.at.now p
    (tree_of c.args.blueprint.now.image.now.body) c.in-Some.barred c.args.place.now.counting
    c.args.walk.now.counts c.requires.there.opens c.in-Some.ensures)

-- ---- its first use

pub blueprints::visit_first-returns-in_err-open-clause-walk :
    goal.blueprints::visit_first-returns-in_err-open-clause-walk
blueprints::visit_first-returns-in_err-open-clause-walk g t c =
    let q = err_from_is_err_and c.from_residual.result c.from_residual.ensures.1 in
    rw (q.1, q.2)
    (refused_before c.args.place.now c.args.counted c.args.blueprint.now c.args.walk.now
    c.requires.there c.requires.free c.in_err-open.field-0.0 c.open.new.counts
    c.in_err-open.ensures.walk)

pub blueprints::visit_first-returns-in_err-part-clause-walk :
    goal.blueprints::visit_first-returns-in_err-part-clause-walk
blueprints::visit_first-returns-in_err-part-clause-walk g t c =
    let q = err_from_is_err_and c.from_residual-in_err-part.result
    c.from_residual-in_err-part.ensures.1 in
    rw (q.1, q.2)
    (refused_inside c.args.place.now c.args.counted c.args.blueprint.now c.args.walk.now
    c.requires.there c.requires.free c.open.new.above
    (site_of c.args.place.now.at.now c.in_ok-open.field-0) c.open.new.counts
    c.visit_nested.new.walk.counts c.in_ok-open.ensures.last c.in_ok-open.ensures.walk false
    c.in_err-part.field-0.0 c.in_err-part.ensures.walk)

pub blueprints::visit_first-returns-then-not-counted-clause-walk :
    goal.blueprints::visit_first-returns-then-not-counted-clause-walk
blueprints::visit_first-returns-then-not-counted-clause-walk g t c limit lim =
    let deep = c.in_ok-part.ensures.back.deepens.deeper in
    let part = c.in_ok-part.part in
    gone_through c.args.place.now c.args.counted c.args.blueprint.now c.args.walk.now
    c.requires.there c.requires.free c.open.new.above
    (site_of c.args.place.now.at.now c.in_ok-open.field-0) c.open.new.counts
    c.visit_nested.new.walk.counts c.in_ok-open.ensures.last c.in_ok-open.ensures.walk false part
    part c.visit_nested.new.walk.memo.deepest (omega (arith, deep, c.len-depth.ensures))
    c.in_ok-part.ensures.walk
    (λ u means run. means_any c.args.place.now.counting part u means) limit
    (omega (arith, lim, c.deeper-walk.ensures.second))

pub blueprints::visit_first-returns-clause-walk : goal.blueprints::visit_first-returns-clause-walk
blueprints::visit_first-returns-clause-walk g t c limit lim =
    let deep = c.in_ok-part.ensures.back.deepens.deeper in
    let keep = c.in_ok-keep.ensures in
    gone_through c.args.place.now c.args.counted c.args.blueprint.now c.args.walk.now
    c.requires.there c.requires.free c.open.new.above
    (site_of c.args.place.now.at.now c.in_ok-open.field-0) c.open.new.counts
    c.visit_nested.new.walk.counts c.in_ok-open.ensures.last c.in_ok-open.ensures.walk false
    c.in_ok-part.part c.in_ok-keep.field-0 c.visit_nested.new.walk.memo.deepest
    (omega (arith, deep, c.len-depth.ensures)) c.in_ok-part.ensures.walk
    (λ u means run. means_any c.args.place.now.counting c.in_ok-keep.field-0 u
    (keep.part c.args.place.now.snap.now.entries u means run)) limit
    (omega (arith, lim, c.deeper-walk.ensures.second, keep.deepest))

pub blueprints::visit_first-returns-clause-uses : goal.blueprints::visit_first-returns-clause-uses
blueprints::visit_first-returns-clause-uses g t c counted =
    let ns = c.args.place.now.snap.now.entries in
    let all = c.args.walk.now.memo.kept.entries in
    let keep = c.in_ok-keep.ensures in
    used_first ns c.args.place.now.counting c.args.blueprint.now.path.now
    c.args.walk.now.counts.read.entries c.visit_nested.new.walk.counts.read.entries all
    c.keep.new.self.kept.entries (tree_of c.args.blueprint.now.image.now.body)
    c.open.new.counts.read.entries c.visit_nested.new.walk.memo.kept.entries
    (c.in_ok-open.ensures.fresh ns (tree_of c.args.blueprint.now.image.now.body)
    c.args.walk.now.memo.apart all c.requires.ready.known c.requires.there.opens
    c.requires.free.0 c.requires.fresh)
    c.in_ok-part.ensures.uses keep.away (λ e. keep.unspent (c.in_ok-only.ensures.idle e))

pub blueprints::visit_first-returns-clause-back : goal.blueprints::visit_first-returns-clause-back
blueprints::visit_first-returns-clause-back g t c =
    let ns = c.args.place.now.snap.now.entries in
    let above = c.args.walk.now.above in
    let p = c.args.blueprint.now.path.now in
    let x = tree_of c.args.blueprint.now.image.now.body in
    let v = visit_of c.open.new.counts in
    let w = visit_of c.visit_nested.new.walk.counts in
    let reads = c.visit_nested.new.walk.counts.read.entries in
    let limit = c.visit_nested.new.walk.memo.deepest in
    let walked = rw c.in_ok-open.ensures.last at c.in_ok-part.ensures.walk in
    let walk = walked limit (omega arith) in
    let run = run_of ns limit (above ++ p ∷ []) p x v w walk.0 c.requires.there.opens walk.1 in
    let deep = c.in_ok-part.ensures.back.deepens.deeper in
    let low = c.in_ok-part.ensures.back.deepens.low in
    let low_before = c.requires.ready.low in
    let long = c.len-depth.ensures in
    let high = c.height-height.ensures in
    let as_high = c.of-reach.ensures.height in
    let reach =
    reach_of ns limit above p x v w walk.0 walk.1 c.of-reach.result c.requires.there.opens
    (omega (arith, deep, long)) (omega (arith, high, as_high, long))
    (c.of-reach.ensures.added
    ∙ ap (λ (a : Tally). added a (tally_of_visit w)) c.of-before.ensures) in
    let named = named_by ns limit above p x v w walk.0 walk.1 in
    let more = c.in_ok-part.ensures.back.above ∙ c.in_ok-open.ensures.last in
    let keep = c.in_ok-keep.ensures in
    let closed =
    known_closed ns above c.visit_nested.new.walk.above reads p more
    c.visit_nested.new.walk.memo.apart c.visit_nested.new.walk.memo.kept.entries
    c.keep.new.self.kept.entries x c.requires.free.0 c.requires.there.opens keep.others
    keep.stays (keep.here walk.0 walk.2) named (c.in_ok-part.ensures.back.known refl) in
    let popped =
    popped_so c.pop.result c.visit_nested.new.walk.above c.pop.new.self above p more
    c.pop.ensures in
    let deeper = c.deeper-walk.ensures in
    record {
      above = popped;
      found = λ f. c.in_ok-part.ensures.back.found
          (c.in_ok-open.ensures.found ns c.requires.there.entry f);
      kept = keep.kept ns walk.0 walk.2 run reach c.in_ok-part.ensures.back.kept;
      stays = λ q h. keep.stays q (c.in_ok-part.ensures.back.stays q h);
      deepens = record {
        deeper = omega (arith, deeper.first, keep.deepest);
        low = rw (keep.deepest, deeper.one_of) (max_low _ _ low_before low);
      };
      known = λ counted. rw keep.apart
          (subst (λ ps. AreKnown ns ps reads c.visit_nested.new.walk.memo.apart
          c.keep.new.self.kept.entries) (sym popped) closed);
      away = record {
        planned = planned_kept ns c.is_only_use.new.self reads
            c.visit_nested.new.walk.memo.kept.entries c.keep.new.self.kept.entries p
            c.in_ok-only.only keep.away keep.unspent c.in_ok-only.ensures.few
            (c.in_ok-only.ensures.planned c.visit_nested.new.walk.memo.kept.entries
            c.in_ok-part.ensures.back.away.planned);
        named = named_then ns c.args.place.now.counting p c.args.walk.now.counts.read.entries
            reads c.args.walk.now.memo.kept.entries c.keep.new.self.kept.entries
            c.requires.ready.away.named (c.requires.owed.due c.if-not-counted.false)
            (blueprints::visit_first-returns-clause-uses g t c c.if-not-counted.false);
      };
    }

-- ---- a further use

pub blueprints::visit_again-returns-in_err-enter_again-clause-walk :
    goal.blueprints::visit_again-returns-in_err-enter_again-clause-walk
blueprints::visit_again-returns-in_err-enter_again-clause-walk g t c =
    let q = err_from_is_err_and c.from_residual.result c.from_residual.ensures.1 in
    rw (q.1, q.2)
    (refused_before c.args.place.now c.args.counted c.args.blueprint.now c.args.walk.now
    c.requires.there c.requires.free c.in_err-enter_again.field-0.0 c.enter_again.new.counts
    c.in_err-enter_again.ensures.walk)

pub blueprints::visit_again-returns-then-has_room-clause-walk :
    goal.blueprints::visit_again-returns-then-has_room-clause-walk
blueprints::visit_again-returns-then-has_room-clause-walk g t c limit lim =
    let ns = c.args.place.now.snap.now.entries in
    let above = c.args.walk.now.above in
    let p = c.args.blueprint.now.path.now in
    let x = tree_of c.args.blueprint.now.image.now.body in
    let all = c.args.walk.now.memo.kept.entries in
    let own = c.requires.own in
    let v = visit_of c.enter_again.new.counts in
    let known =
    c.in_ok-enter_again.ensures.known ns above c.args.walk.now.memo.apart all c.requires.built
    c.requires.ready.known in
    let room : PassesNoLimit c.args.kept.reach c.len-depth.result v =
    c.if-has_room.ensures.0 refl in
    let none_open : c.args.walk.now.memo.apart ≡ true = c.if-walk.true in
    let low = c.deeper-walk.ensures.second in
    let long = c.len-depth.ensures in
    let high : c.args.kept.reach.height + length above ≤ limit = omega (arith, low, lim, long) in
    let tall = own.reach.low in
    let r = reused ns limit above p x c.args.kept.reach v c.enter_again.new.counts.read.entries
    c.args.walk.now.memo.apart all own.reach c.requires.there.opens known none_open
    c.requires.built refl room.1 high in
    let is = r.1 ∙ ap (λ (w : Visit). Ok (r.0, w)) (sym c.in_ok-use_again.ensures.sum) in
    let run =
    run_of ns limit (above ++ p ∷ []) p x v (visit_of c.use_again.new.counts) r.0
    c.requires.there.opens is in
    walked_inside ns limit above c.args.counted c.args.place.now.at.now p
    (visit_of c.args.walk.now.counts) x c.requires.there.opens c.requires.free.0
    (omega (arith, high, tall))
    c.args.place.now.counting (Ok c.in_ok-use_again.field-0)
    (site_of c.args.place.now.at.now c.in_ok-enter_again.field-0) c.enter_again.new.counts
    c.use_again.new.counts c.in_ok-enter_again.ensures.walk (
      r.0,
      is,
      c.in_ok-use_again.ensures.part ns p c.args.place.now.counting r.0 own c.requires.left run,
    )

pub blueprints::visit_again-returns-in_err-visit_nested-clause-walk :
    goal.blueprints::visit_again-returns-in_err-visit_nested-clause-walk
blueprints::visit_again-returns-in_err-visit_nested-clause-walk g t c =
    let q = err_from_is_err_and c.from_residual-in_err-visit_nested.result
    c.from_residual-in_err-visit_nested.ensures.1 in
    rw (q.1, q.2)
    (refused_inside c.args.place.now c.args.counted c.args.blueprint.now c.args.walk.now
    c.requires.there c.requires.free c.open_again.new.above
    (site_of c.args.place.now.at.now c.in_ok-enter_again.field-0) c.enter_again.new.counts
    c.visit_nested.new.walk.counts c.in_ok-open_again.ensures.last
    c.in_ok-enter_again.ensures.walk true c.in_err-visit_nested.field-0.0
    c.in_err-visit_nested.ensures.walk)

pub blueprints::visit_again-returns-then-place-clause-walk :
    goal.blueprints::visit_again-returns-then-place-clause-walk
blueprints::visit_again-returns-then-place-clause-walk g t c limit lim =
    let deep = c.in_ok-visit_nested.ensures.back.deepens.deeper in
    gone_through c.args.place.now c.args.counted c.args.blueprint.now c.args.walk.now
    c.requires.there c.requires.free c.open_again.new.above
    (site_of c.args.place.now.at.now c.in_ok-enter_again.field-0) c.enter_again.new.counts
    c.visit_nested.new.walk.counts c.in_ok-open_again.ensures.last
    c.in_ok-enter_again.ensures.walk true c.in_ok-visit_nested.field-0 Counted
    c.visit_nested.new.walk.memo.deepest
    (omega (arith, c.deeper-walk-2.ensures.second, deep, c.len-depth.ensures))
    c.in_ok-visit_nested.ensures.walk (λ u means run. c.if-place.true) limit lim

pub blueprints::visit_again-returns-then-place-clause-back :
    goal.blueprints::visit_again-returns-then-place-clause-back
blueprints::visit_again-returns-then-place-clause-back g t c =
    let ns = c.args.place.now.snap.now.entries in
    back_again ns c.args.counted c.args.walk.now c.visit_nested.new.walk
    c.args.blueprint.now.path.now c.pop.result c.requires.built
    (c.in_ok-enter_again.ensures.found ns c.requires.there.entry) c.deeper-walk-2.ensures.first
    c.in_ok-open_again.ensures.last c.pop.ensures c.in_ok-visit_nested.ensures.back

pub blueprints::visit_again-returns-clause-walk : goal.blueprints::visit_again-returns-clause-walk
blueprints::visit_again-returns-clause-walk g t c limit lim =
    let deep = c.in_ok-visit_nested.ensures.back.deepens.deeper in
    gone_through c.args.place.now c.args.counted c.args.blueprint.now c.args.walk.now
    c.requires.there c.requires.free c.open_again.new.above
    (site_of c.args.place.now.at.now c.in_ok-enter_again.field-0) c.enter_again.new.counts
    c.visit_nested.new.walk.counts c.in_ok-open_again.ensures.last
    c.in_ok-enter_again.ensures.walk true c.in_ok-visit_nested.field-0 c.in_ok-again.field-0
    c.visit_nested.new.walk.memo.deepest
    (omega (arith, c.deeper-walk-2.ensures.second, deep, c.len-depth.ensures))
    c.in_ok-visit_nested.ensures.walk
    (λ u means run. c.in_ok-again.ensures c.args.place.now.snap.now.entries
    c.args.blueprint.now.path.now c.args.place.now.counting u c.requires.own c.requires.left run)
    limit lim

pub blueprints::visit_again-returns-clause-back : goal.blueprints::visit_again-returns-clause-back
blueprints::visit_again-returns-clause-back g t c =
    let ns = c.args.place.now.snap.now.entries in
    back_again ns c.args.counted c.args.walk.now c.visit_nested.new.walk
    c.args.blueprint.now.path.now c.pop.result c.requires.built
    (c.in_ok-enter_again.ensures.found ns c.requires.there.entry) c.deeper-walk-2.ensures.first
    c.in_ok-open_again.ensures.last c.pop.ensures c.in_ok-visit_nested.ensures.back

pub blueprints::visit_again-returns-then-has_room-clause-uses :
    goal.blueprints::visit_again-returns-then-has_room-clause-uses
blueprints::visit_again-returns-then-has_room-clause-uses g t c counted =
    rw c.in_ok-use_again.ensures.read
    (used_again c.args.place.now.snap.now.entries c.args.place.now.counting
    c.args.blueprint.now.path.now c.args.walk.now.counts.read.entries
    c.enter_again.new.counts.read.entries c.args.walk.now.memo.kept.entries
    (c.in_ok-enter_again.ensures.occurs c.args.place.now.snap.now.entries))

pub blueprints::visit_again-returns-then-place-clause-uses :
    goal.blueprints::visit_again-returns-then-place-clause-uses
blueprints::visit_again-returns-then-place-clause-uses g t c counted =
    let ns = c.args.place.now.snap.now.entries in
    used_counting ns c.args.place.now.counting c.args.blueprint.now.path.now
    (tree_of c.args.blueprint.now.image.now.body) c.args.walk.now c.visit_nested.new.walk
    c.enter_again.new.counts.read.entries (c.in_ok-enter_again.ensures.occurs ns)
    c.in_ok-visit_nested.ensures.uses

pub blueprints::visit_again-returns-clause-uses : goal.blueprints::visit_again-returns-clause-uses
blueprints::visit_again-returns-clause-uses g t c counted =
    let ns = c.args.place.now.snap.now.entries in
    used_counting ns c.args.place.now.counting c.args.blueprint.now.path.now
    (tree_of c.args.blueprint.now.image.now.body) c.args.walk.now c.visit_nested.new.walk
    c.enter_again.new.counts.read.entries (c.in_ok-enter_again.ensures.occurs ns)
    c.in_ok-visit_nested.ensures.uses

pub blueprints::visit_again-visit_nested-requires :
    goal.blueprints::visit_again-visit_nested-requires
blueprints::visit_again-visit_nested-requires g t c κs within =
    let ns = c.args.place.now.snap.now.entries in
    let above = c.args.walk.now.above in
    let p = c.args.blueprint.now.path.now in
    let x = tree_of c.args.blueprint.now.image.now.body in
    let all = c.args.walk.now.memo.kept.entries in
    let entered = c.in_ok-enter_again.ensures in
    let opened = c.in_ok-open_again.ensures in
    let long = ap length opened.last in
    let more = length-append above (p ∷ []) in
    let free = c.requires.free.1 in
    let deep = c.len-depth.ensures in
    let walk : Walk = record {
      above = c.open_again.new.above;
      memo =
          record c.args.walk.now.memo { apart = false; deepest = c.deeper-walk-2.result };
      counts = c.enter_again.new.counts;
      plan = c.args.walk.now.plan;
    } in
    let ready : MayGoOn ns walk = record {
      counted = entered.counted;
      room = omega (arith, long, more, free);
      low = rw c.deeper-walk-2.ensures.one_of
          (max_low _ _ c.requires.ready.low (omega (arith, deep, free)));
      kept = c.requires.ready.kept;
      known = opened.known ns c.enter_again.new.counts.read.entries c.args.walk.now.memo.apart all
          c.requires.built
          (entered.known ns above c.args.walk.now.memo.apart all c.requires.built
          c.requires.ready.known);
      away = entered.away ns c.args.walk.now.plan all c.requires.planned c.requires.ready.away;
    } in
    let uses : CanUse ns true (λ q. occurs q x) walk =
    entered.uses ns x all c.requires.there.opens in
    (omega (arith, long, more, free), (search, (ready, uses)))

-- ---- the expression of an open blueprint

pub blueprints::visit_nested-returns-in_err-part-clause-walk :
    goal.blueprints::visit_nested-returns-in_err-part-clause-walk
blueprints::visit_nested-returns-in_err-part-clause-walk g t c =
    let q = err_from_is_err_and c.from_residual.result c.from_residual.ensures.1 in
    let v = visit_of c.args.walk.now.counts in
    let walked = rw c.body.ensures.body at c.in_err-part.ensures.walk in
    rw (q.1, q.2)
    (λ limit lim.
    err_on_walk c.in_err-part.field-0.0
    (tree_in c.args.place.now.snap.now.entries limit c.args.walk.now.above
    c.args.place.now.at.now (tree_of c.args.image.now.body) (record v { node = 0 }))
    (λ u w. Ok (u, record w { node = v.node })) c.args.place.now.counting
    c.visit_expr.new.walk.counts (walked limit lim))

pub blueprints::visit_nested-returns-clause-walk : goal.blueprints::visit_nested-returns-clause-walk
blueprints::visit_nested-returns-clause-walk g t c limit lim =
    let walked = rw c.body.ensures.body at c.in_ok-part.ensures.walk in
    walked_nested c.args.place.now.counting c.in_ok-part.part
    (tree_in c.args.place.now.snap.now.entries limit c.args.walk.now.above
    c.args.place.now.at.now (tree_of c.args.image.now.body)) (visit_of c.args.walk.now.counts)
    c.visit_expr.new.walk.counts
    (walked limit lim)

pub exprs::visit_expr-pending-preserved : goal.exprs::visit_expr-pending-preserved
exprs::visit_expr-pending-preserved g t c =
    let ns = c.args.place.now.snap.now.entries in
    let above = c.args.walk.now.above in
    let at = c.args.place.now.at.now in
    let counting = c.args.place.now.counting in
    let inv = c.pending.invariant in
    let step = c.in_ok-part-2.ensures in
    let more = owed_more c.pending.pending c.pop.new.self c.in-Some.node c.in-Some.ensures in
    record {
      walked = λ limit low.
          let end =
          tree_in ns limit above at (tree_of c.args.expr.now)
          (visit_of c.args.walk.now.counts) in
          let before = inv.walked limit (omega (arith, low, step.back.deepens.deeper)) in
          let inner =
          popped counting ns limit above at c.pending.pending c.pop.new.self c.in-Some.node
          c.in-Some.ensures before.0 (visit_of c.pending.walk.counts) end before.2 in
          let far =
          subst (λ ps. EndsAt counting ns limit ps at (c.in-Some.node ∷ reverse c.pop.new.self)
          before.0 (visit_of c.pending.walk.counts) end) (sym inv.back.above) inner in
          let walk = step.walk limit before.0 end low before.1 far in (
            walk.0,
            walk.1,
            subst (λ ps. EndsIn counting ns limit ps at c.resume.new.pending walk.0
                (visit_of c.resume.new.walk.counts) end) inv.back.above walk.2,
          );
      ready = ready_again ns c.pending.walk c.resume.new.walk inv.ready step.counts step.back;
      counts = count_on c.args.walk.now.counts c.pending.walk.counts c.resume.new.walk.counts
          inv.counts step.counts;
      back = back_on ns true c.args.walk.now c.pending.walk c.resume.new.walk inv.back step.back;
      uses =
          let left : (q : Name) → occurs_left c.pending.pending q
          ≡ occurs_left c.pop.new.self q + occurs_at q c.in-Some.node =
          λ q. left_more c.pending.pending c.pop.new.self c.in-Some.node q c.in-Some.ensures in
          record {
            each = λ q.
                let one = inv.uses.each q in
                let two = step.uses.each q in
                let more = left q in
                omega (arith, one, two, more);
            idle = λ e q.
                let one = inv.uses.idle e q in
                let two = step.uses.idle e q in
                omega (arith, one, two);
            grown = λ q.
                let one = inv.uses.grown q in
                let two = step.uses.grown q in
                omega (arith, one, two);
          };
      cost = record {
        applied = λ e. omega (arith, inv.cost.applied e, step.cost.applied e, more);
        idle = λ e. omega (arith, inv.cost.idle e, step.cost.idle e);
      };
    }

pub exprs::visit_expr-returns-clause-uses : goal.exprs::visit_expr-returns-clause-uses
exprs::visit_expr-returns-clause-uses g t c =
    let inv = c.pending.invariant in
    record {
      each = λ q.
          let one = inv.uses.each q in
          let none = ap (λ ps. occurs_left ps q) c.in_default.ensures.0 in
          omega (arith, one, none);
      idle = inv.uses.idle;
      grown = inv.uses.grown;
    }

-- ---- down to the first path

pub exprs::descend-returns-in-Path-clause-walk : goal.exprs::descend-returns-in-Path-clause-walk
exprs::descend-returns-in-Path-clause-walk g t c limit end lim h =
    let ns = c.args.place.now.snap.now.entries in
    let above = c.args.walk.now.above in
    let at = c.args.place.now.at.now in
    let inv = c.nodes.invariant in
    let v = visit_of c.nodes.walk.counts in
    let ends = EndsIn c.args.place.now.counting ns limit above at c.nodes.pending in
    let far =
    subst (λ x. Comes (tree_in ns limit above at x v) ends end) c.in-Path.ensures
    (inv.walked limit end h) in
    let walk = rw inv.above at (c.visit_path.ensures.walk limit lim) in
    walked_on c.args.place.now.counting ends end c.visit_path.result
    (path_in ns limit above true at c.in-Path.path.now v) c.visit_path.new.walk.counts walk far

pub exprs::descend-returns-in-Path-clause-back : goal.exprs::descend-returns-in-Path-clause-back
exprs::descend-returns-in-Path-clause-back g t c =
    let inv = c.nodes.invariant in
    on_ok c.visit_path.result _ _
    (back_from c.args.place.now.snap.now.entries true c.args.walk.now c.nodes.walk
    c.visit_path.new.walk inv.above inv.memo inv.read)
    c.visit_path.ensures.back

pub exprs::descend-returns-in_err-node-in-Under-clause-walk :
    goal.exprs::descend-returns-in_err-node-in-Under-clause-walk
exprs::descend-returns-in_err-node-in-Under-clause-walk g t c =
    let ns = c.args.place.now.snap.now.entries in
    let above = c.args.walk.now.above in
    let at = c.args.place.now.at.now in
    let v = visit_of c.nodes.walk.counts in
    let q = err_from_is_err_and c.from_residual.result c.from_residual.ensures.1 in
    rw (q.1, q.2)
    (λ limit end lim h.
    let ends = EndsIn c.args.place.now.counting ns limit above at c.nodes.pending in
    let far =
    subst (λ x. Comes (tree_in ns limit above at x v) ends end) c.in-Under.ensures.0
    (c.nodes.invariant.walked limit end h) in
    not_begun c.args.place.now.counting ends end c.in_err-node-in-Under.field-0.0 at (begin_on at v)
    _ c.begin_node.new.counts c.in_err-node-in-Under.ensures.walk far)

pub exprs::descend-nodes-preserved-in-Under : goal.exprs::descend-nodes-preserved-in-Under
exprs::descend-nodes-preserved-in-Under g t c =
    let ns = c.args.place.now.snap.now.entries in
    let above = c.args.walk.now.above in
    let at = c.args.place.now.at.now in
    let inv = c.nodes.invariant in
    let v = visit_of c.nodes.walk.counts in
    let op = op_of c.in-Under.operator in
    let s = site_of at c.in_ok-node-in-Under.node in
    let w = visit_of c.begin_node.new.counts in
    let node = Under c.in_ok-node-in-Under.node c.in-Under.operator in
    record {
      walked = λ limit end h.
          let ends = EndsIn c.args.place.now.counting ns limit above at c.nodes.pending in
          let x = visit_on at (path_in ns limit above true at) (tree_of c.in-Under.body.now) in
          let far =
          subst (λ y. Comes (tree_in ns limit above at y v) ends end) c.in-Under.ensures.0
          (inv.walked limit end h) in
          let inside =
          begun c.args.place.now.counting ends end s (begin_on at v) w
          (λ s. one_on (Apply s op) x) c.in_ok-node-in-Under.ensures.walk far in
          pushed c.args.place.now.counting ns limit above at c.push.new.self c.nodes.pending node
          c.in_ok-push-in-Under.ensures.ok (x w) end
          (after c.args.place.now.counting ends end (x w) (λ t u. Ok (Apply s op t, u)) inside);
      formed = c.in-Under.ensures.1;
      read = ap (λ m. m.entries) c.in_ok-node-in-Under.ensures.read ∙ inv.read;
      ready = record {
        counted = c.in_ok-node-in-Under.ensures.counted;
        room = inv.ready.room;
        low = inv.ready.low;
        kept = inv.ready.kept;
        known = rw c.in_ok-node-in-Under.ensures.read inv.ready.known;
        away = rw c.in_ok-node-in-Under.ensures.read inv.ready.away;
      };
      plan = inv.plan;
      uses = λ p.
          let apart = ap (occurs p) c.in-Under.ensures.0 in
          let more =
          left_more c.push.new.self c.nodes.pending node p c.in_ok-push-in-Under.ensures.ok in
          let before = inv.uses p in
          omega (arith, apart, more, before);
      memo = inv.memo;
      steps = inv.steps;
      cost =
          let apart = ap operators c.in-Under.ensures.0 in
          let more =
          owed_more c.push.new.self c.nodes.pending node c.in_ok-push-in-Under.ensures.ok in
          omega (arith, apart, more, inv.cost);
      above = inv.above;
      least = omega (arith, inv.least, c.in_ok-node-in-Under.ensures.more);
      begun = rw (c.in_ok-push-in-Under.ensures.ok, length-append c.nodes.pending (node ∷ []))
          (omega (arith, inv.begun, c.in_ok-node-in-Under.ensures.more));
    }

pub exprs::descend-returns-in_err-node-in-Join-clause-walk :
    goal.exprs::descend-returns-in_err-node-in-Join-clause-walk
exprs::descend-returns-in_err-node-in-Join-clause-walk g t c =
    let ns = c.args.place.now.snap.now.entries in
    let above = c.args.walk.now.above in
    let at = c.args.place.now.at.now in
    let v = visit_of c.nodes.walk.counts in
    let q = err_from_is_err_and c.from_residual-in_err-node-in-Join.result
    c.from_residual-in_err-node-in-Join.ensures.1 in
    rw (q.1, q.2)
    (λ limit end lim h.
    let path = path_in ns limit above true at in
    let ends = EndsIn c.args.place.now.counting ns limit above at c.nodes.pending in
    let far =
    subst (λ r. Comes r ends end) (c.in-Join.ensures.0 path at v)
    (c.nodes.invariant.walked limit end h) in
    not_begun c.args.place.now.counting ends end c.in_err-node-in-Join.field-0.0 at (begin_on at v)
    _ c.begin_node-in-Join.new.counts c.in_err-node-in-Join.ensures.walk far)

pub exprs::descend-nodes-preserved : goal.exprs::descend-nodes-preserved
exprs::descend-nodes-preserved g t c =
    let ns = c.args.place.now.snap.now.entries in
    let above = c.args.walk.now.above in
    let at = c.args.place.now.at.now in
    let inv = c.nodes.invariant in
    let v = visit_of c.nodes.walk.counts in
    let join = c.in-Join.join in
    let more = c.in-Join.others in
    let s = site_of at c.in_ok-node-in-Join.node in
    let w = visit_of c.begin_node-in-Join.new.counts in
    let node = First c.in_ok-node-in-Join.node join more in
    record {
      walked = λ limit end h.
          let ends = EndsIn c.args.place.now.counting ns limit above at c.nodes.pending in
          let path = path_in ns limit above true at in
          let x = visit_on at path (tree_of c.in-Join.first.now) in
          let far =
          subst (λ r. Comes r ends end) (c.in-Join.ensures.0 path at v)
          (inv.walked limit end h) in
          let inside =
          begun c.args.place.now.counting ends end s (begin_on at v) w
          (λ s w. and_on (x w) (λ l. others_in path at join s l more))
          c.in_ok-node-in-Join.ensures.walk far in
          pushed c.args.place.now.counting ns limit above at c.push-in-Join.new.self c.nodes.pending
          node c.in_ok-push-in-Join.ensures.ok (x w) end
          (after c.args.place.now.counting ends end (x w) (λ l. others_in path at join s l more)
          inside);
      formed = c.in-Join.ensures.1;
      read = ap (λ m. m.entries) c.in_ok-node-in-Join.ensures.read ∙ inv.read;
      ready = record {
        counted = c.in_ok-node-in-Join.ensures.counted;
        room = inv.ready.room;
        low = inv.ready.low;
        kept = inv.ready.kept;
        known = rw c.in_ok-node-in-Join.ensures.read inv.ready.known;
        away = rw c.in_ok-node-in-Join.ensures.read inv.ready.away;
      };
      plan = inv.plan;
      uses = λ p.
          let apart = c.in-Join.ensures.3 p in
          let more =
          left_more c.push-in-Join.new.self c.nodes.pending node p
          c.in_ok-push-in-Join.ensures.ok in
          let before = inv.uses p in
          omega (arith, apart, more, before);
      memo = inv.memo;
      steps = inv.steps;
      cost =
          let more =
          owed_more c.push-in-Join.new.self c.nodes.pending node
          c.in_ok-push-in-Join.ensures.ok in
          omega (arith, c.in-Join.ensures.2, more, inv.cost);
      above = inv.above;
      least = omega (arith, inv.least, c.in_ok-node-in-Join.ensures.more);
      begun = rw (c.in_ok-push-in-Join.ensures.ok, length-append c.nodes.pending (node ∷ []))
          (omega (arith, inv.begun, c.in_ok-node-in-Join.ensures.more));
    }

pub exprs::descend-returns-in-Path-clause-uses : goal.exprs::descend-returns-in-Path-clause-uses
exprs::descend-returns-in-Path-clause-uses g t c =
    let inv = c.nodes.invariant in
    on_ok c.visit_path.result _ _
    (uses_from c.args.place.now.snap.now.entries c.args.place.now.counting _ _ _ _
    c.args.walk.now.counts.read.entries c.nodes.walk.counts.read.entries
    c.visit_path.new.walk.counts.read.entries c.args.walk.now.memo.kept.entries
    c.nodes.walk.memo.kept.entries c.visit_path.new.walk.memo.kept.entries inv.read
    (ap (λ m. m.kept.entries) inv.memo)
    (λ q.
    let here = ap (occurs q) c.in-Path.ensures in
    let same = inv.uses q in
    omega (arith, here, same)))
    (c.visit_path.ensures.uses refl)

-- ---- pending nodes

pub exprs::resume-returns-in-First-clause-walk : goal.exprs::resume-returns-in-First-clause-walk
exprs::resume-returns-in-First-clause-walk g t c limit u end lim means h =
    let ns = c.args.place.now.snap.now.entries in
    let above = c.args.walk.now.above in
    let at = c.args.place.now.at.now in
    let v = visit_of c.args.walk.now.counts in
    let outside = reverse c.args.pending.now in
    c.visit_others.ensures.walk limit u end lim means
    (subst (λ (n : Pending). EndsAt c.args.place.now.counting ns limit above at (n ∷ outside) u v
    end) c.in-First.is h)

pub exprs::resume-returns-in_ok-left-in-Right-clause-walk :
    goal.exprs::resume-returns-in_ok-left-in-Right-clause-walk
exprs::resume-returns-in_ok-left-in-Right-clause-walk g t c limit u end lim means h =
    let ns = c.args.place.now.snap.now.entries in
    let above = c.args.walk.now.above in
    let at = c.args.place.now.at.now in
    let v = visit_of c.args.walk.now.counts in
    let outside = reverse c.args.pending.now in
    let k = subst
    (λ (n : Pending). EndsAt c.args.place.now.counting ns limit above at (n ∷ outside) u v end)
    c.in-Right.is h in
    c.visit_others-in-Right.ensures.walk limit
    (term_with c.in-Right.join (site_of at c.in-Right.node) k.0 u) end lim
    (c.in_ok-left-in-Right.ensures.meant k.0 u k.1 means) k.2

pub exprs::visit_others-returns-clause-walk : goal.exprs::visit_others-returns-clause-walk
exprs::visit_others-returns-clause-walk g t c limit u end lim means h =
    let ns = c.args.place.now.snap.now.entries in
    let above = c.args.walk.now.above in
    let at = c.args.place.now.at.now in
    let v = visit_of c.args.walk.now.counts in
    let join = c.args.join in
    let s = site_of at c.args.node in
    let path = path_in ns limit above true at in
    let more = c.in-Some.others in
    let x = tree_of c.in-Some.operand.now in
    let ends = EndsIn c.args.place.now.counting ns limit above at c.args.pending.now in
    let node = Right c.args.node join c.args.left more in
    let far =
    subst (λ xs. Comes (others_in path at join s u xs v) ends end) c.in-Some.ensures.cases h in
    let inside =
    after c.args.place.now.counting ends end (visit_on at path x v)
    (λ r. others_in path at join s (term_with join s u r) more) far in
    let waits = comes_more
    (λ r w. Comes (others_in path at join s (term_with join s u r) more w) ends)
    (EndsAt c.args.place.now.counting ns limit above at (node ∷ reverse c.args.pending.now))
    (visit_on at path x v) end (λ r w k. (u, means, k)) inside in
    c.descend.ensures.walk limit end lim
    (pushed c.args.place.now.counting ns limit above at c.push.new.self c.args.pending.now node
    c.in_ok-push.ensures.ok (visit_on at path x v) end waits)

-- ---- the whole expression

pub exprs::visit_expr-returns-in_err-part-clause-walk :
    goal.exprs::visit_expr-returns-in_err-part-clause-walk
exprs::visit_expr-returns-in_err-part-clause-walk g t c =
    let q = err_from_is_err_and c.from_residual.result c.from_residual.ensures.1 in
    let walked = rw c.new-pending.ensures at c.in_err-part.ensures.walk in
    rw (q.1, q.2)
    (λ limit lim.
    let walk =
    tree_in c.args.place.now.snap.now.entries limit c.args.walk.now.above
    c.args.place.now.at.now (tree_of c.args.expr.now) (visit_of c.args.walk.now.counts) in
    refused_so c.args.place.now.counting _ c.in_err-part.field-0.0 walk c.descend.new.walk.counts
    (walked limit walk lim (ends_so walk)))

pub exprs::visit_expr-pending-init : goal.exprs::visit_expr-pending-init
exprs::visit_expr-pending-init g t c =
    let ns = c.args.place.now.snap.now.entries in
    let walked = rw c.new-pending.ensures at c.in_ok-part.ensures.walk in
    let down = c.in_ok-part.ensures in
    record {
      walked = λ limit low.
          let walk =
          tree_in ns limit c.args.walk.now.above c.args.place.now.at.now
          (tree_of c.args.expr.now) (visit_of c.args.walk.now.counts) in
          walked limit walk low (ends_so walk);
      ready = ready_again ns c.args.walk.now c.descend.new.walk c.requires.ready down.counts
          down.back;
      counts = down.counts;
      back = down.back;
      uses = record {
        each = λ q.
            let one = down.uses.each q in
            let none = ap (λ ps. occurs_left ps q) c.new-pending.ensures in
            omega (arith, one, none);
        idle = down.uses.idle;
        grown = down.uses.grown;
      };
      cost =
          let none = ap owed c.new-pending.ensures in
          record { applied = λ e. omega (arith, none, down.cost.applied e); idle = down.cost.idle };
    }

pub exprs::visit_expr-returns-in_err-part-2-clause-walk :
    goal.exprs::visit_expr-returns-in_err-part-2-clause-walk
exprs::visit_expr-returns-in_err-part-2-clause-walk g t c =
    let ns = c.args.place.now.snap.now.entries in
    let above = c.args.walk.now.above in
    let at = c.args.place.now.at.now in
    let inv = c.pending.invariant in
    let least = inv.back.deepens.low in
    let f = c.in_err-part-2.field-0.0 in
    let q = err_from_is_err_and c.from_residual-in_err-part-2.result
    c.from_residual-in_err-part-2.ensures.1 in
    rw (q.1, q.2)
    (λ limit lim.
    let end =
    tree_in ns limit above at (tree_of c.args.expr.now) (visit_of c.args.walk.now.counts) in
    let before = inv.walked limit (subst (λ n. c.pending.walk.memo.deepest ≤ n) (sym lim) least) in
    let inner =
    popped c.args.place.now.counting ns limit above at c.pending.pending c.pop.new.self
    c.in-Some.node c.in-Some.ensures before.0 (visit_of c.pending.walk.counts) end before.2 in
    let far =
    subst (λ ps. EndsAt c.args.place.now.counting ns limit ps at
    (c.in-Some.node ∷ reverse c.pop.new.self) before.0 (visit_of c.pending.walk.counts) end)
    (sym inv.back.above) inner in
    refused_so c.args.place.now.counting _ f end c.resume.new.walk.counts
    (c.in_err-part-2.ensures.walk limit before.0 end lim before.1 far))

pub exprs::visit_expr-returns-clause-walk : goal.exprs::visit_expr-returns-clause-walk
exprs::visit_expr-returns-clause-walk g t c limit lim =
    let ns = c.args.place.now.snap.now.entries in
    let above = c.args.walk.now.above in
    let at = c.args.place.now.at.now in
    let end =
    tree_in ns limit above at (tree_of c.args.expr.now) (visit_of c.args.walk.now.counts) in
    let before = c.pending.invariant.walked limit lim in (
      before.0,
      subst (λ ps. EndsIn c.args.place.now.counting ns limit above at ps before.0
          (visit_of c.pending.walk.counts) end) c.in_default.ensures.0 before.2,
      before.1,
    )
