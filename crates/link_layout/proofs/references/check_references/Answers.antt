use Rattle.std.proofs.Common.{refl}
use Rattle.std.proofs.lemmas.List.{length_push}
use Rattle.std.proofs.lemmas.Result.{err_from_is_err_and}
use Rattle.link_layout.specs.inside.References.{refusal_among, refusal_of_leaf}
use Rattle.link_layout.proofs.Refused.{handed_on}
use Rattle.link_layout.proofs.Rest.{numbered-turn, numbered-end, first-passed, first-found}
use Rattle.link_layout.proofs.Rest.{first-none}
use Rattle.link_layout.proofs.references.check_references.Goals as goal

pub loop-number-preserved : goal.loop-number-preserved
loop-number-preserved c =
    let rest =
    numbered-turn c.args.leaves.now c.args.landings.now c.into_iter-number-iterator.result (cc)
    (cc) (cc)
    c.loop-number.yielded c.loop-number.number-iterator c.loop-number.yielded_by
    c.next.result c.next.new.self
    (c.in-Some.number, (c.in-Some.leaf, c.in-Some.row)) c.in-Some.is c.next.ensures.steps in
    first-passed refusal_among refusal_of_leaf (λ x xs. refl) _ _ _ _ _ rest
    (length_push c.loop-number.yielded (c.in-Some.number, (c.in-Some.leaf, c.in-Some.row)))
    c.in_ok-check_leaf.ensures c.loop-number.invariant

pub returns-in_err-check_leaf : goal.returns-in_err-check_leaf
returns-in_err-check_leaf c =
    let rest =
    numbered-turn c.args.leaves.now c.args.landings.now c.into_iter-number-iterator.result (cc)
    (cc) (cc)
    c.loop-number.yielded c.loop-number.number-iterator c.loop-number.yielded_by
    c.next.result c.next.new.self
    (c.in-Some.number, (c.in-Some.leaf, c.in-Some.row)) c.in-Some.is c.next.ensures.steps in
    let found = first-found refusal_among refusal_of_leaf (λ x xs. refl)
    _ _ _ _ rest c.loop-number.invariant in
    let p = err_from_is_err_and c.from_residual.result c.from_residual.ensures.1 in
    rw (p.1, p.2) (handed_on _ _ _ _ _ _ _ c.in_err-check_leaf.ensures refl found)

pub returns : goal.returns
returns c =
    let rest =
    numbered-end c.args.leaves.now c.args.landings.now c.into_iter-number-iterator.result (cc)
    (cc) (cc)
    c.loop-number.yielded c.loop-number.number-iterator c.loop-number.yielded_by
    c.next.result c.next.new.self
    c.in-None.is c.next.ensures.steps in
    first-none refusal_among refusal_of_leaf (λ x xs. refl) _ _ refl rest
    c.loop-number.invariant
