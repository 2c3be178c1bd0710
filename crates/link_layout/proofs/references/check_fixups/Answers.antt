use Rattle.std.proofs.Common.{length, ap, refl, ◌∙◌, arith}
use Rattle.std.specs.List.{enumerate_from, zip}
use Rattle.std.specs.Option.{option_copied, option_map}
use Rattle.std.proofs.lemmas.List.{length-map}
use Rattle.omos_model.specs.declared.fragment.Fixup.{Fixup}
use Rattle.omos_model.specs.declared.refusal.Refusal.TheVariants.{Unresolved}
use Rattle.link_model.specs.Program.{reference_of}
use Rattle.link_layout.specs.inside.References.{refusal_in, refusal_for}
use Rattle.link_layout.proofs.ByPlace.{fixup-at, numbered-at, numbered-past}
use Rattle.link_layout.proofs.Refused.{none-refused, refused_first, refusal-at}
use Rattle.link_layout.proofs.Rest.{first-passed, first-found, first-none}
use Rattle.link_layout.proofs.references.check_fixups.Goals as goal

pub returns-then-are_bound : goal.returns-then-are_bound
returns-then-are_bound c =
    none-refused c.args.leaf c.args.fixups.now c.args.landings.now
    (c.are_bound.ensures c.if-are_bound.true)

pub returns-in-Some : goal.returns-in-Some
returns-in-Some c =
    let landing = c.get-in-loop-number.result.now in
    let here =
    fixup-at c.args.fixups.now c.aims-aims.result.now c.loop-number.number c.get.result.now
    c.aims-aims.ensures c.get.ensures in
    let rest =
    numbered-at c.args.fixups.now c.args.landings.now c.loop-number.number here.0 landing here.1
    c.get-in-loop-number.ensures in
    let found =
    first-found (refusal_in c.args.leaf) (λ x. refusal_for (reference_of c.args.leaf x))
    (λ x xs. refl) _ _ _ _ rest c.loop-number.invariant in
    refused_first _ c.refuse.result _ _ _ _ c.refuse.ensures
    (refusal-at c.args.leaf c.loop-number.number here.0 c.get.result.now landing
    (option_copied c.open_name.result) here.2 c.open_name.ensures
    ∙ (λ i. option_map (Unresolved c.args.leaf c.loop-number.number)
    (option_copied (c.in-Some.is i))))
    found

pub loop-number-preserved : goal.loop-number-preserved
loop-number-preserved c =
    let landing = c.get-in-loop-number.result.now in
    let here =
    fixup-at c.args.fixups.now c.aims-aims.result.now c.loop-number.number c.get.result.now
    c.aims-aims.ensures c.get.ensures in
    let rest =
    numbered-at c.args.fixups.now c.args.landings.now c.loop-number.number here.0 landing here.1
    c.get-in-loop-number.ensures in
    first-passed (refusal_in c.args.leaf) (λ x. refusal_for (reference_of c.args.leaf x))
    (λ x xs. refl) (enumerate_from 0 (zip c.args.fixups.now c.args.landings.now)) _
    c.loop-number.number _ _ rest refl
    (refusal-at c.args.leaf c.loop-number.number here.0 c.get.result.now landing
    (option_copied c.open_name.result) here.2 c.open_name.ensures
    ∙ (λ i. option_map (Unresolved c.args.leaf c.loop-number.number)
    (option_copied (c.in_default.is i))))
    c.loop-number.invariant

pub returns : goal.returns
returns c =
    let count = length-map c.args.fixups.now (λ (x : Fixup). x.aim) in
    let rest =
    numbered-past c.args.fixups.now c.args.landings.now c.loop-number.number
    (omega (arith, count, ap length c.aims-aims.ensures)) in
    first-none (refusal_in c.args.leaf) (λ x. refusal_for (reference_of c.args.leaf x))
    (λ x xs. refl) _ _ refl rest c.loop-number.invariant
