use Rattle.std.proofs.Common.{◌≡◌, ◌-◌, suc, true, false, ◌∷◌, drop, ap, sym, ◌∙◌, arith, get_or}
use Rattle.std.proofs.Math.Seq.{drop-cons}
use Rattle.std.specs.BTreeSet.{contains}
use Rattle.omos_model.specs.Names.{name_cmp}
use Rattle.omos_model.specs.FragmentParts.{is_exported, are_distinct}
use Rattle.omos_model.proofs.Distinct.{are_distinct-drop, with_name, has_again, is_new}
use Rattle.omos_model.proofs.Joined.{not_not}
use Rattle.omos_model.proofs.fragment.are_distinct.Goals as goal

pub returns-then-not-branch : goal.returns-then-not-branch
returns-then-not-branch c =
    let xs = c.args.exports.now in
    let i = c.loop-at.at - 1 in
    let e = get_or xs i c.index-exports-at.result in
    let rest = drop (suc i) xs in
    let key = c.in_ok-copy.field-0 in
    let next : suc i ≡ c.loop-at.at = omega arith in
    let here : drop i xs ≡ e ∷ rest = drop-cons xs i c.index-exports-at.result (omega arith) in
    let old = contains name_cmp c.loop-at.names key in
    let before : old ≡ is_exported rest key = c.loop-at.invariant.0 key
    ∙ ap (λ j. is_exported (drop j xs) key) (sym next) in
    let there : old ≡ true =
    not_not old false (sym c.in_ok-insert.ensures.added ∙ c.if-not-branch.true) in
    sym (are_distinct-drop i xs
    (ap are_distinct here ∙ has_again e rest key old c.in_ok-copy.ensures before there))

pub loop-at-preserved : goal.loop-at-preserved
loop-at-preserved c =
    let xs = c.args.exports.now in
    let i = c.loop-at.at - 1 in
    let e = get_or xs i c.index-exports-at.result in
    let rest = drop (suc i) xs in
    let key = c.in_ok-copy.field-0 in
    let next : suc i ≡ c.loop-at.at = omega arith in
    let here : drop i xs ≡ e ∷ rest = drop-cons xs i c.index-exports-at.result (omega arith) in
    let old = contains name_cmp c.loop-at.names key in
    let before : old ≡ is_exported rest key = c.loop-at.invariant.0 key
    ∙ ap (λ j. is_exported (drop j xs) key) (sym next) in
    let new : old ≡ false =
    not_not old true (sym c.in_ok-insert.ensures.added ∙ c.if-not-branch.false) in
    let apart : are_distinct rest ≡ true = ap (λ j. are_distinct (drop j xs)) next
    ∙ c.loop-at.invariant.1 in (
      λ n.
          with_name e rest key n (contains name_cmp c.loop-at.names n)
          (contains name_cmp c.insert.new.self n) c.in_ok-copy.ensures
          (c.loop-at.invariant.0 n ∙ ap (λ j. is_exported (drop j xs) n) (sym next))
          (c.in_ok-insert.ensures.updates.0 n)
          ∙ ap (λ ys. is_exported ys n) (sym here),
      ap are_distinct here ∙ is_new e rest key old c.in_ok-copy.ensures before new apart,
      omega arith,
    )
