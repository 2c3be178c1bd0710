use Rattle.std.proofs.Common.{◌≡◌, ◌++◌, ◌∷◌, [], length, take, drop, arith, ap, ◌∙◌}
use Rattle.name_tree.proofs.Joints.{parted-two}
use Rattle.name_tree.proofs.joint.parted_of.Goals as goal

pub returns-then-count-eq65 : goal.returns-then-count-eq65
returns-then-count-eq65 g c =
    let all = c.args.front.now ++ c.args.new.now ++ c.args.back.now in
    let same : c.count_of-count.result ≡ length all =
    c.count_of-count.ensures.few (omega (arith, c.if-count-eq65.true)) in
    let long : length all ≡ 65 = omega (arith, same, c.if-count-eq65.true) in
    ap (λ low. low ∷ c.in_ok-high.high ∷ []) c.in_ok-low.ensures
    ∙ ap (λ high. take 32 (drop 0 all) ∷ high ∷ []) c.in_ok-high.ensures
    ∙ parted-two all long
