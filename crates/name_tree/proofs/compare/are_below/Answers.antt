use Rattle.std.proofs.Common.{◌∙◌, ◌+◌, ◌≤◌, length, ap, arith, inl, inr}
use Rattle.std.specs.Ordering.{is_lt}
use Rattle.name_tree.proofs.Words.{ended, word_decides, word_passes}
use Rattle.name_tree.proofs.compare.are_below.Goals as goal
use Rattle.name_tree.proofs.compare.are_below.Goals.{then-bytes-test+else-at-others}
use Rattle.name_tree.proofs.compare.are_below.Goals.{else-bytes-test, else-bytes-at-ge4}
use Rattle.name_tree.proofs.compare.are_below.Goals.{then-bytes-at-ge4+then-others-at-ge4+else-word-other-2}

pub returns-then-word-other : goal.returns-then-word-other
returns-then-word-other c =
    let here : c.eights.at + 8 ≤ length c.args.bytes.now =
    omega (arith, c.eights-test.true, c.eights.invariant.0) in
    let there : c.eights.at + 8 ≤ length c.args.others.now =
    omega (arith, c.if-others-at-ge8.true, c.eights.invariant.1) in
    word_decides 8 c.eights.at c.eight_at-word.result c.eight_at-other.result c.args.bytes.now
    c.args.others.now here there
    c.type_inv.bytes c.type_inv.others c.eight_at-word.ensures c.eight_at-other.ensures
    c.if-word-other.true
    ∙ ap is_lt c.eights.invariant.2

pub eights-preserved : goal.eights-preserved
eights-preserved c =
    let here : c.eights.at + 8 ≤ length c.args.bytes.now =
    omega (arith, c.eights-test.true, c.eights.invariant.0) in
    let there : c.eights.at + 8 ≤ length c.args.others.now =
    omega (arith, c.if-others-at-ge8.true, c.eights.invariant.1) in (
      here,
      there,
      word_passes 8 c.eights.at c.eight_at-word.result c.eight_at-other.result c.args.bytes.now
          c.args.others.now here there
          c.type_inv.bytes c.type_inv.others c.eight_at-word.ensures c.eight_at-other.ensures
          c.if-word-other.false
          ∙ c.eights.invariant.2,
    )

pub returns-then-word-other-2 : goal.returns-then-word-other-2
returns-then-word-other-2 c =
    let here : c.eights.at + 4 ≤ length c.args.bytes.now =
    omega (arith, c.if-bytes-at-ge4.true, c.eights.invariant.0) in
    let there : c.eights.at + 4 ≤ length c.args.others.now =
    omega (arith, c.if-others-at-ge4.true, c.eights.invariant.1) in
    word_decides 4 c.eights.at c.four_at-word.result c.four_at-other.result c.args.bytes.now
    c.args.others.now here there
    c.type_inv.bytes c.type_inv.others c.four_at-word.ensures c.four_at-other.ensures
    c.if-word-other-2.true
    ∙ ap is_lt c.eights.invariant.2

pub bytes-init : goal.bytes-init
bytes-init c =
    elim c.if-bytes-at-ge4.branch [
      | then-bytes-at-ge4+then-others-at-ge4+else-word-other-2 w ↦
          let here : c.eights.at + 4 ≤ length c.args.bytes.now =
          omega (arith, w.if-bytes-at-ge4.true, c.eights.invariant.0) in
          let there : c.eights.at + 4 ≤ length c.args.others.now =
          omega (arith, w.if-others-at-ge4.true, c.eights.invariant.1) in (
            rw w.at-is here,
            rw w.at-is there,
            rw w.at-is (word_passes 4 c.eights.at w.four_at-word.result w.four_at-other.result
                c.args.bytes.now c.args.others.now here there
                c.type_inv.bytes c.type_inv.others w.four_at-word.ensures w.four_at-other.ensures
                w.if-word-other-2.false
                ∙ c.eights.invariant.2),
          )
      | else-bytes-at-ge4 w ↦ rw w.at-is c.eights.invariant
    ]

pub returns : goal.returns
returns c =
    let same = ap is_lt c.bytes.invariant.2 in
    elim c.bytes-test.branch [
      | then-bytes-test+else-at-others w ↦
          ended c.bytes.at c.args.bytes.now c.args.others.now c.bytes.invariant.0
          c.bytes.invariant.1 (inr (omega (arith, w.if-at-others.false)))
          ∙ same
      | else-bytes-test w ↦
          ended c.bytes.at c.args.bytes.now c.args.others.now c.bytes.invariant.0
          c.bytes.invariant.1 (inl (omega (arith, w.bytes-test.false)))
          ∙ same
    ]
