use Rattle.std.proofs.Common.{◌+◌, ◌-◌, ◌++◌, arith}
use Rattle.name_tree.proofs.Rows.{moved}
use Rattle.name_tree.proofs.few.rows_from.Goals as goal

pub returns-then-count-le32 : goal.returns-then-count-le32
returns-then-count-le32 g c =
    let all = c.args.front.now ++ c.args.new.now ++ c.args.back.now in
    let from = c.args.from in
    let last = from + (c.args.count - 1) in
    let third =
    moved all last (from + 16) (from + 8 + 8) _ (omega arith) c.in_ok-third.ensures in
    let fourth =
    moved all last (from + 24) (from + 8 + 8 + 8) _ (omega arith) c.in_ok-fourth.ensures in
    record {
      each = (c.in_ok-first.ensures, (c.in_ok-second.ensures, (third, (fourth, tt))));
      few = omega arith;
      room = omega (arith, c.if-count-le32.true);
    }

pub returns-then-count-le48 : goal.returns-then-count-le48
returns-then-count-le48 g c =
    let all = c.args.front.now ++ c.args.new.now ++ c.args.back.now in
    let from = c.args.from in
    let last = from + (c.args.count - 1) in
    let third =
    moved all last (from + 16) (from + 8 + 8) _ (omega arith) c.in_ok-third.ensures in
    let fourth =
    moved all last (from + 24) (from + 8 + 8 + 8) _ (omega arith) c.in_ok-fourth.ensures in
    let fifth =
    moved all last (from + 32) (from + 8 + 8 + 8 + 8) _ (omega arith) c.in_ok-fifth.ensures in
    let sixth =
    moved all last (from + 40) (from + 8 + 8 + 8 + 8 + 8) _ (omega arith) c.in_ok-sixth.ensures in
    record {
      each = (
        c.in_ok-first.ensures,
        (
          c.in_ok-second.ensures,
          (
            third,
            (fourth, (fifth, (sixth, tt))),
          ),
        ),
      );
      few = omega arith;
      room = omega (arith, c.if-count-le48.true);
    }

pub returns : goal.returns
returns g c =
    let all = c.args.front.now ++ c.args.new.now ++ c.args.back.now in
    let from = c.args.from in
    let last = from + (c.args.count - 1) in
    let third =
    moved all last (from + 16) (from + 8 + 8) _ (omega arith) c.in_ok-third.ensures in
    let fourth =
    moved all last (from + 24) (from + 8 + 8 + 8) _ (omega arith) c.in_ok-fourth.ensures in
    let fifth =
    moved all last (from + 32) (from + 8 + 8 + 8 + 8) _ (omega arith) c.in_ok-fifth.ensures in
    let sixth =
    moved all last (from + 40) (from + 8 + 8 + 8 + 8 + 8) _ (omega arith) c.in_ok-sixth.ensures in
    let seventh =
    moved all last (from + 48) (from + 8 + 8 + 8 + 8 + 8 + 8) _ (omega arith)
    c.in_ok-seventh.ensures in
    let eighth =
    moved all last (from + 56) (from + 8 + 8 + 8 + 8 + 8 + 8 + 8) _ (omega arith)
    c.in_ok-eighth.ensures in
    record {
      each = (
        c.in_ok-first.ensures,
        (
          c.in_ok-second.ensures,
          (
            third,
            (fourth, (fifth, (sixth, (seventh, (eighth, tt))))),
          ),
        ),
      );
      few = omega arith;
      room = omega (arith, c.requires.few);
    }
