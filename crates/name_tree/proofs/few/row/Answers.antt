use Rattle.std.proofs.Common.{◌++◌}
use Rattle.name_tree.proofs.Rows.{row-of}
use Rattle.name_tree.proofs.few.row.Goals as goal

pub returns : goal.returns
returns g c =
    row-of (c.args.front.now ++ c.args.new.now ++ c.args.back.now) c.args.at c.args.last
    c.in_ok-owner.field-0 c.in_ok-owner-2.field-0 c.in_ok-owner-3.field-0 c.in_ok-owner-4.field-0
    c.in_ok-owner-5.field-0 c.in_ok-owner-6.field-0 c.in_ok-owner-7.field-0 c.in_ok-owner-8.field-0
    c.requires.within
    c.in_ok-owner.ensures c.in_ok-owner-2.ensures c.in_ok-owner-3.ensures c.in_ok-owner-4.ensures
    c.in_ok-owner-5.ensures c.in_ok-owner-6.ensures c.in_ok-owner-7.ensures c.in_ok-owner-8.ensures
