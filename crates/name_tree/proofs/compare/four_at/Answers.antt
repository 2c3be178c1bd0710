use Rattle.std.proofs.Common.{◌∙◌, ap, take, w32}
use Rattle.std.specs.Int.{from_be_bytes}
use Rattle.name_tree.proofs.Words.{half_is}
use Rattle.name_tree.proofs.compare.four_at.Goals as goal

pub returns : goal.returns
returns c =
    c.from_be_bytes.ensures
    ∙ ap (from_be_bytes w32) (c.in-Some.ensures.cases.same ∙ ap (take 4) c.split_at.ensures.back)
    ∙ half_is c.args.at c.args.bytes.now c.requires
