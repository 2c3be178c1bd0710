use Rattle.std.proofs.Common.{◌∙◌, ap, take, w64}
use Rattle.std.specs.Int.{from_be_bytes}
use Rattle.name_tree.proofs.Words.{word_is}
use Rattle.name_tree.proofs.compare.eight_at.Goals as goal

pub returns : goal.returns
returns c =
    c.from_be_bytes.ensures
    ∙ ap (from_be_bytes w64) (c.in-Some.ensures.cases.same ∙ ap (take 8) c.split_at.ensures.back)
    ∙ word_is c.args.at c.args.bytes.now c.requires
