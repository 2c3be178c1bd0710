use Rattle.std.proofs.Common.{sym}
use Rattle.std.proofs.lemmas.List.Elements.{All-same}
use Rattle.link_layout.specs.Pieces.{IsLawful}
use Rattle.image_write.proofs.Soundness.{sound}
use Rattle.image_write.proofs.groups.groups_in.Goals as goal

pub returns : goal.returns
returns c =
    let m = c.args.evaluated.now in
    record {
      sound =
          sound c.modules_are_bounded.ensures c.groups.result.now m c.args.layout.now
          c.leaves.ensures.evaluated c.requires.laid c.groups.ensures
          (All-same IsLawful m.leaves c.leaves.result.now (sym c.leaves.ensures.leaves)
          c.are_lawful.ensures);
    }
