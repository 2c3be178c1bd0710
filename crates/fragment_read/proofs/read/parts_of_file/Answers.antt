use Rattle.std.proofs.Common.{◌≡◌, true, List, sym, ap, ◌∙◌, subst}
use Rattle.omos_model.specs.FragmentParts.{FragmentParts, is_fragment, parts_of}
use Rattle.omos_model.specs.declared.fragment.Export.{Export}
use Rattle.omos_model.specs.declared.fragment.Fixup.{Fixup}
use Rattle.omos_model.specs.declared.fragment.Piece.{Piece}
use Rattle.omos_model.specs.FragmentOf.{exports_of, parts_of_file, pieces_of}
use Rattle.fragment_read.proofs.Whole.{lawful}
use Rattle.fragment_read.proofs.read.parts_of_file.Goals as goal

pub from_parts-requires : goal.from_parts-requires
from_parts-requires c =
    let file = c.args.tables.now in
    let whole : parts_of c.in_ok-pieces.pieces c.in_ok-exports.exports c.in_ok-fixups.fixups
    ≡ parts_of_file file =
    ap (λ (ps : List Piece). parts_of ps c.in_ok-exports.exports c.in_ok-fixups.fixups)
    c.in_ok-pieces.ensures
    ∙ ap (λ (es : List Export). parts_of (pieces_of file) es c.in_ok-fixups.fixups)
    c.in_ok-exports.ensures
    ∙ ap (λ (xs : List Fixup). parts_of (pieces_of file) (exports_of file) xs)
    c.in_ok-fixups.ensures in
    subst (λ (f : FragmentParts). is_fragment f ≡ true) (sym whole)
    (lawful file c.files_hold_fragments.ensures c.requires.right)
