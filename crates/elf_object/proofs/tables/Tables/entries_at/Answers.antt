use Rattle.std.proofs.Common.{◌≡◌, ap, arith, length}
use Rattle.omos_model.specs.ElfFields.{sh_offset, sh_size}
use Rattle.elf_words.specs.declared.shdr.Shdr.{Shdr}
use Rattle.elf_object.proofs.Right.{used_inside}
use Rattle.elf_object.proofs.Symtabs.{entries_end}
use Rattle.elf_object.proofs.tables.Tables.entries_at.Goals as goal

pub returns-clause-inside : goal.returns-clause-inside
returns-clause-inside c =
    let file = c.self.inside.file.now in
    let w = used_inside file c.args.i c.self.invariant.right
    (rw (← c.self.view_is) at c.requires.there) (rw (← c.self.view_is) at c.requires.used) in
    let e : c.section.result.sh_offset ≡ sh_offset file c.args.i = ap (λ (s : Shdr). s.sh_offset)
    c.section.ensures in
    let end = entries_end (sh_offset file c.args.i) (sh_size file c.args.i) (length file)
    w.inside in
    rw (← c.self.view_is) (omega (arith, end, e))
