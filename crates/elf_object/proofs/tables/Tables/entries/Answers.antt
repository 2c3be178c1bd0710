use Rattle.std.proofs.Common.{◌≡◌, ap, arith}
use Rattle.omos_model.specs.ElfFields.{sh_size}
use Rattle.elf_words.specs.declared.shdr.Shdr.{Shdr}
use Rattle.elf_object.proofs.Right.{used_inside}
use Rattle.elf_object.proofs.tables.Tables.entries.Goals as goal

pub overflow_cast-result : goal.overflow_cast-result
overflow_cast-result c =
    let file = c.self.inside.file.now in
    let w = used_inside file c.args.i c.self.invariant.right
    (rw (← c.self.view_is) at c.requires.there) (rw (← c.self.view_is) at c.requires.used) in
    let e : c.section.result.sh_size ≡ sh_size file c.args.i = ap (λ (s : Shdr). s.sh_size)
    c.section.ensures in
    omega (arith, w.inside, c.self.invariant.headers.short, e)
