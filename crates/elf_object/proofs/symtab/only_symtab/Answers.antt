use Rattle.std.proofs.Common.{◌<◌, sym, ◌∙◌, arith}
use Rattle.omos_model.specs.ElfFields.{e_shnum, is_symtab, symtabs}
use Rattle.elf_object.proofs.Runs.{one_found, none_found}
use Rattle.elf_object.proofs.symtab.only_symtab.Goals as goal
use Rattle.elf_object.proofs.symtab.only_symtab.Goals.{then-is_symtab+else-is_some, else-is_symtab}

pub loop-i-preserved : goal.loop-i-preserved
loop-i-preserved c =
    let file = c.args.file.now in
    let i = c.loop-i.i in
    let there : i < e_shnum file = omega arith in
    elim c.if-is_symtab.branch [
      | then-is_symtab+else-is_some w ↦
          one_found (is_symtab file) (symtabs file) c.loop-i.found c.if-is_symtab.found i
          (e_shnum file) there (sym c.is_symtab.ensures ∙ w.if-is_symtab.true)
          (sym w.is_some.ensures ∙ w.if-is_some.false) w.found-is c.loop-i.invariant
      | else-is_symtab w ↦
          none_found (is_symtab file) (symtabs file) c.loop-i.found c.if-is_symtab.found i
          (e_shnum file) there (sym c.is_symtab.ensures ∙ w.if-is_symtab.false)
          w.found-is c.loop-i.invariant
    ]
