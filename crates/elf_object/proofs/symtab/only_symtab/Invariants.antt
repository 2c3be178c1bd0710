use Rattle.std.proofs.Common.{◌≡◌, ◌-◌, ◌++◌}
use Rattle.std.specs.Prelude.{filter}
use Rattle.std.specs.Option.{option_to_list}
use Rattle.omos_model.specs.Numbers.{numbers_from}
use Rattle.omos_model.specs.ElfFields.{e_shnum, is_symtab, symtabs}
use Rattle.elf_object.proofs.symtab.only_symtab.Given as goal

-- what was found, and what is found from i on
abbrev pub invariant-loop-i : goal.invariant-loop-i
invariant-loop-i l =
    symtabs l.file
    ≡ option_to_list l.found ++ filter (is_symtab l.file) (numbers_from l.i (e_shnum l.file - l.i))
