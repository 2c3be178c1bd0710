use Rattle.std.proofs.Common.{◌≡◌, ◌-◌, ◌≤◌}
use Rattle.std.specs.List.{find}
use Rattle.omos_model.specs.Numbers.{numbers_from}
use Rattle.omos_model.specs.ElfFields.{e_shnum, sections}
use Rattle.omos_model.specs.ElfFaults.{entries_up_to, is_wrong_rela}
use Rattle.elf_object.proofs.relas.first_wrong.Given as goal

-- none was found below i, and these are the entries so far
abbrev pub invariant-loop-i : goal.invariant-loop-i
invariant-loop-i l =
    (find (is_wrong_rela l.file) (sections l.file)
    ≡ find (is_wrong_rela l.file) (numbers_from l.i (e_shnum l.file - l.i)))
    × (l.entries ≡ entries_up_to l.file (l.i - 1))
    × (l.entries ≤ 65535)
