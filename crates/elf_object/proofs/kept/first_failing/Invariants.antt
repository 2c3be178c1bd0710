use Rattle.std.proofs.Common.{◌≡◌, ◌-◌}
use Rattle.std.specs.List.{find}
use Rattle.omos_model.specs.Numbers.{numbers_from}
use Rattle.omos_model.specs.ElfFields.{e_shnum, sections}
use Rattle.elf_object.specs.inside.Checks.{fails}
use Rattle.elf_object.proofs.kept.first_failing.Given as goal

-- none was found below i
abbrev pub invariant-loop-i : goal.invariant-loop-i
invariant-loop-i l =
    find (fails l.check l.file) (sections l.file)
    ≡ find (fails l.check l.file) (numbers_from l.i (e_shnum l.file - l.i))
