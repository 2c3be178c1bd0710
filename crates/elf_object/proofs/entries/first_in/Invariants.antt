use Rattle.std.proofs.Common.{◌≡◌, ◌-◌}
use Rattle.std.specs.List.{find}
use Rattle.omos_model.specs.Numbers.{numbers_from}
use Rattle.omos_model.specs.ElfFaults.{entry_count, is_wrong_entry}
use Rattle.elf_object.proofs.entries.first_in.Given as goal

-- none was found below j
abbrev pub invariant-loop-j : goal.invariant-loop-j
invariant-loop-j l =
    find (λ j. is_wrong_entry l.file (l.i, j)) (numbers_from 0 (entry_count l.file l.i))
    ≡ find (λ j. is_wrong_entry l.file (l.i, j)) (numbers_from l.j (entry_count l.file l.i - l.j))
