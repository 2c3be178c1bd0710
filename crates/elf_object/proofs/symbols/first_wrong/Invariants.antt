use Rattle.std.proofs.Common.{◌≡◌, ◌-◌}
use Rattle.std.specs.List.{find}
use Rattle.omos_model.specs.Numbers.{numbers_from}
use Rattle.omos_model.specs.ElfFields.{symbols}
use Rattle.omos_model.specs.ElfFaults.{is_wrong_symbol}
use Rattle.elf_object.proofs.symbols.first_wrong.Given as goal

-- none was found below k
abbrev pub invariant-loop-k : goal.invariant-loop-k
invariant-loop-k l =
    find (is_wrong_symbol l.file) (symbols l.file)
    ≡ find (is_wrong_symbol l.file) (numbers_from l.k (l.table.count - l.k))
