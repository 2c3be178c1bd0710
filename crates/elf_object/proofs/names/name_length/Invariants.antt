use Rattle.std.proofs.Common.{◌≡◌, ◌+◌, drop}
use Rattle.std.specs.List.{prefix_len}
use Rattle.omos_model.specs.Names.{is_name_byte}
use Rattle.elf_object.proofs.names.name_length.Given as goal

abbrev pub invariant-loop-length : goal.invariant-loop-length
invariant-loop-length l =
    prefix_len is_name_byte l.bytes ≡ l.length + prefix_len is_name_byte (drop l.length l.bytes)
