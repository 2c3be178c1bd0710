use Rattle.std.proofs.Common.{◌≡◌, ◌++◌, take}
use Rattle.std.specs.List.{flat_map}
use Rattle.elf_words.specs.Phdr.{phdr_bytes}
use Rattle.image_write.proofs.headers.push_headers.Given as goal

abbrev pub invariant-loop-header : goal.invariant-loop-header
invariant-loop-header l =
    l.bytes ≡ l.fn.bytes ++ flat_map phdr_bytes (take l.header-index l.headers)
