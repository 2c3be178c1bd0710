use Rattle.std.proofs.Common.{◌≡◌, ◌+◌, ◌==◌, not, drop}
use Rattle.std.specs.List.{prefix_len}
use Rattle.elf_object.proofs.names.until_zero.Given as goal

-- no byte before the end is zero
abbrev pub invariant-loop-end : goal.invariant-loop-end
invariant-loop-end l =
    prefix_len (λ b. not (b == 0)) l.bytes
    ≡ l.end + prefix_len (λ b. not (b == 0)) (drop l.end l.bytes)
