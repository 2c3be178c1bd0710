use Rattle.std.proofs.Common.{◌≡◌, ℕ, ◌<◌, false, get_or, length}
use Rattle.omos_model.specs.ElfFaults.{is_kept}
use Rattle.elf_object.proofs.kept.kept_sections.Given as goal

abbrev pub invariant-loop-i : goal.invariant-loop-i
invariant-loop-i l = record {
  all : length l.kept ≡ l.i;
  each : (k : ℕ) → k < l.i → get_or l.kept k false ≡ is_kept l.file k;
}
