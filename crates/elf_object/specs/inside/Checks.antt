-- What a section may fail.
use Rattle.std.specs.Prelude.{ℕ, Bool, List}
use Rattle.omos_model.specs.ElfFaults.{is_unsupported, is_wrong_section}
use Rattle.elf_object.specs.declared.kept.Check.{Check}
use Rattle.elf_object.specs.declared.kept.Check.TheVariants.{Kept, Supported}

abbrev pub fails : Check → List ℕ → ℕ → Bool
fails Kept file i = is_wrong_section file i
fails Supported file i = is_unsupported file i
