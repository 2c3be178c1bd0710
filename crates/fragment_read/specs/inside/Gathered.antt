-- Fixups as they are gathered: their fields, and the symbols at which they aim.
use Rattle.std.specs.Prelude.{◌≡◌, ℕ, true, List, length, map}
use Rattle.std.specs.List.{list_all}
use Rattle.omos_model.specs.ElfFaults.{is_aim_of}
use Rattle.omos_model.specs.ElfFields.{symbol_count}
use Rattle.omos_model.specs.FixupParts.{fixups_of}
use Rattle.omos_model.specs.FragmentOf.{aim_of}
use Rattle.omos_model.specs.declared.fixups.Field.{Field}
use Rattle.omos_model.specs.declared.fragment.Fixup.{Fixup}
use Rattle.fragment_read.specs.declared.used.Used.{Used}
use Rattle.fragment_read.specs.inside.Used.{AreUsed, named_symbols}

-- the fixups with these fields that aim at these symbols of a file
abbrev pub gathered : List ℕ → List Field → Used → List Fixup
gathered file fields used = fixups_of fields (map (aim_of file) (named_symbols used))

pub record AreGathered (file : List ℕ) (fields : List Field) (u : Used) : Type 0 where
  pub used : AreUsed u
  pub places : length u.places.items ≡ symbol_count file
  pub count : length (named_symbols u) ≡ length fields
  pub aims : list_all (is_aim_of file) u.symbols ≡ true
