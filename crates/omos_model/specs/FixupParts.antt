-- Fixups by their fields and their aims.
use Rattle.std.specs.Prelude.{List, map}
use Rattle.std.specs.List.{zip}
use Rattle.omos_model.specs.declared.fragment.Aim.{Aim}
use Rattle.omos_model.specs.declared.fragment.Fixup.{Fixup}
use Rattle.omos_model.specs.declared.fixups.Field.{Field}

-- all of a fixup but its aim
abbrev pub field_of : Fixup → Field
field_of x = record { piece = x.piece; offset = x.offset; kind = x.kind; addend = x.addend }

-- a field beside its aim
abbrev pub fixup_at : Field × Aim → Fixup
fixup_at r =
    record {
      piece = r.0.piece;
      offset = r.0.offset;
      kind = r.0.kind;
      addend = r.0.addend;
      aim = r.1;
    }

-- each field beside its aim
unfoldable pub fixups_of : List Field → List Aim → List Fixup
fixups_of fields aims = map fixup_at (zip fields aims)
