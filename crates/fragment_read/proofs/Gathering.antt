-- One fixup more.
use Rattle.std.proofs.Common.{◌≡◌, ℕ, ◌∷◌, ◌++◌, [], true, List, length, map, ap, sym, ◌∙◌}
use Rattle.std.proofs.Common.{arith}
use Rattle.std.proofs.lemmas.List.{length-append, length-map, map-append}
use Rattle.dict_row.specs.Keys.{decoded}
use Rattle.dict_row.proofs.Decoded.{map_decoded}
use Rattle.omos_model.specs.ElfFaults.{is_aim_of}
use Rattle.omos_model.specs.FixupParts.{fixup_at, fixups_of}
use Rattle.omos_model.specs.FragmentOf.{aim_of}
use Rattle.omos_model.specs.declared.fixups.Field.{Field}
use Rattle.omos_model.specs.declared.fragment.Aim.{Aim}
use Rattle.omos_model.proofs.FixupLaws.{one_more}
use Rattle.fragment_read.specs.declared.used.Used.{Used}
use Rattle.fragment_read.specs.inside.Used.{HasNamed, named_symbols}
use Rattle.fragment_read.specs.inside.Gathered.{AreGathered, gathered}

pub still_gathered : (file : List ℕ) (fields after : List Field) (old new : Used) (field : Field)
    (k : ℕ) → AreGathered file fields old → HasNamed old new k → is_aim_of file k ≡ true
    → after ≡ fields ++ field ∷ [] → AreGathered file after new
still_gathered file fields after old new field k g named aim is =
    let grown = ap length named.symbols ∙ length-append (named_symbols old) (k ∷ []) in
    let pushed = ap length is ∙ length-append fields (field ∷ []) in
    record {
      used = named.used;
      places = named.places ∙ g.places;
      count = omega (arith, grown, pushed, g.count);
      aims = named.each (is_aim_of file) g.aims aim;
    }

pub gathered_more : (file : List ℕ) (fields after : List Field) (old new : Used) (field : Field)
    (k : ℕ) → AreGathered file fields old → HasNamed old new k → after ≡ fields ++ field ∷ []
    → gathered file after new ≡ gathered file fields old ++ fixup_at (field, aim_of file k) ∷ []
gathered_more file fields after old new field k g named is =
    let aims = map (aim_of file) in
    let more = ap aims named.symbols ∙ map-append (aim_of file) (named_symbols old) (k ∷ []) in
    ap (λ (fs : List Field). fixups_of fs (aims (named_symbols new))) is
    ∙ ap (fixups_of (fields ++ field ∷ [])) more
    ∙ one_more fields (aims (named_symbols old)) field (aim_of file k)
    (length-map (named_symbols old) (aim_of file) ∙ g.count)

-- the aims of the symbols, by the relocations' keys
pub aimed_at : (file : List ℕ) (used : Used) (keys : List ℕ) (aims : List Aim) → keys ≡ used.keys
    → aims ≡ map (aim_of file) used.symbols
    → decoded aims keys ≡ map (aim_of file) (named_symbols used)
aimed_at file used keys aims same are =
    ap (decoded aims) same ∙ ap (λ (xs : List Aim). decoded xs used.keys) are
    ∙ sym (map_decoded (aim_of file) used.symbols used.keys)
