-- A fixup, from what was read of its relocation.
use Rattle.std.proofs.Common.{◌≡◌, ℕ, ◌+◌, ◌*◌, ◌/◌, ◌%◌, ◌^◌, List, Option, Some, None, sym, ap}
use Rattle.std.proofs.Common.{◌∙◌}
use Rattle.std.specs.Option.{option_map}
use Rattle.elf_words.specs.Rela.{rela_at}
use Rattle.elf_words.specs.declared.rela.Rela.{Rela}
use Rattle.omos_model.specs.ElfFields.{entry_at, r_addend, r_info, r_offset, r_sym, r_type, sh_info}
use Rattle.omos_model.specs.ElfFields.{sh_offset}
use Rattle.omos_model.specs.ElfFaults.{kind_of}
use Rattle.omos_model.specs.FragmentOf.{aim_of, fixup_of, section_piece}
use Rattle.omos_model.specs.declared.fragment.Aim.{Aim}
use Rattle.omos_model.specs.declared.fragment.Kind.{Kind}
use Rattle.fragment_read.specs.inside.Numbered.{fixup_with}

-- an entry as it was read
pub read_is : (file bytes : List ℕ) (i j at : ℕ) (e : Rela) → e ≡ rela_at bytes (at + 24 * j)
    → bytes ≡ file → at ≡ sh_offset file i → e ≡ rela_at file (entry_at file i j)
read_is file bytes i j at e read same place =
    read ∙ ap (λ (f : List ℕ). rela_at f (at + 24 * j)) same
    ∙ ap (λ (n : ℕ). rela_at file (n + 24 * j)) place

pub type_is : (file : List ℕ) (i j : ℕ) (e : Rela) (o : Option Kind)
    → e ≡ rela_at file (entry_at file i j) → kind_of (e.r_info % 2 ^ 32) ≡ o
    → kind_of (r_type file i j) ≡ o
type_is file i j e o read type =
    let info : e.r_info ≡ r_info file i j = ap (λ (x : Rela). x.r_info) read in
    ap (λ (n : ℕ). kind_of (n % 2 ^ 32)) (sym info) ∙ type

pub no_fixup : (file : List ℕ) (i j : ℕ) (e : Rela) → e ≡ rela_at file (entry_at file i j)
    → kind_of (e.r_info % 2 ^ 32) ≡ None → fixup_of file (i, j) ≡ None
no_fixup file i j e read type =
    ap (option_map (fixup_with (section_piece file (sh_info file i)) (r_offset file i j)
    (r_addend file i j) (aim_of file (r_sym file i j)))) (type_is file i j e None read type)

pub fixup_is : (file : List ℕ) (i j : ℕ) (e : Rela) (kind : Kind) (piece : ℕ) (aim : Aim)
    → e ≡ rela_at file (entry_at file i j) → piece ≡ section_piece file (sh_info file i)
    → kind_of (e.r_info % 2 ^ 32) ≡ Some kind → aim ≡ aim_of file (e.r_info / 2 ^ 32)
    → fixup_of file (i, j) ≡ Some (fixup_with piece e.r_offset e.r_addend aim kind)
fixup_is file i j e kind piece aim read target type aimed =
    let is = type_is file i j e (Some kind) read type in
    let at = section_piece file (sh_info file i) in
    ap (option_map (fixup_with at (r_offset file i j) (r_addend file i j)
    (aim_of file (r_sym file i j)))) is
    ∙ ap (λ (x : Rela). Some (fixup_with at x.r_offset x.r_addend
    (aim_of file (x.r_info / 2 ^ 32)) kind)) (sym read)
    ∙ ap (λ (a : Aim). Some (fixup_with at e.r_offset e.r_addend a kind)) (sym aimed)
    ∙ ap (λ (p : ℕ). Some (fixup_with p e.r_offset e.r_addend aim kind)) (sym target)
