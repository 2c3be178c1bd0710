-- The entries of the used relocation sections, as a search comes to them.
use Rattle.std.proofs.Common.{◌≡◌, ℕ, ◌+◌, ◌-◌, ◌*◌, ◌/◌, ◌%◌, ◌^◌, ◌<◌, ◌≤◌, ◌==◌, Bool, true}
use Rattle.std.proofs.Common.{false}
use Rattle.std.proofs.Common.{not, ◌&&◌, List, [], ◌∷◌, Option, Some, None, refl, sym, ap, ◌∙◌}
use Rattle.std.proofs.Common.{cond, map, arith}
use Rattle.std.specs.Prelude.{filter, nat_le}
use Rattle.std.specs.List.{find}
use Rattle.std.specs.Option.{option_map, option_map_or, option_or}
use Rattle.std.proofs.lemmas.List.Folds.{find-append}
use Rattle.omos_base.specs.Fields.{number_at}
use Rattle.omos_model.specs.FragmentParts.{width}
use Rattle.omos_model.specs.Numbers.{numbers_from}
use Rattle.omos_model.specs.ElfFields.{e_shnum, header_at, sections, sh_size}
use Rattle.omos_model.specs.ElfFaults.{entry_count, is_aim_of, is_used_rela, is_wrong_entry}
use Rattle.omos_model.specs.ElfFaults.{is_wrong_rela, kind_of}
use Rattle.omos_model.proofs.Ranges.{find_none, pairs}
use Rattle.elf_words.specs.Rela.{rela_at}
use Rattle.elf_words.specs.Shdr.{shdr_at}
use Rattle.elf_words.specs.declared.rela.Rela.{Rela}
use Rattle.elf_words.specs.declared.shdr.Shdr.{Shdr}
use Rattle.elf_object.specs.Stages.{IsReadable}
use Rattle.elf_object.proofs.Right.{readable}
use Rattle.elf_object.proofs.Runs.{filter_here, filter_next}

-- what is_wrong_entry says of the fields of an entry and the size of its target
abbrev is_wrong : List ℕ → ℕ → ℕ → ℕ → Bool
is_wrong file size r_offset r_info =
    not (r_info % 2 ^ 32 == 0)
    && not (
    option_map_or (λ kind. nat_le (r_offset + width kind) size) (kind_of (r_info % 2 ^ 32)) false
    && is_aim_of file (r_info / 2 ^ 32)
    )

-- the same of an entry that was read
pub is_wrong_at : (file : List ℕ) (i j : ℕ) (h t : Shdr) (r : Rela) (b : Bool)
    → h ≡ shdr_at file (header_at file i) → t ≡ shdr_at file (header_at file h.sh_info)
    → r ≡ rela_at file (h.sh_offset + 24 * j) → b ≡ is_wrong file t.sh_size r.r_offset r.r_info
    → b ≡ is_wrong_entry file (i, j)
is_wrong_at file i j h t r b eh et er e =
    e
    ∙ ap (λ (x : Rela). is_wrong file t.sh_size x.r_offset x.r_info) er
    ∙ ap (λ (x : Shdr). is_wrong file x.sh_size (number_at 8 (h.sh_offset + 24 * j) file)
    (number_at 8 (h.sh_offset + 24 * j + 8) file)) et
    ∙ ap (λ (x : Shdr). is_wrong file (sh_size file x.sh_info)
    (number_at 8 (x.sh_offset + 24 * j) file) (number_at 8 (x.sh_offset + 24 * j + 8) file)) eh

find_map : {X Y : Type 0} (p : Y → Bool) (f : X → Y) (xs : List X)
    → find p (map f xs) ≡ option_map f (find (λ x. p (f x)) xs)
find_map p f [] = refl
find_map {X} {Y} p f (x ∷ xs) = go (p (f x)) (find_map p f xs)
  where
    go : (b : Bool) → find p (map f xs) ≡ option_map f (find (λ y. p (f y)) xs)
        → cond b (Some (f x)) (find p (map f xs))
        ≡ option_map f (cond b (Some x) (find (λ y. p (f y)) xs))
    go true e = refl
    go false e = e

-- the entries of the used sections from i on
abbrev entries_from : List ℕ → ℕ → List (ℕ × ℕ)
entries_from file i =
    pairs (entry_count file) (filter (is_used_rela file) (numbers_from i (e_shnum file - i)))

-- of a used section its own come first
pub find_used : (file : List ℕ) (i : ℕ) (o : Option ℕ) → i < e_shnum file
    → is_used_rela file i ≡ true
    → o ≡ find (λ j. is_wrong_entry file (i, j)) (numbers_from 0 (entry_count file i))
    → find (is_wrong_entry file) (entries_from file i)
    ≡ option_or (option_map (λ (j : ℕ). (i, j)) o)
    (find (is_wrong_entry file) (entries_from file (i + 1)))
find_used file i o there used e =
    ap (λ is. find (is_wrong_entry file) (pairs (entry_count file) is))
    (filter_here (is_used_rela file) i (e_shnum file) there used)
    ∙ find-append (is_wrong_entry file) (map (λ (j : ℕ). (i, j))
    (numbers_from 0 (entry_count file i))) (entries_from file (i + 1))
    ∙ ap (λ o. option_or o (find (is_wrong_entry file) (entries_from file (i + 1))))
    (find_map (is_wrong_entry file) (λ (j : ℕ). (i, j)) (numbers_from 0 (entry_count file i)) ∙ ap
    (option_map (λ (j : ℕ). (i, j))) (sym e))

-- any other section has none
pub find_unused : (file : List ℕ) (i : ℕ) → i < e_shnum file → is_used_rela file i ≡ false
    → find (is_wrong_entry file) (entries_from file i)
    ≡ find (is_wrong_entry file) (entries_from file (i + 1))
find_unused file i there used =
    ap (λ is. find (is_wrong_entry file) (pairs (entry_count file) is))
    (filter_next (is_used_rela file) i (e_shnum file) there used)

pub readable_at : (file : List ℕ) (i : ℕ) → find (is_wrong_rela file) (sections file) ≡ None
    → 1 ≤ i → i < e_shnum file → is_used_rela file i ≡ true → IsReadable file i
readable_at file i relas low there used =
    readable file i there (find_none (is_wrong_rela file) 1 (e_shnum file - 1) relas i
    (record { low = low; high = omega (arith, there) })) used
