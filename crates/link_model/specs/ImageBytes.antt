-- The bytes of a plan's image at a base (System V gABI, chapters 4 and 5), byte by byte.
use Rattle.std.specs.Prelude.{ℕ, ◌+◌, ◌-◌, ◌*◌, ◌/◌, ◌%◌, ◌==◌, nat_lt, nat_le, Bool, not, ◌&&◌}
use Rattle.std.specs.Prelude.{List, [], ◌∷◌, ◌++◌, length, map, reverse, slice_get, slice_index}
use Rattle.std.specs.Prelude.{filter, if◌then◌else◌, Option, Some, None, Result, Ok, Err, is_some}
use Rattle.std.specs.Prelude.{unwrap_or, replicate}
use Rattle.std.specs.List.{find, flat_map, zip}
use Rattle.std.specs.Option.{option_map, option_or}
use Rattle.omos_base.specs.Endian.{little_bytes}
use Rattle.elf_words.specs.declared.ehdr.Ehdr.{Ehdr}
use Rattle.elf_words.specs.declared.phdr.Phdr.{Phdr}
use Rattle.elf_words.specs.Ehdr.{ehdr_bytes}
use Rattle.elf_words.specs.Phdr.{phdr_bytes}
use Rattle.omos_model.specs.FragmentParts.{width}
use Rattle.omos_model.specs.Numbers.{numbers_from}
use Rattle.omos_model.specs.declared.fragment.Group.{Group}
use Rattle.omos_model.specs.declared.fragment.Group.TheVariants.{Code, Consts, Vars, Zeros}
use Rattle.omos_model.specs.declared.fragment.Piece.{Piece}
use Rattle.omos_model.specs.declared.mark.Target.{Target}
use Rattle.omos_model.specs.declared.mark.Target.TheVariants.{Inside, Fixed}
use Rattle.omos_model.specs.declared.refusal.Refusal.{Refusal}
use Rattle.omos_model.specs.declared.refusal.Refusal.TheVariants.{Overflow}
use Rattle.link_model.specs.Field.{field_value}
use Rattle.link_model.specs.Program.{Reference, references}
use Rattle.link_model.specs.Layout.{page, target_at, slot_number, slots_begin, group_begin}
use Rattle.link_model.specs.Layout.{group_pages, group_size, program_pieces}
use Rattle.link_model.specs.Plan.{Plan, first_in}

-- ---- addresses

-- where a piece of a leaf stands, counted from the base
abbrev pub place_at : Plan → ℕ → ℕ → ℕ
place_at plan leaf piece =
    unwrap_or (slice_get (unwrap_or (slice_get plan.places leaf) []) piece) 0

abbrev pub address_of : Plan → ℕ → Target → ℕ
address_of plan base (Inside leaf piece offset) = base + place_at plan leaf piece + offset
address_of plan base (Fixed value) = value

-- where the field of a reference stands, counted from the base
abbrev pub field_place : Plan → Reference → ℕ
field_place plan r = place_at plan r.leaf r.fixup.piece + r.fixup.offset

abbrev pub slot_address : Plan → ℕ → Target → ℕ
slot_address plan base target =
    base + slots_begin plan.parts + 8 * slot_number plan.slots target

-- ---- fields

abbrev pub number_in_field : Plan → ℕ → Reference → Option ℕ
number_in_field plan base r =
    let target = target_at r.landing in
    field_value r.fixup.kind (address_of plan base target) r.fixup.addend
    (base + field_place plan r) (slot_address plan base target)

-- L13 for a reference whose value doesn't fit
abbrev pub overflow_at : Plan → ℕ → Reference → Option Refusal
overflow_at plan base r =
    if is_some (number_in_field plan base r) then None else Some (Overflow r.leaf r.number)

abbrev pub overflow : Plan → ℕ → Option Refusal
overflow plan base = first_in (overflow_at plan base) (references plan.parts)

-- ---- the byte at an offset from the base

abbrev pub covers : ℕ → ℕ → ℕ → Bool
covers begin size x = nat_le begin x && nat_lt x (begin + size)

abbrev pub is_field_at : Plan → ℕ → Reference → Bool
is_field_at plan x r = covers (field_place plan r) (width r.fixup.kind) x

abbrev pub byte_in_field : Plan → ℕ → ℕ → Reference → ℕ
byte_in_field plan base x r =
    slice_index (little_bytes (width r.fixup.kind) (unwrap_or (number_in_field plan base r) 0))
    (x - field_place plan r)

-- of the last fixup that covers it
abbrev pub field_byte : Plan → ℕ → ℕ → Option ℕ
field_byte plan base x =
    option_map (byte_in_field plan base x)
    (find (is_field_at plan x) (reverse (references plan.parts)))

-- of a slot: it holds its target's address
abbrev pub slot_byte : Plan → ℕ → ℕ → Option ℕ
slot_byte plan base x =
    if covers (slots_begin plan.parts) (8 * length plan.slots) x
    then option_map
    (λ target. slice_index (little_bytes 8 (address_of plan base target))
    ((x - slots_begin plan.parts) % 8))
    (slice_get plan.slots ((x - slots_begin plan.parts) / 8))
    else None

-- the pieces with their places
abbrev pub placed_pieces : Plan → List (ℕ × Piece)
placed_pieces plan = zip (flat_map (λ row. row) plan.places) (program_pieces plan.parts)

-- of a section
abbrev pub piece_byte : Plan → ℕ → Option ℕ
piece_byte plan x =
    option_map (λ y. slice_index y.1.bytes (x - y.0))
    (find (λ y. covers y.0 y.1.size x) (placed_pieces plan))

abbrev pub byte_of : Plan → ℕ → ℕ → ℕ
byte_of plan base x =
    unwrap_or
    (option_or (field_byte plan base x) (option_or (slot_byte plan base x) (piece_byte plan x)))
    0

-- ---- the headers

-- PF_R and PF_X; PF_R; PF_R and PF_W
abbrev pub flags_of : Group → ℕ
flags_of Code = 5
flags_of Consts = 4
flags_of Vars = 6
flags_of Zeros = 6

abbrev pub file_size : Group → ℕ → ℕ
file_size Zeros size = 0
file_size g size = size

-- PT_LOAD of a group
abbrev pub load_of : Plan → ℕ → Group → Phdr
load_of plan base g =
    let begin = group_begin g plan.parts in
    let size = group_size g plan.parts in
    record {
      p_type = 1;
      p_flags = flags_of g;
      p_offset = page + begin;
      p_vaddr = base + begin;
      p_paddr = base + begin;
      p_filesz = file_size g size;
      p_memsz = size;
      p_align = page;
    }

-- PT_GNU_STACK (a GNU extension): no code stands on the stack
abbrev pub stack : Phdr
stack =
    record {
      p_type = 0x6474E551;
      p_flags = 6;
      p_offset = 0;
      p_vaddr = 0;
      p_paddr = 0;
      p_filesz = 0;
      p_memsz = 0;
      p_align = 16;
    }

-- the groups in their order, but those of size 0
abbrev pub loaded_groups : Plan → List Group
loaded_groups plan =
    filter (λ g. not (group_size g plan.parts == 0)) (Code ∷ Consts ∷ Vars ∷ Zeros ∷ [])

abbrev pub program_headers : Plan → ℕ → List Phdr
program_headers plan base = map (load_of plan base) (loaded_groups plan) ++ stack ∷ []

-- the start's address, or 0 where there is no start
abbrev pub entry_address : Plan → ℕ → ℕ
entry_address plan base = unwrap_or (option_map (address_of plan base) plan.entry) 0

-- ET_EXEC for EM_X86_64, with its program headers right behind
abbrev pub elf_header : Plan → ℕ → Ehdr
elf_header plan base =
    record {
      e_ident = 127 ∷ 69 ∷ 76 ∷ 70 ∷ 2 ∷ 1 ∷ 1 ∷ replicate 9 0;
      e_type = 2;
      e_machine = 62;
      e_version = 1;
      e_entry = entry_address plan base;
      e_phoff = 64;
      e_shoff = 0;
      e_flags = 0;
      e_ehsize = 64;
      e_phentsize = 56;
      e_phnum = length (program_headers plan base);
      e_shentsize = 0;
      e_shnum = 0;
      e_shstrndx = 0;
    }

abbrev pub headers : Plan → ℕ → List ℕ
headers plan base =
    ehdr_bytes (elf_header plan base) ++ flat_map phdr_bytes (program_headers plan base)

abbrev pub header_page : Plan → ℕ → List ℕ
header_page plan base =
    headers plan base ++ replicate (page - length (headers plan base)) 0

-- ---- the file

-- Zeros has no bytes in the file
abbrev pub file_pages : Plan → ℕ
file_pages plan =
    group_pages Code plan.parts + group_pages Consts plan.parts + group_pages Vars plan.parts

abbrev pub file_bytes : Plan → ℕ → List ℕ
file_bytes plan base =
    header_page plan base ++ map (byte_of plan base) (numbers_from 0 (page * file_pages plan))

abbrev pub unless_overflow : Option Refusal → List ℕ → Result (List ℕ) Refusal
unless_overflow None bytes = Ok bytes
unless_overflow (Some x) bytes = Err x

-- the image of a plan at a base, or L13
unfoldable pub image_bytes : Plan → ℕ → Result (List ℕ) Refusal
image_bytes plan base = unless_overflow (overflow plan base) (file_bytes plan base)
