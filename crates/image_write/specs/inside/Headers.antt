-- The header page of groups that stand at given places.
use Rattle.std.specs.Prelude.{ℕ, ◌+◌, ◌-◌, ◌==◌, not, List, [], ◌∷◌, ◌++◌}
use Rattle.std.specs.Prelude.{length, map, filter, replicate}
use Rattle.std.specs.List.{flat_map}
use Rattle.omos_base.specs.Fields.{zeros}
use Rattle.elf_words.specs.declared.ehdr.Ehdr.{Ehdr}
use Rattle.elf_words.specs.declared.phdr.Phdr.{Phdr}
use Rattle.elf_words.specs.Ehdr.{ehdr_bytes}
use Rattle.elf_words.specs.Phdr.{phdr_bytes}
use Rattle.omos_model.specs.declared.fragment.Group.{Group}
use Rattle.omos_model.specs.declared.fragment.Group.TheVariants.{Code, Consts, Vars, Zeros}
use Rattle.link_model.specs.Layout.{page}
use Rattle.link_model.specs.ImageBytes.{file_size, flags_of, stack}
use Rattle.link_model.specs.declared.groups.Groups.{Groups}
use Rattle.link_model.specs.Groups.{bytes_of}

-- PT_LOAD of a group that begins there and has this size
abbrev pub load_at : ℕ → Group → ℕ → ℕ → Phdr
load_at base g begin size =
    record {
      p_type = 1;
      p_flags = flags_of g;
      p_offset = page + begin;
      p_vaddr = base + begin;
      p_paddr = base + begin;
      p_filesz = file_size g size;
      p_memsz = size;
      p_align = page;
    }

abbrev pub load_in : Groups → ℕ → Group → Phdr
load_in groups base g = load_at base g (bytes_of groups.begins g) (bytes_of groups.sizes g)

abbrev pub all_groups : List Group
all_groups = Code ∷ Consts ∷ Vars ∷ Zeros ∷ []

-- those of the groups that aren't of size 0
abbrev pub loads_in : Groups → ℕ → List Group → List Phdr
loads_in groups base gs =
    map (load_in groups base) (filter (λ g. not (bytes_of groups.sizes g == 0)) gs)

abbrev pub headers_in : Groups → ℕ → List Phdr
headers_in groups base = loads_in groups base all_groups ++ stack ∷ []

abbrev pub ehdr_with : ℕ → ℕ → Ehdr
ehdr_with entry count =
    record {
      e_ident = 127 ∷ 69 ∷ 76 ∷ 70 ∷ 2 ∷ 1 ∷ 1 ∷ replicate 9 0;
      e_type = 2;
      e_machine = 62;
      e_version = 1;
      e_entry = entry;
      e_phoff = 64;
      e_shoff = 0;
      e_flags = 0;
      e_ehsize = 64;
      e_phentsize = 56;
      e_phnum = count;
      e_shentsize = 0;
      e_shnum = 0;
      e_shstrndx = 0;
    }

abbrev pub front_in : Groups → ℕ → ℕ → List ℕ
front_in groups base entry =
    ehdr_bytes (ehdr_with entry (length (headers_in groups base)))
    ++ flat_map phdr_bytes (headers_in groups base)

-- the headers, and zeros up to the page's end
abbrev pub page_in : Groups → ℕ → ℕ → List ℕ
page_in groups base entry =
    front_in groups base entry ++ zeros (page - length (front_in groups base entry))
