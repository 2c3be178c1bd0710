-- Records are read as they were written.
use Rattle.std.proofs.Common.{◌≡◌, ℕ, ◌<◌, ◌^◌, List, [], ◌++◌, SFits, w64, ap, ◌∙◌, arith}
use Rattle.std.proofs.Common.{take, length, ◌+◌, append_assoc}
use Rattle.std.proofs.Math.Seq.{take-append_seam, drop-append-add}
use Rattle.std.proofs.lemmas.Int.{to_z-of_z, ints}
use Rattle.std.specs.Int.{cast_signed, cast_unsigned}
use Rattle.byteorder.specs.Endian.{little_number, little_bytes}
use Rattle.byteorder.specs.Numbers.{little_number-reads_back}
use Rattle.omos_base.specs.Fields.{number_at}
use Rattle.elf_words.specs.declared.ehdr.Ehdr.{Ehdr}
use Rattle.elf_words.specs.Ehdr.{ehdr_at, ehdr_bytes}
use Rattle.elf_words.specs.declared.shdr.Shdr.{Shdr}
use Rattle.elf_words.specs.Shdr.{shdr_at, shdr_bytes}
use Rattle.elf_words.specs.declared.sym.Sym.{Sym}
use Rattle.elf_words.specs.Sym.{sym_at, sym_bytes}
use Rattle.elf_words.specs.declared.rela.Rela.{Rela}
use Rattle.elf_words.specs.Rela.{rela_at, rela_bytes}
use Rattle.elf_words.specs.declared.phdr.Phdr.{Phdr}
use Rattle.elf_words.specs.Phdr.{phdr_at, phdr_bytes}

-- a number of this many bytes is read back
number_back : (width value : ℕ) → value < 256 ^ width
    → little_number width (little_bytes width value ++ []) ≡ value
number_back width value fits = little_number-reads_back width value [] fits

pub shdr_back : (header : Shdr) (rest : List ℕ)
    → header.sh_name < 2 ^ 32
    → header.sh_type < 2 ^ 32
    → header.sh_flags < 2 ^ 64
    → header.sh_addr < 2 ^ 64
    → header.sh_offset < 2 ^ 64
    → header.sh_size < 2 ^ 64
    → header.sh_link < 2 ^ 32
    → header.sh_info < 2 ^ 32
    → header.sh_addralign < 2 ^ 64
    → header.sh_entsize < 2 ^ 64
    → shdr_at (shdr_bytes header ++ rest) 0 ≡ header
unfolding number_at shdr_bytes
shdr_back header rest f0 f1 f2 f3 f4 f5 f6 f7 f8 f9 =
    let bytes : List ℕ = shdr_bytes header ++ rest in
    let sh_name : number_at 4 0 bytes ≡ header.sh_name = number_back 4 _ f0 in
    let sh_type : number_at 4 4 bytes ≡ header.sh_type = number_back 4 _ f1 in
    let sh_flags : number_at 8 8 bytes ≡ header.sh_flags = number_back 8 _ f2 in
    let sh_addr : number_at 8 16 bytes ≡ header.sh_addr = number_back 8 _ f3 in
    let sh_offset : number_at 8 24 bytes ≡ header.sh_offset = number_back 8 _ f4 in
    let sh_size : number_at 8 32 bytes ≡ header.sh_size = number_back 8 _ f5 in
    let sh_link : number_at 4 40 bytes ≡ header.sh_link = number_back 4 _ f6 in
    let sh_info : number_at 4 44 bytes ≡ header.sh_info = number_back 4 _ f7 in
    let sh_addralign : number_at 8 48 bytes ≡ header.sh_addralign = number_back 8 _ f8 in
    let sh_entsize : number_at 8 56 bytes ≡ header.sh_entsize = number_back 8 _ f9 in
    λ i. record {
      sh_name = sh_name i;
      sh_type = sh_type i;
      sh_flags = sh_flags i;
      sh_addr = sh_addr i;
      sh_offset = sh_offset i;
      sh_size = sh_size i;
      sh_link = sh_link i;
      sh_info = sh_info i;
      sh_addralign = sh_addralign i;
      sh_entsize = sh_entsize i;
    }

pub sym_back : (symbol : Sym) (rest : List ℕ)
    → symbol.st_name < 2 ^ 32
    → symbol.st_shndx < 2 ^ 16
    → symbol.st_value < 2 ^ 64
    → symbol.st_size < 2 ^ 64
    → sym_at (sym_bytes symbol ++ rest) 0 ≡ symbol
unfolding number_at sym_bytes
sym_back symbol rest f0 f3 f4 f5 =
    let bytes : List ℕ = sym_bytes symbol ++ rest in
    let st_name : number_at 4 0 bytes ≡ symbol.st_name = number_back 4 _ f0 in
    let st_shndx : number_at 2 6 bytes ≡ symbol.st_shndx = number_back 2 _ f3 in
    let st_value : number_at 8 8 bytes ≡ symbol.st_value = number_back 8 _ f4 in
    let st_size : number_at 8 16 bytes ≡ symbol.st_size = number_back 8 _ f5 in
    λ i. record {
      st_name = st_name i;
      st_info = symbol.st_info;
      st_other = symbol.st_other;
      st_shndx = st_shndx i;
      st_value = st_value i;
      st_size = st_size i;
    }

pub rela_back : (relocation : Rela) (rest : List ℕ)
    → relocation.r_offset < 2 ^ 64
    → relocation.r_info < 2 ^ 64
    → SFits w64 relocation.r_addend
    → rela_at (rela_bytes relocation ++ rest) 0 ≡ relocation
unfolding number_at rela_bytes
rela_back relocation rest f0 f1 f2 =
    let bytes : List ℕ = rela_bytes relocation ++ rest in
    let r_offset : number_at 8 0 bytes ≡ relocation.r_offset = number_back 8 _ f0 in
    let r_info : number_at 8 8 bytes ≡ relocation.r_info = number_back 8 _ f1 in
    let bits : number_at 8 16 bytes ≡ cast_unsigned w64 relocation.r_addend =
    number_back 8 _ (omega (arith, ints)) in
    let r_addend : cast_signed w64 (number_at 8 16 bytes) ≡ relocation.r_addend =
    ap (cast_signed w64) bits ∙ to_z-of_z w64 relocation.r_addend f2 in
    λ i. record {
      r_offset = r_offset i;
      r_info = r_info i;
      r_addend = r_addend i;
    }

pub phdr_back : (header : Phdr) (rest : List ℕ)
    → header.p_type < 2 ^ 32
    → header.p_flags < 2 ^ 32
    → header.p_offset < 2 ^ 64
    → header.p_vaddr < 2 ^ 64
    → header.p_paddr < 2 ^ 64
    → header.p_filesz < 2 ^ 64
    → header.p_memsz < 2 ^ 64
    → header.p_align < 2 ^ 64
    → phdr_at (phdr_bytes header ++ rest) 0 ≡ header
unfolding number_at phdr_bytes
phdr_back header rest f0 f1 f2 f3 f4 f5 f6 f7 =
    let bytes : List ℕ = phdr_bytes header ++ rest in
    let p_type : number_at 4 0 bytes ≡ header.p_type = number_back 4 _ f0 in
    let p_flags : number_at 4 4 bytes ≡ header.p_flags = number_back 4 _ f1 in
    let p_offset : number_at 8 8 bytes ≡ header.p_offset = number_back 8 _ f2 in
    let p_vaddr : number_at 8 16 bytes ≡ header.p_vaddr = number_back 8 _ f3 in
    let p_paddr : number_at 8 24 bytes ≡ header.p_paddr = number_back 8 _ f4 in
    let p_filesz : number_at 8 32 bytes ≡ header.p_filesz = number_back 8 _ f5 in
    let p_memsz : number_at 8 40 bytes ≡ header.p_memsz = number_back 8 _ f6 in
    let p_align : number_at 8 48 bytes ≡ header.p_align = number_back 8 _ f7 in
    λ i. record {
      p_type = p_type i;
      p_flags = p_flags i;
      p_offset = p_offset i;
      p_vaddr = p_vaddr i;
      p_paddr = p_paddr i;
      p_filesz = p_filesz i;
      p_memsz = p_memsz i;
      p_align = p_align i;
    }

-- the identification stands before the numbers
ehdr_split : (e_ident f1 f2 f3 f4 f5 f6 f7 f8 f9 f10 f11 f12 f13 rest : List ℕ)
    → (e_ident ++ f1 ++ f2 ++ f3 ++ f4 ++ f5 ++ f6 ++ f7 ++ f8 ++ f9 ++ f10 ++ f11 ++ f12
    ++ f13) ++ rest
    ≡ e_ident ++ ((f1 ++ f2 ++ f3 ++ f4 ++ f5 ++ f6 ++ f7 ++ f8 ++ f9 ++ f10 ++ f11 ++ f12
    ++ f13) ++ rest)
ehdr_split e_ident f1 f2 f3 f4 f5 f6 f7 f8 f9 f10 f11 f12 f13 rest = simp append_assoc

-- a number behind so many bytes
number_behind : (width size place : ℕ) (front rest : List ℕ) → length front ≡ size
    → number_at width (size + place) (front ++ rest) ≡ number_at width place rest
unfolding number_at
number_behind width size place front rest long =
    ap (little_number width) (rw (← long) (drop-append-add front rest place))

-- the numbers of an ELF header
abbrev numbers : Ehdr → List ℕ
numbers header =
    little_bytes 2 header.e_type ++ little_bytes 2 header.e_machine
    ++ little_bytes 4 header.e_version ++ little_bytes 8 header.e_entry
    ++ little_bytes 8 header.e_phoff ++ little_bytes 8 header.e_shoff
    ++ little_bytes 4 header.e_flags ++ little_bytes 2 header.e_ehsize
    ++ little_bytes 2 header.e_phentsize ++ little_bytes 2 header.e_phnum
    ++ little_bytes 2 header.e_shentsize ++ little_bytes 2 header.e_shnum
    ++ little_bytes 2 header.e_shstrndx

pub ehdr_back : (header : Ehdr) (rest : List ℕ)
    → length header.e_ident ≡ 16
    → header.e_type < 2 ^ 16
    → header.e_machine < 2 ^ 16
    → header.e_version < 2 ^ 32
    → header.e_entry < 2 ^ 64
    → header.e_phoff < 2 ^ 64
    → header.e_shoff < 2 ^ 64
    → header.e_flags < 2 ^ 32
    → header.e_ehsize < 2 ^ 16
    → header.e_phentsize < 2 ^ 16
    → header.e_phnum < 2 ^ 16
    → header.e_shentsize < 2 ^ 16
    → header.e_shnum < 2 ^ 16
    → header.e_shstrndx < 2 ^ 16
    → ehdr_at (ehdr_bytes header ++ rest) 0 ≡ header
unfolding number_at ehdr_bytes
ehdr_back header rest sixteen f0 f1 f2 f3 f4 f5 f6 f7 f8 f9 f10 f11 f12 =
    let tail : List ℕ = numbers header ++ rest in
    let split : ehdr_bytes header ++ rest ≡ header.e_ident ++ tail = ehdr_split header.e_ident
    (little_bytes 2 header.e_type) (little_bytes 2 header.e_machine)
    (little_bytes 4 header.e_version) (little_bytes 8 header.e_entry)
    (little_bytes 8 header.e_phoff) (little_bytes 8 header.e_shoff)
    (little_bytes 4 header.e_flags) (little_bytes 2 header.e_ehsize)
    (little_bytes 2 header.e_phentsize) (little_bytes 2 header.e_phnum)
    (little_bytes 2 header.e_shentsize) (little_bytes 2 header.e_shnum)
    (little_bytes 2 header.e_shstrndx) rest in
    let front : take 16 (header.e_ident ++ tail) ≡ header.e_ident =
    rw (← sixteen) (take-append_seam header.e_ident tail) in
    let e_type : number_at 2 16 (header.e_ident ++ tail) ≡ header.e_type =
    number_behind 2 16 0 header.e_ident tail sixteen ∙ number_back 2 _ f0 in
    let e_machine : number_at 2 18 (header.e_ident ++ tail) ≡ header.e_machine =
    number_behind 2 16 2 header.e_ident tail sixteen ∙ number_back 2 _ f1 in
    let e_version : number_at 4 20 (header.e_ident ++ tail) ≡ header.e_version =
    number_behind 4 16 4 header.e_ident tail sixteen ∙ number_back 4 _ f2 in
    let e_entry : number_at 8 24 (header.e_ident ++ tail) ≡ header.e_entry =
    number_behind 8 16 8 header.e_ident tail sixteen ∙ number_back 8 _ f3 in
    let e_phoff : number_at 8 32 (header.e_ident ++ tail) ≡ header.e_phoff =
    number_behind 8 16 16 header.e_ident tail sixteen ∙ number_back 8 _ f4 in
    let e_shoff : number_at 8 40 (header.e_ident ++ tail) ≡ header.e_shoff =
    number_behind 8 16 24 header.e_ident tail sixteen ∙ number_back 8 _ f5 in
    let e_flags : number_at 4 48 (header.e_ident ++ tail) ≡ header.e_flags =
    number_behind 4 16 32 header.e_ident tail sixteen ∙ number_back 4 _ f6 in
    let e_ehsize : number_at 2 52 (header.e_ident ++ tail) ≡ header.e_ehsize =
    number_behind 2 16 36 header.e_ident tail sixteen ∙ number_back 2 _ f7 in
    let e_phentsize : number_at 2 54 (header.e_ident ++ tail) ≡ header.e_phentsize =
    number_behind 2 16 38 header.e_ident tail sixteen ∙ number_back 2 _ f8 in
    let e_phnum : number_at 2 56 (header.e_ident ++ tail) ≡ header.e_phnum =
    number_behind 2 16 40 header.e_ident tail sixteen ∙ number_back 2 _ f9 in
    let e_shentsize : number_at 2 58 (header.e_ident ++ tail) ≡ header.e_shentsize =
    number_behind 2 16 42 header.e_ident tail sixteen ∙ number_back 2 _ f10 in
    let e_shnum : number_at 2 60 (header.e_ident ++ tail) ≡ header.e_shnum =
    number_behind 2 16 44 header.e_ident tail sixteen ∙ number_back 2 _ f11 in
    let e_shstrndx : number_at 2 62 (header.e_ident ++ tail) ≡ header.e_shstrndx =
    number_behind 2 16 46 header.e_ident tail sixteen ∙ number_back 2 _ f12 in
    ap (λ (bytes : List ℕ). ehdr_at bytes 0) split ∙ (λ i. record {
      e_ident = front i;
      e_type = e_type i;
      e_machine = e_machine i;
      e_version = e_version i;
      e_entry = e_entry i;
      e_phoff = e_phoff i;
      e_shoff = e_shoff i;
      e_flags = e_flags i;
      e_ehsize = e_ehsize i;
      e_phentsize = e_phentsize i;
      e_phnum = e_phnum i;
      e_shentsize = e_shentsize i;
      e_shnum = e_shnum i;
      e_shstrndx = e_shstrndx i;
    })
