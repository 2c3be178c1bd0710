use Rattle.std.proofs.Common.{◌≡◌, length, rules}
use Rattle.elf_words.specs.Ehdr.{ehdr_bytes}
use Rattle.elf_words.proofs.Written.{unwritten, written_more, number_more}
use Rattle.elf_words.proofs.ehdr.EhdrRecord.write.Goals as goal

pub returns : goal.returns
unfolding ehdr_bytes
returns c =
    let header = c.args.self.now in
    let start = unwritten c.args.into.now in
    let sixteen : length header.e_ident ≡ 16 = search rules in
    let first = rw sixteen at c.put_bytes.ensures in
    let e_ident = written_more 16 header.e_ident _ start sixteen first in
    let e_type = number_more 2 header.e_type e_ident c.put_u16.ensures in
    let e_machine = number_more 2 header.e_machine e_type c.put_u16-2.ensures in
    let e_version = number_more 4 header.e_version e_machine c.put_u32.ensures in
    let e_entry = number_more 8 header.e_entry e_version c.put_u64.ensures in
    let e_phoff = number_more 8 header.e_phoff e_entry c.put_u64-2.ensures in
    let e_shoff = number_more 8 header.e_shoff e_phoff c.put_u64-3.ensures in
    let e_flags = number_more 4 header.e_flags e_shoff c.put_u32-2.ensures in
    let e_ehsize = number_more 2 header.e_ehsize e_flags c.put_u16-3.ensures in
    let e_phentsize = number_more 2 header.e_phentsize e_ehsize c.put_u16-4.ensures in
    let e_phnum = number_more 2 header.e_phnum e_phentsize c.put_u16-5.ensures in
    let e_shentsize = number_more 2 header.e_shentsize e_phnum c.put_u16-6.ensures in
    let e_shnum = number_more 2 header.e_shnum e_shentsize c.put_u16-7.ensures in
    let e_shstrndx = number_more 2 header.e_shstrndx e_shnum c.put_u16-8.ensures in
    e_shstrndx.is
