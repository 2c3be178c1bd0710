use Rattle.elf_words.specs.Phdr.{phdr_bytes}
use Rattle.elf_words.proofs.Written.{unwritten, number_more}
use Rattle.elf_words.proofs.phdr.PhdrRecord.write.Goals as goal

pub returns : goal.returns
unfolding phdr_bytes
returns c =
    let header = c.args.self.now in
    let start = unwritten c.args.into.now in
    let p_type = number_more 4 header.p_type start c.put_u32.ensures in
    let p_flags = number_more 4 header.p_flags p_type c.put_u32-2.ensures in
    let p_offset = number_more 8 header.p_offset p_flags c.put_u64.ensures in
    let p_vaddr = number_more 8 header.p_vaddr p_offset c.put_u64-2.ensures in
    let p_paddr = number_more 8 header.p_paddr p_vaddr c.put_u64-3.ensures in
    let p_filesz = number_more 8 header.p_filesz p_paddr c.put_u64-4.ensures in
    let p_memsz = number_more 8 header.p_memsz p_filesz c.put_u64-5.ensures in
    let p_align = number_more 8 header.p_align p_memsz c.put_u64-6.ensures in
    p_align.is
