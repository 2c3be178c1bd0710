use Rattle.elf_words.specs.Shdr.{shdr_bytes}
use Rattle.elf_words.proofs.Written.{unwritten, number_more}
use Rattle.elf_words.proofs.shdr.ShdrRecord.write.Goals as goal

pub returns : goal.returns
unfolding shdr_bytes
returns c =
    let header = c.args.self.now in
    let start = unwritten c.args.into.now in
    let sh_name = number_more 4 header.sh_name start c.put_u32.ensures in
    let sh_type = number_more 4 header.sh_type sh_name c.put_u32-2.ensures in
    let sh_flags = number_more 8 header.sh_flags sh_type c.put_u64.ensures in
    let sh_addr = number_more 8 header.sh_addr sh_flags c.put_u64-2.ensures in
    let sh_offset = number_more 8 header.sh_offset sh_addr c.put_u64-3.ensures in
    let sh_size = number_more 8 header.sh_size sh_offset c.put_u64-4.ensures in
    let sh_link = number_more 4 header.sh_link sh_size c.put_u32-3.ensures in
    let sh_info = number_more 4 header.sh_info sh_link c.put_u32-4.ensures in
    let sh_addralign = number_more 8 header.sh_addralign sh_info c.put_u64-5.ensures in
    let sh_entsize = number_more 8 header.sh_entsize sh_addralign c.put_u64-6.ensures in
    sh_entsize.is
