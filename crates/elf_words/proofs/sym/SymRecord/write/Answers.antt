use Rattle.std.proofs.Common.{ℕ, List, [], refl, ◌∷◌}
use Rattle.elf_words.specs.Sym.{sym_bytes}
use Rattle.elf_words.proofs.Written.{unwritten, written_more, number_more}
use Rattle.elf_words.proofs.sym.SymRecord.write.Goals as goal

pub returns : goal.returns
unfolding sym_bytes
returns c =
    let symbol = c.args.self.now in
    let start = unwritten c.args.into.now in
    let st_name = number_more 4 symbol.st_name start c.put_u32.ensures in
    let pair : List ℕ = symbol.st_info ∷ symbol.st_other ∷ [] in
    let st_info = written_more 2 pair _ st_name refl c.put_bytes.ensures in
    let st_shndx = number_more 2 symbol.st_shndx st_info c.put_u16.ensures in
    let st_value = number_more 8 symbol.st_value st_shndx c.put_u64.ensures in
    let st_size = number_more 8 symbol.st_size st_value c.put_u64-2.ensures in
    st_size.is
