use Rattle.std.proofs.Common.{◌≡◌, ap, ◌∙◌, rules, SFits}
use Rattle.std.proofs.lemmas.Int.{to_z-of_z}
use Rattle.std.specs.Int.{w64, cast_unsigned}
use Rattle.elf_words.specs.Rela.{rela_bytes}
use Rattle.elf_words.proofs.Written.{unwritten, number_more}
use Rattle.elf_words.proofs.rela.RelaRecord.write.Goals as goal

pub returns : goal.returns
unfolding rela_bytes
returns c =
    let relocation = c.args.self.now in
    let start = unwritten c.args.into.now in
    let fits : SFits w64 relocation.r_addend = search rules in
    let same : c.cast_unsigned.result ≡ cast_unsigned w64 relocation.r_addend =
    c.cast_unsigned.ensures ∙ ap (cast_unsigned w64) (to_z-of_z w64 relocation.r_addend fits) in
    let r_offset = number_more 8 relocation.r_offset start c.put_u64.ensures in
    let r_info = number_more 8 relocation.r_info r_offset c.put_u64-2.ensures in
    let last = rw same at c.put_u64-3.ensures in
    let r_addend = number_more 8 (cast_unsigned w64 relocation.r_addend) r_info last in
    r_addend.is
