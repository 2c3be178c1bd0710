use Rattle.std.proofs.Common.{rules}
use Rattle.elf_words.proofs.Back.{rela_back}
use Rattle.elf_words.proofs.rela.RelaRecord.reads_back.Goals as goal

pub returns : goal.returns
returns c =
    rela_back c.args.self.now c.args.rest.now (search rules) (search rules) (search rules)
