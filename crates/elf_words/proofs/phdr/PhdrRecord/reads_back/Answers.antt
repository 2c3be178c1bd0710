use Rattle.std.proofs.Common.{rules}
use Rattle.elf_words.proofs.Back.{phdr_back}
use Rattle.elf_words.proofs.phdr.PhdrRecord.reads_back.Goals as goal

pub returns : goal.returns
returns c =
    phdr_back c.args.self.now c.args.rest.now (search rules) (search rules) (search rules)
    (search rules) (search rules) (search rules) (search rules) (search rules)
