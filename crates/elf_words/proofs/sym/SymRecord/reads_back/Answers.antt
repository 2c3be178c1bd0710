use Rattle.std.proofs.Common.{rules}
use Rattle.elf_words.proofs.Back.{sym_back}
use Rattle.elf_words.proofs.sym.SymRecord.reads_back.Goals as goal

pub returns : goal.returns
returns c =
    sym_back c.args.self.now c.args.rest.now (search rules) (search rules) (search rules)
    (search rules)
