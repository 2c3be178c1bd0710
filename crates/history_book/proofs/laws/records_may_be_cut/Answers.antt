use Rattle.history_book.proofs.Legality.{cut_law}
use Rattle.history_book.proofs.laws.records_may_be_cut.Goals as goal

pub returns : goal.returns
returns c = cut_law
