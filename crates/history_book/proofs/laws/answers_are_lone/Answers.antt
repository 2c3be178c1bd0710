use Rattle.history_book.proofs.Endings.{answer_law}
use Rattle.history_book.proofs.laws.answers_are_lone.Goals as goal

pub returns : goal.returns
returns c = answer_law
