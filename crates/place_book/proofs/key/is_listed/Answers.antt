use Rattle.place_book.specs.Keys.{key_of}
use Rattle.place_book.proofs.Keys.{listed}
use Rattle.place_book.proofs.key.is_listed.Goals as goal

pub returns : goal.returns
returns c =
    listed c.args.keys.now (key_of c.args.path.now) c.next_of.result
    (rw c.key_of-key.ensures at c.next_of.ensures.value)
