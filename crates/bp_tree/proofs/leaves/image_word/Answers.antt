use Rattle.std.proofs.Common.{ap, codes, ◌∙◌, sym, refl}
use Rattle.bp_tree.specs.Tokens.{Word}
use Rattle.bp_tree.specs.inside.Pending.{pending, placed_first, seen}
use Rattle.bp_tree.proofs.Sights.{seen_word, word_is, not_true}
use Rattle.bp_tree.proofs.Singles.{it_early, it_shape, it_read, image_uncalled}
use Rattle.bp_tree.proofs.leaves.image_word.Goals as goal

pub returns-in-None : goal.returns-in-None
returns-in-None c = it_early (Word (codes "image")) (pending c.args.from) c.in-None.ensures

pub returns-then-same : goal.returns-then-same
returns-then-same c =
    it_read (Word (codes "image")) (pending c.args.from) (placed_first c.in-Some.next)
    (pending c.in-Some.next.after) c.in-Some.ensures
    (ap seen c.in-Word.is ∙ ap Word (c.if-same.ensures.0 refl))

pub returns-else-same : goal.returns-else-same
returns-else-same c =
    it_shape (Word (codes "image")) (pending c.args.from) (placed_first c.in-Some.next)
    (pending c.in-Some.next.after) c.in-Some.ensures
    (λ h. not_true
    (c.if-same.ensures.1
    (sym (word_is c.in-Some.next.token c.in-Word.word (codes "image") c.in-Word.is h))))
    image_uncalled

pub returns-in_default : goal.returns-in_default
returns-in_default c =
    it_shape (Word (codes "image")) (pending c.args.from) (placed_first c.in-Some.next)
    (pending c.in-Some.next.after) c.in-Some.ensures
    (λ h. seen_word c.in-Some.next.token (codes "image") h (λ w e _. c.in_default.not-Word w e))
    image_uncalled
