use Rattle.std.proofs.Common.{ap, sym, subst, ◌∙◌}
use Rattle.omos_base.specs.SymNames.{IsSymName}
use Rattle.bp_tree.specs.Tokens.{Word}
use Rattle.bp_tree.specs.inside.Pending.{pending, placed_first, seen}
use Rattle.bp_tree.proofs.Sights.{word_is, seen_word}
use Rattle.bp_tree.proofs.Singles.{name_early, name_shape, name_read, not_name}
use Rattle.bp_tree.proofs.leaves.name.Goals as goal

pub returns-in-None : goal.returns-in-None
returns-in-None c = name_early (pending c.args.from) c.in-None.ensures

pub returns-in-Ok : goal.returns-in-Ok
returns-in-Ok c =
    let named = c.in-Ok.ensures in
    name_read c.in-Ok.name (pending c.args.from) (placed_first c.in-Some.next)
    (pending c.in-Some.next.after) c.in-Some.ensures
    (ap seen c.in-Word.is ∙ ap Word (sym named.0)) (subst IsSymName (sym named.0) named.1)

pub returns-in-Err-Refused : goal.returns-in-Err-Refused
returns-in-Err-Refused c =
    name_shape (pending c.args.from) (placed_first c.in-Some.next) (pending c.in-Some.next.after)
    c.in-Some.ensures (λ n h is.
    let e = word_is c.in-Some.next.token c.in-Word.word n c.in-Word.is h in
    not_name c.in-Word.word.now c.in-Err-Refused.field-0-0
    (rw c.in-Err-Refused.field-0-is at c.in-Err-Refused.ensures) (subst IsSymName e is))

pub returns-in_default : goal.returns-in_default
returns-in_default c =
    name_shape (pending c.args.from) (placed_first c.in-Some.next) (pending c.in-Some.next.after)
    c.in-Some.ensures (λ n h is. let k = c.in_default in
    seen_word c.in-Some.next.token n h (λ w e _. c.in_default.not-Word w e))
