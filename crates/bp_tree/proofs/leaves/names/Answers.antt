use Rattle.std.proofs.Common.{ap, sym, subst, ◌∙◌}
use Rattle.omos_base.specs.SymNames.{IsSymName}
use Rattle.bp_tree.specs.Tokens.{Word}
use Rattle.bp_tree.specs.inside.Pending.{pending, placed_first, seen}
use Rattle.bp_tree.specs.inside.Symbols.{Names}
use Rattle.bp_tree.proofs.Sights.{word_is, seen_word, seen_close, not_close}
use Rattle.bp_tree.proofs.Singles.{not_name}
use Rattle.bp_tree.proofs.NameLists.{Named, fails_on, names_early, names_shape, names_more}
use Rattle.bp_tree.proofs.NameLists.{names_done}
use Rattle.bp_tree.proofs.leaves.names.Goals as goal

pub returns-in-None : goal.returns-in-None
returns-in-None c =
    fails_on Names (Named c.names.names) (pending c.args.from) (pending c.names.rest) _
    c.names.invariant
    (names_early (pending c.names.rest) c.in-None.ensures)

pub returns-in-Close : goal.returns-in-Close
returns-in-Close c =
    names_done c.names.names (pending c.args.from) (pending c.names.rest)
    (pending c.in-Some.next.after)
    (placed_first c.in-Some.next) c.names.invariant c.in-Some.ensures (ap seen c.in-Close.is)

pub returns-in-Err-Refused : goal.returns-in-Err-Refused
returns-in-Err-Refused c =
    fails_on Names (Named c.names.names) (pending c.args.from) (pending c.names.rest) _
    c.names.invariant
    (names_shape (pending c.names.rest) (placed_first c.in-Some.next) (pending c.in-Some.next.after)
    c.in-Some.ensures
    (not_close c.in-Some.next.token c.in-Word.word c.in-Word.is)
    (λ n h is. not_name c.in-Word.word.now c.in-Err-Refused.field-0-0
    (rw c.in-Err-Refused.field-0-is at c.in-Err-Refused.ensures)
    (subst IsSymName (word_is c.in-Some.next.token c.in-Word.word n c.in-Word.is h) is)))

pub names-preserved : goal.names-preserved
names-preserved c =
    let named = c.in-Ok.ensures in
    names_more c.in-Ok.name c.names.names c.push.new.self (pending c.args.from)
    (pending c.names.rest)
    (pending c.in-Some.next.after) (placed_first c.in-Some.next) c.names.invariant c.in-Some.ensures
    (ap seen c.in-Word.is ∙ ap Word (sym named.0)) (subst IsSymName (sym named.0) named.1)
    c.in_ok-push-in-Ok.ensures.ok

pub returns-in_default : goal.returns-in_default
returns-in_default c =
    fails_on Names (Named c.names.names) (pending c.args.from) (pending c.names.rest) _
    c.names.invariant
    (names_shape (pending c.names.rest) (placed_first c.in-Some.next) (pending c.in-Some.next.after)
    c.in-Some.ensures
    (λ h. seen_close c.in-Some.next.token h c.in_default.not-Close)
    (λ n h is. seen_word c.in-Some.next.token n h (λ w e _. c.in_default.not-Word w e)))
