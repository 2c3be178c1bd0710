use Rattle.std.proofs.Common.{[], ◌∷◌, sym, ◌∙◌, ◌≡◌, refl, codes, inl, inr}
use Rattle.bp_tree.specs.Tokens.{Close}
use Rattle.bp_tree.specs.inside.Pending.{pending}
use Rattle.bp_tree.specs.inside.Header.{range_syms}
use Rattle.bp_tree.specs.inside.Symbols.{It, AName, AStart, Fails, AreSyms, WhyStops}
use Rattle.bp_tree.proofs.Arms.{fault_onward}
use Rattle.bp_tree.proofs.Sights.{not_true}
use Rattle.bp_tree.proofs.Headers.{one_opening, opens_with}
use Rattle.bp_tree.proofs.Starts.{start_absent, entry_fails, entry_read, none_fails, none_read}
use Rattle.bp_tree.proofs.header.start.Goals as goal

pub returns-in_ok-usual_start-in-None : goal.returns-in_ok-usual_start-in-None
returns-in_ok-usual_start-in-None c =
    let q = c.in_ok-usual_start-in-None in
    start_absent (pending c.args.from) q.field-0 q.ensures
    (λ k after o _. c.in-None.ensures k after o)

pub returns-in_ok-usual_start-in-Some : goal.returns-in_ok-usual_start-in-Some
returns-in_ok-usual_start-in-Some c =
    let q = c.in_ok-usual_start-in-Some in
    let s = c.in-Some in
    start_absent (pending c.args.from) q.field-0 q.ensures (λ k after o is.
    let w : s.word.now ≡ k =
    one_opening (pending c.args.from) (pending s.after) after s.word.now k s.ensures o in
    elim is [
      | inl h ↦ not_true (sym c.if-same.false ∙ c.same.ensures.1 (w ∙ h))
      | inr h ↦ not_true (sym c.if-same-2.false ∙ c.same-else-same.ensures.1 (w ∙ h))
    ])

pub returns-in-Ok : goal.returns-in-Ok
returns-in-Ok c =
    let s = c.in-Some in
    let o = opens_with (pending c.args.from) (pending s.after) s.word.now (codes "entry")
    (c.if-same.ensures.0 refl) s.ensures in
    entry_read (pending c.args.from) (pending s.after) (pending c.in-Ok.after) c.in-Ok.name o
    c.in-Ok.ensures

pub returns-in-Err : goal.returns-in-Err
returns-in-Err c =
    let s = c.in-Some in
    let o = opens_with (pending c.args.from) (pending s.after) s.word.now (codes "entry")
    (c.if-same.ensures.0 refl) s.ensures in
    fault_onward _ c.in-Err.fault _ (Fails (AName ∷ It Close ∷ []) (pending s.after))
    (WhyStops (AreSyms (AStart ∷ range_syms)) (pending c.args.from)) c.in-Err.ensures
    (λ stop f. entry_fails (pending c.args.from) (pending s.after) stop o f)

pub returns-in-Ok-close : goal.returns-in-Ok-close
returns-in-Ok-close c =
    let s = c.in-Some in
    let o = opens_with (pending c.args.from) (pending s.after) s.word.now (codes "no_entry")
    (c.if-same-2.ensures.0 refl) s.ensures in
    none_read (pending c.args.from) (pending s.after) (pending c.in-Ok-close.after) o
    c.in-Ok-close.ensures

pub returns-in-Err-close : goal.returns-in-Err-close
returns-in-Err-close c =
    let s = c.in-Some in
    let o = opens_with (pending c.args.from) (pending s.after) s.word.now (codes "no_entry")
    (c.if-same-2.ensures.0 refl) s.ensures in
    fault_onward _ c.in-Err-close.fault _ (Fails (It Close ∷ []) (pending s.after))
    (WhyStops (AreSyms (AStart ∷ range_syms)) (pending c.args.from)) c.in-Err-close.ensures
    (λ stop f. none_fails (pending c.args.from) (pending s.after) stop o f)
