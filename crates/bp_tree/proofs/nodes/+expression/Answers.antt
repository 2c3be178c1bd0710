use Rattle.std.proofs.Common.{[], ◌∷◌, ◌++◌, ◌≡◌, ◌≤◌, ◌-◌, suc, ap, sym, subst, ◌∙◌, codes, arith}
use Rattle.omos_base.specs.Paths.{IsPath}
use Rattle.bp_tree.specs.Tokens.{Close, Word}
use Rattle.bp_tree.specs.inside.Pending.{pending, placed_first, seen}
use Rattle.bp_tree.specs.inside.Symbols.{It, AnExpr, Exprs, Fails, arguments, keyword, kind_nesting}
use Rattle.bp_tree.specs.inside.Symbols.{form_nesting}
use Rattle.bp_tree.specs.declared.form.Form.TheVariants as form
use Rattle.bp_tree.proofs.Arms.{err_arm, fault_onward, onward}
use Rattle.bp_tree.proofs.Sights.{seen_open, seen_close, seen_word, word_is, not_open, not_close}
use Rattle.bp_tree.proofs.Sequences.{fails_first, then_fails}
use Rattle.bp_tree.proofs.Solids.{solid_it, solid_exprs, solid_end, solid_more}
use Rattle.bp_tree.proofs.Expressions.{expr_early, expr_shape, expr_deep, path_read, opened_read}
use Rattle.bp_tree.proofs.Expressions.{opened_fails}
use Rattle.bp_tree.proofs.Keywords.{inside_early, inside_shape, form_read, form_fails, same_form}
use Rattle.bp_tree.proofs.Operands.{operands_early, operand_fails, operand_more, operands_done}
use Rattle.bp_tree.proofs.Operands.{path_more, word_fails}
use Rattle.bp_tree.proofs.Forms.{applied_done, overridden_done, merged_done, shorter, no_path}
use Rattle.bp_tree.proofs.nodes.+expression.Goals as goal

-- ---- applied

pub applied-returns-in_err-operator : goal.applied-returns-in_err-operator
applied-returns-in_err-operator t c =
    let k = arguments c.args.kind in
    let last = AnExpr c.args.room ∷ It Close ∷ [] in
    err_arm c.from_residual.result c.in_err-operator.field-0.0 _ _ (Fails k (pending c.args.from))
    (Fails (k ++ last) (pending c.args.from))
    c.from_residual.ensures.0 c.from_residual.ensures.1 c.in_err-operator.ensures
    (λ stop f. fails_first k last (pending c.args.from) stop (solid_end c.args.room) f)

pub applied-returns-in_err-operand : goal.applied-returns-in_err-operand
applied-returns-in_err-operand t c =
    let k = arguments c.args.kind in
    let last = AnExpr c.args.room ∷ It Close ∷ [] in
    let r = c.from_residual-in_err-operand in
    err_arm r.result c.in_err-operand.field-0.0 _ _
    (Fails (AnExpr c.args.room ∷ []) (pending c.in_ok-operator.after))
    (Fails (k ++ last) (pending c.args.from))
    r.ensures.0 r.ensures.1 c.in_err-operand.ensures
    (λ stop f. then_fails k last _ (pending c.args.from) (pending c.in_ok-operator.after) stop
    c.in_ok-operator.ensures
    (fails_first (AnExpr c.args.room ∷ []) (It Close ∷ []) (pending c.in_ok-operator.after) stop
    (solid_it Close) f))

pub applied-returns-in_err-after : goal.applied-returns-in_err-after
applied-returns-in_err-after t c =
    let k = arguments c.args.kind in
    let last = AnExpr c.args.room ∷ It Close ∷ [] in
    let r = c.from_residual-in_err-after in
    err_arm r.result c.in_err-after.field-0.0 _ _
    (Fails (It Close ∷ []) (pending c.in_ok-operand.after))
    (Fails (k ++ last) (pending c.args.from))
    r.ensures.0 r.ensures.1 c.in_err-after.ensures
    (λ stop f. then_fails k last _ (pending c.args.from) (pending c.in_ok-operator.after) stop
    c.in_ok-operator.ensures
    (then_fails (AnExpr c.args.room ∷ []) (It Close ∷ []) _ (pending c.in_ok-operator.after)
    (pending c.in_ok-operand.after) stop c.in_ok-operand.ensures f))

pub applied-returns : goal.applied-returns
applied-returns t c =
    applied_done c.args.room c.args.kind c.in_ok-operator.operator c.in_ok-operand.operand
    c.in_ok-apply.field-0
    (pending c.args.from) (pending c.in_ok-operator.after) (pending c.in_ok-operand.after)
    (pending c.in_ok-after.after)
    c.requires c.in_ok-operator.ensures c.in_ok-operand.ensures c.in_ok-after.ensures
    c.in_ok-apply.ensures

-- ---- overridden

pub overridden-returns-in_err-left : goal.overridden-returns-in_err-left
overridden-returns-in_err-left t c =
    let one = AnExpr c.args.room ∷ [] in
    let last = AnExpr c.args.room ∷ It Close ∷ [] in
    err_arm c.from_residual.result c.in_err-left.field-0.0 _ _ (Fails one (pending c.args.from))
    (Fails (one ++ last) (pending c.args.from))
    c.from_residual.ensures.0 c.from_residual.ensures.1 c.in_err-left.ensures
    (λ stop f. fails_first one last (pending c.args.from) stop (solid_end c.args.room) f)

pub overridden-returns-in_err-right : goal.overridden-returns-in_err-right
overridden-returns-in_err-right t c =
    let one = AnExpr c.args.room ∷ [] in
    let last = AnExpr c.args.room ∷ It Close ∷ [] in
    let r = c.from_residual-in_err-right in
    err_arm r.result c.in_err-right.field-0.0 _ _ (Fails one (pending c.in_ok-left.after))
    (Fails (one ++ last) (pending c.args.from))
    r.ensures.0 r.ensures.1 c.in_err-right.ensures
    (λ stop f. then_fails one last _ (pending c.args.from) (pending c.in_ok-left.after) stop
    c.in_ok-left.ensures
    (fails_first one (It Close ∷ []) (pending c.in_ok-left.after) stop (solid_it Close) f))

pub overridden-returns-in_err-after : goal.overridden-returns-in_err-after
overridden-returns-in_err-after t c =
    let one = AnExpr c.args.room ∷ [] in
    let last = AnExpr c.args.room ∷ It Close ∷ [] in
    let r = c.from_residual-in_err-after in
    err_arm r.result c.in_err-after.field-0.0 _ _
    (Fails (It Close ∷ []) (pending c.in_ok-right.after))
    (Fails (one ++ last) (pending c.args.from))
    r.ensures.0 r.ensures.1 c.in_err-after.ensures
    (λ stop f. then_fails one last _ (pending c.args.from) (pending c.in_ok-left.after) stop
    c.in_ok-left.ensures
    (then_fails one (It Close ∷ []) _ (pending c.in_ok-left.after) (pending c.in_ok-right.after)
    stop c.in_ok-right.ensures f))

pub overridden-returns : goal.overridden-returns
overridden-returns t c =
    overridden_done c.args.room c.in_ok-left.left c.in_ok-right.right c.in_ok-first.first
    c.in_ok-second.second
    (pending c.args.from) (pending c.in_ok-left.after) (pending c.in_ok-right.after)
    (pending c.in_ok-after.after)
    c.in_ok-left.ensures c.in_ok-right.ensures c.in_ok-after.ensures c.in_ok-first.ensures
    c.in_ok-second.ensures

-- ---- merged

pub merged-returns-in_err-one : goal.merged-returns-in_err-one
merged-returns-in_err-one t c =
    let one = AnExpr c.args.room ∷ [] in
    let last = AnExpr c.args.room ∷ Exprs c.args.room ∷ [] in
    err_arm c.from_residual.result c.in_err-one.field-0.0 _ _ (Fails one (pending c.args.from))
    (Fails (one ++ last) (pending c.args.from))
    c.from_residual.ensures.0 c.from_residual.ensures.1 c.in_err-one.ensures
    (λ stop f. fails_first one last (pending c.args.from) stop (solid_more c.args.room) f)

pub merged-returns-in_err-two : goal.merged-returns-in_err-two
merged-returns-in_err-two t c =
    let one = AnExpr c.args.room ∷ [] in
    let last = AnExpr c.args.room ∷ Exprs c.args.room ∷ [] in
    let r = c.from_residual-in_err-two in
    err_arm r.result c.in_err-two.field-0.0 _ _ (Fails one (pending c.in_ok-one.one))
    (Fails (one ++ last) (pending c.args.from))
    r.ensures.0 r.ensures.1 c.in_err-two.ensures
    (λ stop f. then_fails one last _ (pending c.args.from) (pending c.in_ok-one.one) stop
    c.in_ok-one.ensures.2
    (fails_first one (Exprs c.args.room ∷ []) (pending c.in_ok-one.one) stop
    (solid_exprs c.args.room) f))

pub merged-returns-in_err-all : goal.merged-returns-in_err-all
merged-returns-in_err-all t c =
    let one = AnExpr c.args.room ∷ [] in
    let last = AnExpr c.args.room ∷ Exprs c.args.room ∷ [] in
    let r = c.from_residual-in_err-all in
    err_arm r.result c.in_err-all.field-0.0 _ _
    (Fails (Exprs c.args.room ∷ []) (pending c.in_ok-two.two))
    (Fails (one ++ last) (pending c.args.from))
    r.ensures.0 r.ensures.1 c.in_err-all.ensures
    (λ stop f. then_fails one last _ (pending c.args.from) (pending c.in_ok-one.one) stop
    c.in_ok-one.ensures.2
    (then_fails one (Exprs c.args.room ∷ []) _ (pending c.in_ok-one.one) (pending c.in_ok-two.two)
    stop c.in_ok-two.ensures.2 f))

pub merged-returns : goal.merged-returns
merged-returns t c =
    let x = c.in_ok-one.ensures in
    let y = c.in_ok-two.ensures in
    merged_done c.args.room x.0 y.0 c.push_one-2.new.operands c.in_ok-all.all
    (pending c.args.from) (pending c.in_ok-one.one) (pending c.in_ok-two.two)
    (pending c.in_ok-all.after)
    x.2 y.2 c.in_ok-all.ensures
    (y.1 ∙ ap (λ l. l ++ y.0 ∷ []) (x.1 ∙ ap (λ l. l ++ x.0 ∷ []) c.new-given.ensures))

-- ---- one more operand

pub push_one-returns-in-None : goal.push_one-returns-in-None
push_one-returns-in-None t c = expr_early c.args.room (pending c.args.from) c.in-None.ensures

pub push_one-returns-in-Ok : goal.push_one-returns-in-Ok
push_one-returns-in-Ok t c =
    let n = c.in-Some.next in
    path_more c.args.room c.args.operands.now c.push_path.new.operands c.in-Word.word.now
    (pending c.args.from) (placed_first n)
    (pending n.after) c.in-Some.ensures (ap seen c.in-Word.is) c.in-Ok.ensures.0 c.in-Ok.ensures.1

pub push_one-returns-in-Err-Refused : goal.push_one-returns-in-Err-Refused
push_one-returns-in-Err-Refused t c =
    let n = c.in-Some.next in
    word_fails c.args.room c.in-Word.word.now (pending c.args.from) (placed_first n)
    (pending n.after)
    c.in-Some.ensures (ap seen c.in-Word.is)
    (rw c.in-Err-Refused.field-0-is at c.in-Err-Refused.ensures)

-- ---- operands

pub operands-returns-in-None : goal.operands-returns-in-None
operands-returns-in-None t c =
    operands_early c.args.room c.args.given c.operands.operands (pending c.args.from)
    (pending c.operands.rest)
    c.operands.invariant c.in-None.ensures

pub operands-returns-in-Close : goal.operands-returns-in-Close
operands-returns-in-Close t c =
    operands_done c.args.room c.args.given c.operands.operands (pending c.args.from)
    (pending c.operands.rest)
    (pending c.in-Some.next.after) (placed_first c.in-Some.next) c.operands.invariant
    c.in-Some.ensures (ap seen c.in-Close.is)

pub operands-returns-in-Err-Refused : goal.operands-returns-in-Err-Refused
operands-returns-in-Err-Refused t c =
    let n = c.in-Some.next in
    operand_fails c.args.room c.args.given c.operands.operands (pending c.args.from)
    (pending c.operands.rest)
    (placed_first n) (pending n.after) _ c.operands.invariant c.in-Some.ensures
    (not_close n.token c.in-Word.word c.in-Word.is)
    (word_fails c.args.room c.in-Word.word.now (pending c.operands.rest) (placed_first n)
    (pending n.after)
    c.in-Some.ensures (ap seen c.in-Word.is)
    (rw c.in-Err-Refused.field-0-is at c.in-Err-Refused.ensures))

pub operands-returns-in-Err : goal.operands-returns-in-Err
operands-returns-in-Err t c =
    fault_onward _ c.in-Err.fault _ _ (Fails (Exprs c.args.room ∷ []) (pending c.args.from))
    c.in-Err.ensures
    (λ stop f. operand_fails c.args.room c.args.given c.operands.operands (pending c.args.from)
    (pending c.operands.rest)
    (placed_first c.in-Some.next) (pending c.in-Some.next.after) stop c.operands.invariant
    c.in-Some.ensures
    (λ h. seen_close c.in-Some.next.token h c.in_default.not-Close) f)

pub operands-operands-preserved-in-Ok : goal.operands-operands-preserved-in-Ok
operands-operands-preserved-in-Ok t c =
    let n = c.in-Some.next in
    let x = path_more c.args.room c.operands.operands c.push_path.new.operands c.in-Word.word.now
    (pending c.operands.rest) (placed_first n)
    (pending n.after) c.in-Some.ensures (ap seen c.in-Word.is) c.in-Ok.ensures.0
    c.in-Ok.ensures.1 in
    operand_more c.args.room c.args.given c.operands.operands c.push_path.new.operands x.0
    (pending c.args.from) (pending c.operands.rest)
    (placed_first n) (pending n.after) (pending n.after) c.operands.invariant c.in-Some.ensures
    (not_close n.token c.in-Word.word c.in-Word.is) x.2 x.1

pub operands-operands-preserved : goal.operands-operands-preserved
operands-operands-preserved t c =
    let x = c.in-Ok-push_expr.ensures in
    operand_more c.args.room c.args.given c.operands.operands c.push_expr.new.operands x.0
    (pending c.args.from) (pending c.operands.rest)
    (placed_first c.in-Some.next) (pending c.in-Some.next.after) (pending c.in-Ok-push_expr.after)
    c.operands.invariant c.in-Some.ensures
    (λ h. seen_close c.in-Some.next.token h c.in_default.not-Close) x.2 x.1

pub operands-operands-smaller : goal.operands-operands-smaller
operands-operands-smaller t c =
    let x = c.in-Ok-push_expr.ensures in
    shorter c.args.room x.0 (pending c.operands.rest) (pending c.in-Ok-push_expr.after) x.2

-- ---- inside

pub inside-returns-in-None : goal.inside-returns-in-None
inside-returns-in-None t c = inside_early c.args.room (pending c.args.from) c.in-None.ensures

pub inside-returns-in_default : goal.inside-returns-in_default
inside-returns-in_default t c =
    inside_shape c.args.room (pending c.args.from) (placed_first c.in-Some.next)
    (pending c.in-Some.next.after) c.in-Some.ensures
    (λ f h _. seen_word c.in-Some.next.token (keyword f) h (λ w e _. c.in_default.not-Word w e))

pub inside-returns-in-None-named : goal.inside-returns-in-None-named
inside-returns-in-None-named t c =
    inside_shape c.args.room (pending c.args.from) (placed_first c.in-Some.next)
    (pending c.in-Some.next.after) c.in-Some.ensures
    (λ f h _. c.in-None-named.ensures f
    (sym (word_is c.in-Some.next.token c.in-Word.word (keyword f) c.in-Word.is h)))

pub inside-returns-in-Some-Merge : goal.inside-returns-in-Some-Merge
inside-returns-in-Some-Merge t c =
    let n = c.in-Some.next in
    let is : seen n.token ≡ Word (codes "merge") =
    ap seen c.in-Word.is
    ∙ ap Word (c.in-Some-Merge.ensures ∙ ap keyword c.in-Some-Merge.field-0-is) in
    onward c.merged.result _ _ _ _ c.merged.ensures
    (λ v h. form_read c.args.room form.Merge v.0 (pending c.args.from) (placed_first n)
    (pending n.after) (pending v.1)
    c.in-Some.ensures is (omega arith) h)
    (λ stop f. form_fails c.args.room form.Merge (pending c.args.from) (placed_first n)
    (pending n.after) stop
    c.in-Some.ensures is (omega arith) f)

pub inside-returns-in-Some-Override : goal.inside-returns-in-Some-Override
inside-returns-in-Some-Override t c =
    let n = c.in-Some.next in
    let is : seen n.token ≡ Word (codes "override") =
    ap seen c.in-Word.is
    ∙ ap Word (c.in-Some-Override.ensures ∙ ap keyword c.in-Some-Override.field-0-is) in
    onward c.overridden.result _ _ _ _ c.overridden.ensures
    (λ v h. form_read c.args.room form.Override v.0 (pending c.args.from) (placed_first n)
    (pending n.after) (pending v.1)
    c.in-Some.ensures is (omega arith) h)
    (λ stop f. form_fails c.args.room form.Override (pending c.args.from) (placed_first n)
    (pending n.after) stop
    c.in-Some.ensures is (omega arith) f)

pub inside-returns-then-nesting-room : goal.inside-returns-then-nesting-room
inside-returns-then-nesting-room t c =
    let n = c.in-Some.next in
    let k = c.in-Some-Apply.kind in
    let is : seen n.token ≡ Word (keyword (form.Apply k)) =
    ap seen c.in-Word.is
    ∙ ap Word (c.in-Some-Apply.ensures ∙ ap keyword c.in-Some-Apply.field-0-is) in
    let fits : kind_nesting k ≤ c.args.room =
    omega (arith, c.nesting.ensures, c.if-nesting-room.true) in
    onward c.applied.result _ _ _ _ c.applied.ensures
    (λ v h. form_read c.args.room (form.Apply k) v.0 (pending c.args.from) (placed_first n)
    (pending n.after) (pending v.1)
    c.in-Some.ensures is fits h)
    (λ stop f. form_fails c.args.room (form.Apply k) (pending c.args.from) (placed_first n)
    (pending n.after) stop
    c.in-Some.ensures is fits f)

pub inside-returns-else-nesting-room : goal.inside-returns-else-nesting-room
inside-returns-else-nesting-room t c =
    let n = c.in-Some.next in
    let k = c.in-Some-Apply.kind in
    inside_shape c.args.room (pending c.args.from) (placed_first n) (pending n.after)
    c.in-Some.ensures
    (λ f h nest.
    let same : f ≡ form.Apply k =
    same_form f (form.Apply k) (word_is n.token c.in-Word.word (keyword f) c.in-Word.is h
    ∙ c.in-Some-Apply.ensures ∙ ap keyword c.in-Some-Apply.field-0-is) in
    omega (arith, nest, ap form_nesting same, c.nesting.ensures, c.if-nesting-room.false))

-- ---- expr

pub expr-returns-in-None : goal.expr-returns-in-None
expr-returns-in-None t c = expr_early c.args.room (pending c.args.from) c.in-None.ensures

pub expr-returns-in-Ok : goal.expr-returns-in-Ok
expr-returns-in-Ok t c =
    path_read c.args.room c.in-Ok.path (pending c.args.from) (placed_first c.in-Some.next)
    (pending c.in-Some.next.after) c.in-Some.ensures
    (ap seen c.in-Word.is ∙ ap Word (sym c.in-Ok.ensures.0))
    (subst IsPath (sym c.in-Ok.ensures.0) c.in-Ok.ensures.1)

pub expr-returns-in-Err : goal.expr-returns-in-Err
expr-returns-in-Err t c =
    expr_shape c.args.room (pending c.args.from) (placed_first c.in-Some.next)
    (pending c.in-Some.next.after) c.in-Some.ensures
    (λ p h is. no_path c.in-Word.word.now c.in-Err.field-0 c.in-Err.ensures
    (subst IsPath (word_is c.in-Some.next.token c.in-Word.word p c.in-Word.is h) is))
    (not_open c.in-Some.next.token c.in-Word.word c.in-Word.is)

pub expr-returns-in_default : goal.expr-returns-in_default
expr-returns-in_default t c =
    expr_shape c.args.room (pending c.args.from) (placed_first c.in-Some.next)
    (pending c.in-Some.next.after) c.in-Some.ensures
    (λ p h _. seen_word c.in-Some.next.token p h (λ w e _. c.in_default.not-Word w e))
    (λ h. seen_open c.in-Some.next.token h c.in_default.not-Open)

pub expr-returns-then-room-eq0 : goal.expr-returns-then-room-eq0
expr-returns-then-room-eq0 t c =
    expr_deep c.args.room (pending c.args.from) (placed_first c.in-Some.next)
    (pending c.in-Some.next.after) c.in-Some.ensures
    (ap seen c.in-Open.is) c.if-room-eq0.true

pub expr-returns-else-room-eq0 : goal.expr-returns-else-room-eq0
expr-returns-else-room-eq0 t c =
    let r = c.args.room - 1 in
    let n : c.args.room ≡ suc r = omega (arith, c.if-room-eq0.false) in
    onward c.inside.result _ _ _ _ c.inside.ensures
    (λ v h. opened_read c.args.room r v.0 (pending c.args.from) (placed_first c.in-Some.next)
    (pending c.in-Some.next.after) (pending v.1)
    c.in-Some.ensures (ap seen c.in-Open.is) n h)
    (λ stop f. opened_fails c.args.room r (pending c.args.from) (placed_first c.in-Some.next)
    (pending c.in-Some.next.after) stop
    c.in-Some.ensures (ap seen c.in-Open.is) n f)
