use Rattle.std.proofs.Common.{[], ◌∷◌, ◌++◌, ◌≡◌, ap, map, All, codes, arith}
use Rattle.omos_base.specs.SymNames.{IsSymName}
use Rattle.bp_tree.specs.Tokens.{Open, Close, Word}
use Rattle.bp_tree.specs.inside.Pending.{pending}
use Rattle.bp_tree.specs.inside.Symbols.{It, Names, AName, IsOperator}
use Rattle.bp_tree.specs.declared.form.Applied.TheVariants as kind
use Rattle.bp_tree.specs.declared.operator.Operator.TheVariants as operator
use Rattle.bp_tree.proofs.Arms.{revalued}
use Rattle.bp_tree.proofs.nodes.operator.Goals as goal

pub returns-in_ok-old-in-Rename : goal.returns-in_ok-old-in-Rename
returns-in_ok-old-in-Rename c =
    let k = c.in_ok-old-in-Rename in
    rw c.in-Rename.is
    (revalued (AName ∷ AName ∷ []) (λ ws. (ws ≡ Word k.old ∷ Word k.new ∷ []) × IsSymName k.old
    × IsSymName k.new)
    (IsOperator kind.Rename (operator.Rename k.old k.new)) (pending c.args.from) (pending k.after)
    (λ ws v. (ap (λ us. Word (codes "rename") ∷ us) v.0, (v.1, v.2), omega arith)) k.ensures)

pub returns-in_ok-name-in-Restrict : goal.returns-in_ok-name-in-Restrict
returns-in_ok-name-in-Restrict c =
    let k = c.in_ok-name-in-Restrict in
    rw c.in-Restrict.is (revalued (AName ∷ []) (λ ws. (ws ≡ Word k.name ∷ []) × IsSymName k.name)
    (IsOperator kind.Restrict (operator.Restrict k.name)) (pending c.args.from) (pending k.after)
    (λ ws v. (ap (λ us. Word (codes "restrict") ∷ us) v.0, v.1, omega arith)) k.ensures)

pub returns-in_ok-name-in-Freeze : goal.returns-in_ok-name-in-Freeze
returns-in_ok-name-in-Freeze c =
    let k = c.in_ok-name-in-Freeze in
    rw c.in-Freeze.is (revalued (AName ∷ []) (λ ws. (ws ≡ Word k.name ∷ []) × IsSymName k.name)
    (IsOperator kind.Freeze (operator.Freeze k.name)) (pending c.args.from) (pending k.after)
    (λ ws v. (ap (λ us. Word (codes "freeze") ∷ us) v.0, v.1, omega arith)) k.ensures)

pub returns-in_ok-name-in-Hide : goal.returns-in_ok-name-in-Hide
returns-in_ok-name-in-Hide c =
    let k = c.in_ok-name-in-Hide in
    rw c.in-Hide.is (revalued (AName ∷ []) (λ ws. (ws ≡ Word k.name ∷ []) × IsSymName k.name)
    (IsOperator kind.Hide (operator.Hide k.name)) (pending c.args.from) (pending k.after)
    (λ ws v. (ap (λ us. Word (codes "hide") ∷ us) v.0, v.1, omega arith)) k.ensures)

pub returns-in_ok-names-in-Show : goal.returns-in_ok-names-in-Show
returns-in_ok-names-in-Show c =
    let k = c.in_ok-names-in-Show in
    rw c.in-Show.is
    (revalued (It Open ∷ Names ∷ []) (λ ws. (ws ≡ Open ∷ (map Word k.names ++ Close ∷ []))
    × All IsSymName k.names)
    (IsOperator kind.Show (operator.Show k.names)) (pending c.args.from) (pending k.after)
    (λ ws v. (ap (λ us. Word (codes "show") ∷ us) v.0, v.1, omega arith)) k.ensures)

pub returns-in_ok-old-in-CopyAs : goal.returns-in_ok-old-in-CopyAs
returns-in_ok-old-in-CopyAs c =
    let k = c.in_ok-old-in-CopyAs in
    rw c.in-CopyAs.is
    (revalued (AName ∷ AName ∷ []) (λ ws. (ws ≡ Word k.old ∷ Word k.new ∷ []) × IsSymName k.old
    × IsSymName k.new)
    (IsOperator kind.CopyAs (operator.CopyAs k.old k.new)) (pending c.args.from) (pending k.after)
    (λ ws v. (ap (λ us. Word (codes "copy_as") ∷ us) v.0, (v.1, v.2), omega arith)) k.ensures)
