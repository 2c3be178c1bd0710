-- What the operators of pending nodes and of the blueprints read come to.
use Rattle.std.proofs.Common.{◌≡◌, ◌∙◌, ℕ, ◌+◌, ◌≤◌, Bool, true, false, cond, List, [], ◌∷◌, ◌++◌}
use Rattle.std.proofs.Common.{Some, Result, Ok, Err, ap, arith}
use Rattle.std.specs.Prelude.{OnOk}
use Rattle.std.proofs.lemmas.List.Sums.{sum_by-append, sum_by-cons}
use Rattle.omos_model.specs.Expansion.{Blueprint, source}
use Rattle.omos_model.specs.Names.{Name}
use Rattle.omos_model.specs.NameLists.{is_among}
use Rattle.omos_model.specs.Namespace.{Space}
use Rattle.omos_model.specs.Tree.{Tree}
use Rattle.module_eval.specs.Costs.{operators, operators_in, operators_of, owed, owed_by}
use Rattle.module_eval.specs.declared.pending.Pending.{Pending}

pub owed_more : (all outside : List Pending) (node : Pending) → all ≡ outside ++ node ∷ []
    → owed all ≡ owed outside + owed_by node
owed_more all outside node is =
    let more = sum_by-append owed_by outside (node ∷ []) in
    let one = sum_by-cons owed_by node [] in
    let same = ap owed is in
    omega (arith, more, one, same)

-- ---- paths that are read

sum_more : (ns : Space) (ks : List Name) (p : Name)
    → operators_of ns (ks ++ p ∷ []) ≡ operators_of ns ks + operators_in (source ns p)
sum_more ns ks p =
    let weight : Name → ℕ = λ q. operators_in (source ns q) in
    let more = sum_by-append weight ks (p ∷ []) in
    let one = sum_by-cons weight p [] in
    omega (arith, more, one)

pub read_grows : (ns : Space) (ks old : List Name) (p : Name)
    → ks ≡ cond (is_among old p) old (old ++ p ∷ []) → operators_of ns old ≤ operators_of ns ks
read_grows ns ks old p is = go (is_among old p) (ap (operators_of ns) is)
  where
    go : (b : Bool) → operators_of ns ks ≡ operators_of ns (cond b old (old ++ p ∷ []))
        → operators_of ns old ≤ operators_of ns ks
    go true e = omega (arith, e)
    go false e = let more = sum_more ns old p in omega (arith, e, more)

pub read_fresh : (ns : Space) (ks old : List Name) (p : Name) (x : Tree)
    → ks ≡ cond (is_among old p) old (old ++ p ∷ []) → source ns p ≡ Some (Blueprint x)
    → is_among old p ≡ false → operators_of ns old + operators x ≡ operators_of ns ks
read_fresh ns ks old p x is there out =
    let same = ap (operators_of ns) (is ∙ ap (λ b. cond b old (old ++ p ∷ [])) out) in
    let more = sum_more ns old p in
    let own = ap operators_in there in
    omega (arith, same, more, own)

-- what follows from what a call ensures
pub on_ok : {X E : Type 0} (r : Result X E) (P Q : Type 0) → (P → Q) → OnOk r P → OnOk r Q
on_ok (Ok x) P Q f h = f h
on_ok (Err e) P Q f h = tt

pub on_ok_both : {X E : Type 0} (r : Result X E) (P Q R : Type 0) → (P → Q → R) → OnOk r P
    → OnOk r Q
    → OnOk r R
on_ok_both (Ok x) P Q R f h k = f h k
on_ok_both (Err e) P Q R f h k = tt

pub ok_all : {X E : Type 0} (r : Result X E) (P : Type 0) → P → OnOk r P
ok_all (Ok x) P h = h
ok_all (Err e) P h = tt
