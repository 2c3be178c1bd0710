-- The canonical text of an expression is one.
use Rattle.std.proofs.Common.{◌≡◌, ◌≤◌, ℕ, zero, suc, ◌+◌, true, nat_le, max}
use Rattle.std.proofs.Common.{fold, List, [], ◌∷◌, ◌++◌, map, refl, sym, ap, subst, ◌∙◌}
use Rattle.std.proofs.Common.{codes, append_assoc, arith, length, All}
use Rattle.std.specs.List.{list_all, flat_map}
use Rattle.std.proofs.lemmas.Bool.{and_parts}
use Rattle.std.proofs.lemmas.List.Elements.{All-nil, All-cons, All-head, All-tail}
use Rattle.omos_base.specs.SymNames.{IsSymName}
use Rattle.omos_base.specs.Paths.{IsPath}
use Rattle.omos_model.specs.ImageParts.{formed_layer, is_formed, nesting_layer, nesting}
use Rattle.omos_model.specs.Names.{Name}
use Rattle.omos_model.specs.Op.{Op, Rename, Restrict, Freeze, Hide, Show, CopyAs}
use Rattle.omos_model.specs.declared.expr.Expr.{Expr}
use Rattle.omos_model.specs.declared.expr.Expr.TheOpen.{Expr-F}
use Rattle.omos_model.specs.declared.expr.Expr.TheViews.{roll-Expr}
use Rattle.omos_model.specs.declared.expr.Expr.TheVariants as expr
use Rattle.omos_model.specs.declared.expr.Expr.TheFolds.{ind-Expr}
use Rattle.bp_tree.specs.Tokens.{Token, Open, Close, Word}
use Rattle.bp_tree.specs.Grammar.{IsExpr, Merges, Overrides, Applies, AreExprs, op_words, IsOp}
use Rattle.bp_tree.specs.Grammar.{op_nesting, applied}
use Rattle.bp_tree.specs.Canonical.{expr_text, text_layer, each_spaced, spaced}
use Rattle.bp_tree.specs.Named.{names_layer, names_in, paths_layer, paths_in}
use Rattle.bp_tree.proofs.Lawful.{op_deep, op_formed, op_paths, formed_count}
use Rattle.bp_tree.proofs.Layers.{op_layer, rolls, fold_path, fold_merge, fold_override}
use Rattle.bp_tree.proofs.Layers.{fold_applied}
use Rattle.bp_tree.proofs.Samples.{path_is_expr, opened_is_expr}
use Rattle.bp_tree.proofs.Spelled.{Spells, IsWordly, AreApart, spells_open, spells_close}
use Rattle.bp_tree.proofs.Spelled.{spells_nothing, spells_blank, spells_word, spells_named}
use Rattle.bp_tree.proofs.Spelled.{spells_joined, spells_as, spells_closed, spells_key}
use Rattle.bp_tree.proofs.Spelled.{spells_argument, spells_listed, each_apart, name_wordly}
use Rattle.bp_tree.proofs.Spelled.{path_wordly}

-- ---- forms of expressions

data IsForm (x : Expr) : Type 0 where
  ByPath : (p : Name) → x ≡ expr.Path p → IsForm x
  ByMerge : (xs : List Expr) → x ≡ expr.Merge xs → IsForm x
  ByOverride : (l r : Expr) → x ≡ expr.Override l r → IsForm x
  ByOp : (op : Op) (y : Expr) → x ≡ applied op y → IsForm x

layer_form : (l : Expr-F Expr) → IsForm (roll-Expr l)
layer_form (Expr-F.Path p) = ByPath p (expr.rolls-Path p)
layer_form (Expr-F.Merge xs) = ByMerge xs (expr.rolls-Merge xs)
layer_form (Expr-F.Override l r) = ByOverride l r (expr.rolls-Override l r)
layer_form (Expr-F.Rename a b x) = ByOp (Rename a b) x (rolls (Rename a b) x)
layer_form (Expr-F.Restrict a x) = ByOp (Restrict a) x (rolls (Restrict a) x)
layer_form (Expr-F.Freeze a x) = ByOp (Freeze a) x (rolls (Freeze a) x)
layer_form (Expr-F.Hide a x) = ByOp (Hide a) x (rolls (Hide a) x)
layer_form (Expr-F.Show names x) = ByOp (Show names) x (rolls (Show names) x)
layer_form (Expr-F.CopyAs a b x) = ByOp (CopyAs a b) x (rolls (CopyAs a b) x)

form_of : (x : Expr) → IsForm x
form_of = ind-Expr IsForm (λ x y is. layer_form x)

-- ---- operators

one_spelled : (k a t : List ℕ) (ws : List Token) → IsWordly k → IsSymName a → Spells t ws
    → Spells (40 ∷ (k ++ 32 ∷ []) ++ a ++ 32 ∷ [] ++ t ++ 41 ∷ [])
    (Open ∷ Word k ∷ Word a ∷ (ws ++ Close ∷ []))
one_spelled k a t ws key is h =
    spells_as (40 ∷ (k ++ 32 ∷ []) ++ a ++ 32 ∷ [] ++ t ++ 41 ∷ [])
    (40 ∷ (k ++ 32 ∷ (a ++ 32 ∷ (t ++ 41 ∷ []))))
    (Open ∷ Word k ∷ Word a ∷ (ws ++ Close ∷ []))
    (spells_key k (a ++ 32 ∷ (t ++ 41 ∷ [])) (Word a ∷ (ws ++ Close ∷ [])) key
    (spells_argument a (t ++ 41 ∷ []) (ws ++ Close ∷ []) (name_wordly a is) (spells_closed t ws h)))
    (simp append_assoc)

two_spelled : (k a b t : List ℕ) (ws : List Token) → IsWordly k → IsSymName a → IsSymName b
    → Spells t ws
    → Spells (40 ∷ (k ++ 32 ∷ []) ++ a ++ 32 ∷ [] ++ b ++ 32 ∷ [] ++ t ++ 41 ∷ [])
    (Open ∷ Word k ∷ Word a ∷ Word b ∷ (ws ++ Close ∷ []))
two_spelled k a b t ws key is is' h =
    spells_as (40 ∷ (k ++ 32 ∷ []) ++ a ++ 32 ∷ [] ++ b ++ 32 ∷ [] ++ t ++ 41 ∷ [])
    (40 ∷ (k ++ 32 ∷ (a ++ 32 ∷ (b ++ 32 ∷ (t ++ 41 ∷ [])))))
    (Open ∷ Word k ∷ Word a ∷ Word b ∷ (ws ++ Close ∷ []))
    (spells_key k (a ++ 32 ∷ (b ++ 32 ∷ (t ++ 41 ∷ []))) (Word a ∷ Word b ∷ (ws ++ Close ∷ [])) key
    (spells_argument a (b ++ 32 ∷ (t ++ 41 ∷ [])) (Word b ∷ (ws ++ Close ∷ [])) (name_wordly a is)
    (spells_argument b (t ++ 41 ∷ []) (ws ++ Close ∷ []) (name_wordly b is')
    (spells_closed t ws h))))
    (simp append_assoc)

op_spelled : (op : Op) (t : List ℕ) (ws : List Token) → IsOp op → Spells t ws
    → Spells (text_layer (op_layer op t)) (Open ∷ (op_words op ++ (ws ++ Close ∷ [])))
op_spelled (Rename a b) t ws is h =
    two_spelled (codes "rename") a b t ws (omega arith, refl) is.0 is.1 h
op_spelled (Restrict a) t ws is h = one_spelled (codes "restrict") a t ws (omega arith, refl) is h
op_spelled (Freeze a) t ws is h = one_spelled (codes "freeze") a t ws (omega arith, refl) is h
op_spelled (Hide a) t ws is h = one_spelled (codes "hide") a t ws (omega arith, refl) is h
op_spelled (Show names) t ws is h =
    let end = ws ++ Close ∷ [] in
    let listed : Spells (spaced names ++ 41 ∷ 32 ∷ (t ++ 41 ∷ [])) (map Word names ++ Close ∷ end) =
    spells_listed names (41 ∷ 32 ∷ (t ++ 41 ∷ [])) (Close ∷ end) is
    (spells_close (32 ∷ (t ++ 41 ∷ [])) end
    (spells_blank (t ++ 41 ∷ []) end (spells_closed t ws h)))
    (λ rest e. refl) in
    let text = text_layer (op_layer (Show names) t) in
    let P : List Token → Type 0 = λ vs. Spells text (Open ∷ Word (codes "show") ∷ Open ∷ vs) in
    subst P (sym (append_assoc (map Word names) (Close ∷ []) end))
    (spells_as text (codes "(show (" ++ (spaced names ++ 41 ∷ 32 ∷ (t ++ 41 ∷ [])))
    (Open ∷ Word (codes "show") ∷ Open ∷ (map Word names ++ Close ∷ end))
    (spells_key (codes "show") (40 ∷ (spaced names ++ 41 ∷ 32 ∷ (t ++ 41 ∷ [])))
    (Open ∷ (map Word names ++ Close ∷ end)) (omega arith, refl)
    (spells_open (spaced names ++ 41 ∷ 32 ∷ (t ++ 41 ∷ [])) (map Word names ++ Close ∷ end) listed))
    (simp append_assoc))
op_spelled (CopyAs a b) t ws is h =
    two_spelled (codes "copy_as") a b t ws (omega arith, refl) is.0 is.1 h

all_apart : (P : Name → Type 0) (xs ys : List Name) → All P (xs ++ ys) → All P xs × All P ys
all_apart P [] ys h = (All-nil P, h)
all_apart P (x ∷ xs) ys h =
    let r = all_apart P xs ys (All-tail P x (xs ++ ys) h) in
    (All-cons P x xs (All-head P x (xs ++ ys) h) r.0, r.1)

op_named : (op : Op) (ns : List Name) → All IsSymName (names_layer (op_layer op ns))
    → IsOp op × All IsSymName ns
op_named (Rename a b) ns h =
    let more = All-tail IsSymName a (b ∷ ns) h in
    ((All-head IsSymName a (b ∷ ns) h, All-head IsSymName b ns more), All-tail IsSymName b ns more)
op_named (Restrict a) ns h = (All-head IsSymName a ns h, All-tail IsSymName a ns h)
op_named (Freeze a) ns h = (All-head IsSymName a ns h, All-tail IsSymName a ns h)
op_named (Hide a) ns h = (All-head IsSymName a ns h, All-tail IsSymName a ns h)
op_named (Show names) ns h = all_apart IsSymName names ns h
op_named (CopyAs a b) ns h =
    let more = All-tail IsSymName a (b ∷ ns) h in
    ((All-head IsSymName a (b ∷ ns) h, All-head IsSymName b ns more), All-tail IsSymName b ns more)

-- ---- expressions

-- what a text can say: it nests so deep at most, its merges have two operands, its names are names
abbrev pub IsSayable : ℕ → Expr → Type 0
IsSayable n x =
    (nesting x ≤ n) × (is_formed x ≡ true) × All IsSymName (names_in x) × All IsPath (paths_in x)

abbrev pub IsWritten : ℕ → Expr → Type 0
IsWritten n x = (ws : List Token) × IsExpr n ws x × Spells (expr_text x) ws

path_written : (n : ℕ) (x : Expr) (p : Name) → x ≡ expr.Path p → IsSayable n x → IsWritten n x
path_written n x p e f =
    let is : IsPath p =
    All-head IsPath p [] (subst (All IsPath) (ap paths_in e ∙ fold_path paths_layer p) f.3) in (
      Word p ∷ [],
      path_is_expr n (Word p ∷ []) x (p, refl, e, is),
      spells_as (expr_text x) p (Word p ∷ []) (spells_word p (path_wordly p is))
          (ap expr_text e ∙ fold_path text_layer p),
    )

op_written : (n : ℕ) → ((y : Expr) → IsSayable n y → IsWritten n y)
    → (x : Expr) (op : Op) (y : Expr)
    → x ≡ applied op y → IsSayable (suc n) x → IsWritten (suc n) x
op_written n deeper x op y e f =
    let deep : nesting x ≡ max (op_nesting op) (nesting y) + 1 =
    ap nesting e ∙ fold_applied nesting_layer op y ∙ op_deep op (nesting y) in
    let formed : is_formed y ≡ true =
    sym (ap is_formed e ∙ fold_applied formed_layer op y ∙ op_formed op (is_formed y)) ∙ f.1 in
    let named =
    op_named op (names_in y) (subst (All IsSymName)
    (ap names_in e ∙ fold_applied names_layer op y) f.2) in
    let paths =
    subst (All IsPath) (ap paths_in e ∙ fold_applied paths_layer op y ∙ op_paths op
    (paths_in y)) f.3 in
    let inner = deeper y (omega arith, formed, named.1, paths) in
    let ws = Open ∷ (op_words op ++ (inner.0 ++ Close ∷ [])) in (
      ws,
      opened_is_expr n ws x (Applies op inner.0 y refl e named.0 (omega arith) inner.1),
      spells_as (expr_text x) (text_layer (op_layer op (expr_text y))) ws
          (op_spelled op (expr_text y) inner.0 named.0 inner.2)
          (ap expr_text e ∙ fold_applied text_layer op y),
    )

override_written : (n : ℕ) → ((y : Expr) → IsSayable n y → IsWritten n y) → (x l r : Expr)
    → x ≡ expr.Override l r → IsSayable (suc n) x → IsWritten (suc n) x
override_written n deeper x l r e f =
    let deep : nesting x ≡ max (nesting l) (nesting r) + 1 =
    ap nesting e ∙ fold_override nesting_layer l r in
    let formed =
    and_parts (is_formed l) (is_formed r)
    (sym (ap is_formed e ∙ fold_override formed_layer l r) ∙ f.1) in
    let names =
    all_apart IsSymName (names_in l) (names_in r)
    (subst (All IsSymName) (ap names_in e ∙ fold_override names_layer l r) f.2) in
    let paths =
    all_apart IsPath (paths_in l) (paths_in r)
    (subst (All IsPath) (ap paths_in e ∙ fold_override paths_layer l r) f.3) in
    let a = deeper l (omega arith, formed.0, names.0, paths.0) in
    let b = deeper r (omega arith, formed.1, names.1, paths.1) in
    let ws = Open ∷ Word (codes "override") ∷ (a.0 ++ (b.0 ++ Close ∷ [])) in
    let right =
    spells_key (codes "override") (expr_text l ++ 32 ∷ (expr_text r ++ 41 ∷ []))
    (a.0 ++ (b.0 ++ Close ∷ []))
    (omega arith, refl)
    (spells_joined (expr_text l) (32 ∷ (expr_text r ++ 41 ∷ [])) a.0 (b.0 ++ Close ∷ []) a.2
    (spells_blank (expr_text r ++ 41 ∷ []) (b.0 ++ Close ∷ [])
    (spells_closed (expr_text r) b.0 b.2)) (λ rest z. refl)) in (
      ws,
      opened_is_expr n ws x (Overrides a.0 b.0 l r refl e a.1 b.1),
      spells_as (expr_text x) (codes "(override " ++ (expr_text l ++ 32 ∷
          (expr_text r ++ 41 ∷ []))) ws right
          (ap expr_text e ∙ fold_override text_layer l r ∙ simp append_assoc),
    )

-- so many operands, and what comes behind them
abbrev AreWritten : ℕ → List Expr → Type 0
AreWritten n xs =
    (inner : List Token) × AreExprs (IsExpr n) inner xs
    × ((t : List ℕ) (vs : List Token) → Spells t vs → AreApart t
    → Spells (each_spaced (map expr_text xs) ++ t) (inner ++ vs))

max_first : (m : ℕ) (ns : List ℕ) → m ≤ fold max m ns
max_first m [] = omega arith
max_first m (n ∷ ns) = omega (arith, max_first (max m n) ns)

all_written : (n : ℕ) → ((y : Expr) → IsSayable n y → IsWritten n y) → (xs : List Expr) (m : ℕ)
    → fold max m (map nesting xs) ≤ n → list_all (λ b. b) (map is_formed xs) ≡ true
    → All IsSymName (flat_map (λ ns. ns) (map names_in xs))
    → All IsPath (flat_map (λ ns. ns) (map paths_in xs))
    → AreWritten n xs
all_written n deeper [] m deep formed names paths = ([], refl, λ t vs h apart. h)
all_written n deeper (x ∷ xs) m deep formed names paths =
    let low : nesting x ≤ n = omega (arith, max_first (max m (nesting x)) (map nesting xs)) in
    let f = and_parts (is_formed x) (list_all (λ b. b) (map is_formed xs)) formed in
    let ns = all_apart IsSymName (names_in x) (flat_map (λ l. l) (map names_in xs)) names in
    let ps = all_apart IsPath (paths_in x) (flat_map (λ l. l) (map paths_in xs)) paths in
    let a = deeper x (low, f.0, ns.0, ps.0) in
    let more = all_written n deeper xs (max m (nesting x)) deep f.1 ns.1 ps.1 in
    let texts = map expr_text xs in (
      a.0 ++ more.0,
      (a.0, more.0, refl, a.1, more.1),
      λ t vs h apart.
          let joined =
          spells_joined (expr_text x) (each_spaced texts ++ t) a.0 (more.0 ++ vs) a.2
          (more.2 t vs h apart)
          (each_apart texts t apart) in
          let P : List Token → Type 0 =
          λ us. Spells (32 ∷ (expr_text x ++ (each_spaced texts ++ t))) us in
          spells_as (32 ∷ ((expr_text x ++ each_spaced texts) ++ t))
          (32 ∷ (expr_text x ++ (each_spaced texts ++ t)))
          ((a.0 ++ more.0) ++ vs)
          (subst P (sym (append_assoc a.0 more.0 vs))
          (spells_blank (expr_text x ++ (each_spaced texts ++ t)) (a.0 ++ (more.0 ++ vs)) joined))
          (ap (λ u. 32 ∷ u) (append_assoc (expr_text x) (each_spaced texts) t)),
    )

merge_written : (n : ℕ) → ((y : Expr) → IsSayable n y → IsWritten n y) → (x : Expr) (xs : List Expr)
    → x ≡ expr.Merge xs → IsSayable (suc n) x → IsWritten (suc n) x
merge_written n deeper x xs e f =
    let deep : nesting x ≡ fold max 0 (map nesting xs) + 1 =
    ap nesting e ∙ fold_merge nesting_layer xs in
    let formed =
    and_parts (nat_le 2 (length (map is_formed xs))) (list_all (λ b. b) (map is_formed xs))
    (sym (ap is_formed e ∙ fold_merge formed_layer xs) ∙ f.1) in
    let count : 2 ≤ length (map is_formed xs) = grind (arith, formed.0) in
    let names = subst (All IsSymName) (ap names_in e ∙ fold_merge names_layer xs) f.2 in
    let paths = subst (All IsPath) (ap paths_in e ∙ fold_merge paths_layer xs) f.3 in
    let all = all_written n deeper xs 0 (omega arith) formed.1 names paths in
    let texts = each_spaced (map expr_text xs) in
    let ws = Open ∷ Word (codes "merge") ∷ (all.0 ++ Close ∷ []) in (
      ws,
      opened_is_expr n ws x (Merges all.0 xs refl e (omega (arith, formed_count xs)) all.1),
      spells_as (expr_text x) (codes "(merge" ++ (texts ++ 41 ∷ [])) ws
          (spells_open (codes "merge" ++ (texts ++ 41 ∷ []))
          (Word (codes "merge") ∷ (all.0 ++ Close ∷ []))
          (spells_named (codes "merge") (texts ++ 41 ∷ []) (all.0 ++ Close ∷ []) (omega arith, refl)
          (all.2 (41 ∷ []) (Close ∷ []) (spells_close [] [] spells_nothing) (λ rest z. refl))
          (each_apart (map expr_text xs) (41 ∷ []) (λ rest z. refl))))
          (ap expr_text e ∙ fold_merge text_layer xs ∙ simp append_assoc),
    )

flat_written : (x : Expr) → IsSayable 0 x → IsForm x → IsWritten 0 x
flat_written x f (ByPath p e) = path_written 0 x p e f
flat_written x f (ByMerge xs e) =
    absurd (omega (arith, ap nesting e ∙ fold_merge nesting_layer xs, f.0))
flat_written x f (ByOverride l r e) =
    absurd (omega (arith, ap nesting e ∙ fold_override nesting_layer l r, f.0))
flat_written x f (ByOp op y e) =
    absurd (omega (
      arith,
      ap nesting e ∙ fold_applied nesting_layer op y ∙ op_deep op
          (nesting y),
      f.0,
    ))

form_written : (n : ℕ) → ((y : Expr) → IsSayable n y → IsWritten n y) → (x : Expr)
    → IsSayable (suc n) x → IsForm x → IsWritten (suc n) x
form_written n deeper x f (ByPath p e) = path_written (suc n) x p e f
form_written n deeper x f (ByMerge xs e) = merge_written n deeper x xs e f
form_written n deeper x f (ByOverride l r e) = override_written n deeper x l r e f
form_written n deeper x f (ByOp op y e) = op_written n deeper x op y e f

pub written : (n : ℕ) (x : Expr) → IsSayable n x → IsWritten n x
written zero x f = flat_written x f (form_of x)
written (suc n) x f = form_written n (written n) x f (form_of x)
