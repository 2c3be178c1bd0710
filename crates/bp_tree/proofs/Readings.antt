-- Tokens are an image in one way: a reading that finds each image that they are.
use Rattle.std.proofs.Common.{◌≡◌, ◌<◌, ℕ, zero, suc, ◌==◌, cond, List, []}
use Rattle.std.proofs.Common.{◌∷◌, ◌++◌, map, drop, get_or, length, refl, sym, ap, subst, ◌∙◌, ◌⊎◌}
use Rattle.std.proofs.Common.{inl, inr, codes, append_assoc, arith, Option, Some, None}
use Rattle.std.proofs.lemmas.List.{length-append}
use Rattle.omos_model.specs.Names.{Name}
use Rattle.omos_model.specs.Op.{Op, Rename, Restrict, Freeze, Hide, Show, CopyAs}
use Rattle.omos_model.specs.declared.entry.Start.{Start}
use Rattle.omos_model.specs.declared.entry.Start.TheVariants.{Named, NoEntry}
use Rattle.omos_model.specs.declared.expr.Expr.{Expr}
use Rattle.omos_model.specs.declared.expr.Expr.TheVariants as expr
use Rattle.bp_tree.specs.Tokens.{Token, Open, Close, Word, Barred}
use Rattle.bp_tree.specs.Numerals.{IsNumeralOf}
use Rattle.bp_tree.specs.Grammar.{IsExpr, IsPathOf, IsOpened, Merges, Overrides, Applies, AreExprs}
use Rattle.bp_tree.specs.Grammar.{op_words, applied, IsStart, IsRange}
use Rattle.bp_tree.specs.declared.form.Form.{Form}
use Rattle.bp_tree.specs.declared.form.Form.TheVariants as form
use Rattle.bp_tree.specs.declared.form.Applied.{Applied}
use Rattle.bp_tree.specs.declared.form.Applied.TheVariants as kind
use Rattle.bp_tree.proofs.Digits.{one_number}
use Rattle.bp_tree.proofs.Expressions.{opened_head}
use Rattle.bp_tree.proofs.Keywords.{form_named}
use Rattle.bp_tree.proofs.Headers.{word_in, part_kind}
use Rattle.bp_tree.proofs.Samples.{expr_cases}

-- ---- steps

abbrev Step : Type 0 → Type 0
Step A = List Token → Option (A × List Token)

abbrev and_then : {A B : Type 0} → Option (A × List Token) → (A → Step B) → Option (B × List Token)
and_then None more = None
and_then (Some r) more = more r.0 r.1

abbrev to_close : {A : Type 0} → A → Step A
to_close e [] = None
to_close e (Close ∷ ts) = Some (e, ts)
to_close e (Open ∷ ts) = None
to_close e (Word w ∷ ts) = None
to_close e (Barred b ∷ ts) = None

abbrev one_word : Step Name
one_word [] = None
one_word (Close ∷ ts) = None
one_word (Open ∷ ts) = None
one_word (Word w ∷ ts) = Some (w, ts)
one_word (Barred b ∷ ts) = None

abbrev words_on : Step (List Name)
words_on [] = None
words_on (Close ∷ ts) = Some ([], ts)
words_on (Open ∷ ts) = None
words_on (Word w ∷ ts) = and_then (words_on ts) (λ ws us. Some (w ∷ ws, us))
words_on (Barred b ∷ ts) = None

abbrev arguments_read : Applied → Step Op
arguments_read kind.Rename ts =
    and_then (one_word ts) (λ a us. and_then (one_word us) (λ b vs. Some (Rename a b, vs)))
arguments_read kind.Restrict ts = and_then (one_word ts) (λ a us. Some (Restrict a, us))
arguments_read kind.Freeze ts = and_then (one_word ts) (λ a us. Some (Freeze a, us))
arguments_read kind.Hide ts = and_then (one_word ts) (λ a us. Some (Hide a, us))
arguments_read kind.Show ts = and_then (words_on (drop 1 ts)) (λ ws us. Some (Show ws, us))
arguments_read kind.CopyAs ts =
    and_then (one_word ts) (λ a us. and_then (one_word us) (λ b vs. Some (CopyAs a b, vs)))

-- unless the list ends here
abbrev unless_close : Option (List Expr × List Token) → Step (List Expr)
unless_close other [] = other
unless_close other (Close ∷ ts) = Some ([], ts)
unless_close other (Open ∷ ts) = other
unless_close other (Word w ∷ ts) = other
unless_close other (Barred b ∷ ts) = other

-- expressions up to a parenthesis, fewer than a count
abbrev exprs_on : Step Expr → ℕ → Step (List Expr)
exprs_on d zero ts = None
exprs_on d (suc k) ts =
    unless_close (and_then (d ts) (λ x us. and_then (exprs_on d k us) (λ xs vs. Some
    (x ∷ xs, vs)))) ts

abbrev form_on : Step Expr → Form → Step Expr
form_on d form.Merge ts = and_then (exprs_on d (length ts) ts) (λ xs us. Some (expr.Merge xs, us))
form_on d form.Override ts =
    and_then (d ts) (λ x us. and_then (d us) (λ y vs. to_close (expr.Override x y) vs))
form_on d (form.Apply k) ts =
    and_then (arguments_read k ts) (λ op us. and_then (d us) (λ x vs. to_close (applied op x) vs))

abbrev opened_on : Step Expr → Step Expr
opened_on d ts = and_then (one_word ts) (λ k us. form_on d (form_named k) us)

abbrev path_or : Step Expr → Step Expr
path_or d [] = None
path_or d (Close ∷ ts) = None
path_or d (Open ∷ ts) = d ts
path_or d (Word p ∷ ts) = Some (expr.Path p, ts)
path_or d (Barred b ∷ ts) = None

abbrev expr_read : ℕ → Step Expr
expr_read zero = path_or (λ ts. None)
expr_read (suc n) = path_or (opened_on (expr_read n))

-- ---- what is an expression is read as it

-- whatever comes behind
abbrev IsReader : Step Expr → (List Token → Expr → Type 0) → Type 0
IsReader d P = (ts : List Token) (e : Expr) (r : List Token) → P ts e → d (ts ++ r) ≡ Some (e, r)

words_read : (ns : List Name) (r : List Token)
    → words_on (map Word ns ++ Close ∷ [] ++ r) ≡ Some (ns, r)
words_read [] r = refl
words_read (n ∷ ns) r = rw (words_read ns r) refl

op_read : (d : Step Expr) (op : Op) (r : List Token)
    → opened_on d (op_words op ++ r) ≡ and_then (d r) (λ x vs. to_close (applied op x) vs)
op_read d (Rename a b) r = refl
op_read d (Restrict a) r = refl
op_read d (Freeze a) r = refl
op_read d (Hide a) r = refl
op_read d (Show ns) r = rw (words_read ns r) refl
op_read d (CopyAs a b) r = refl

-- the first token is no parenthesis that closes
abbrev Starts : List Token → Type 0
Starts ts =
    ((p : Name) × (us : List Token) × (ts ≡ Word p ∷ us)) ⊎ ((us : List Token) × (ts ≡ Open ∷ us))

goes_on : (other : Option (List Expr × List Token)) (ts r : List Token) → Starts ts
    → unless_close other (ts ++ r) ≡ other
goes_on other ts r (inl w) = ap (λ us. unless_close other (us ++ r)) w.2
goes_on other ts r (inr o) = ap (λ us. unless_close other (us ++ r)) o.1

longer : (ts : List Token) → Starts ts → 0 < length ts
longer ts (inl w) = rw w.2 (omega arith)
longer ts (inr o) = rw o.1 (omega arith)

exprs_read : (d : Step Expr) (P : List Token → Expr → Type 0) → IsReader d P
    → ((ts : List Token) (e : Expr) → P ts e → Starts ts)
    → (inner : List Token) (xs : List Expr) (r : List Token) (k : ℕ) → length inner < k
    → AreExprs P inner xs → exprs_on d k (inner ++ Close ∷ r) ≡ Some (xs, r)
exprs_read d P reads starts inner xs r zero short are = absurd (omega arith)
exprs_read d P reads starts inner [] r (suc k) short are =
    ap (λ us. exprs_on d (suc k) (us ++ Close ∷ r)) are
exprs_read d P reads starts inner (x ∷ xs) r (suc k) short are =
    let front = are.0 in
    let more = are.1 in
    let begun = starts front x are.3 in
    let fewer : length more < k =
    omega (arith, length-append front more, ap length are.2, longer front begun) in
    let later = exprs_read d P reads starts more xs r k fewer are.4 in
    let here = reads front x (more ++ Close ∷ r) are.3 in
    let whole : inner ++ Close ∷ r ≡ front ++ (more ++ Close ∷ r) =
    ap (λ us. us ++ Close ∷ r) are.2 ∙ append_assoc front more (Close ∷ r) in
    ap (exprs_on d (suc k)) whole
    ∙ goes_on (and_then (d (front ++ (more ++ Close ∷ r))) (λ y us. and_then (exprs_on d k us)
    (λ ys vs. Some (y ∷ ys, vs))))
    front (more ++ Close ∷ r) begun
    ∙ rw (here, later) refl

opened_read : (n : ℕ) (d : Step Expr) (P : List Token → Expr → Type 0) → IsReader d P
    → ((ts : List Token) (e : Expr) → P ts e → Starts ts)
    → (ts : List Token) (e : Expr) (r : List Token) → IsOpened n P ts e
    → path_or (opened_on d) (ts ++ r) ≡ Some (e, r)
opened_read n d P reads starts ts e r (Merges inner xs eq is two are) =
    let whole : (inner ++ Close ∷ []) ++ r ≡ inner ++ Close ∷ r =
    append_assoc inner (Close ∷ []) r in
    let short : length inner < length (inner ++ Close ∷ r) =
    omega (arith, length-append inner (Close ∷ r)) in
    let all = exprs_read d P reads starts inner xs r (length (inner ++ Close ∷ r)) short are in
    ap (λ us. path_or (opened_on d) (us ++ r)) eq ∙ ap (form_on d form.Merge) whole
    ∙ rw all (ap (λ x. Some (x, r)) (sym is))
opened_read n d P reads starts ts e r (Overrides lt rt x y eq is px py) =
    let whole : (lt ++ (rt ++ Close ∷ [])) ++ r ≡ lt ++ (rt ++ Close ∷ r) =
    append_assoc lt (rt ++ Close ∷ []) r ∙ ap (λ us. lt ++ us) (append_assoc rt (Close ∷ []) r) in
    ap (λ us. path_or (opened_on d) (us ++ r)) eq ∙ ap (form_on d form.Override) whole
    ∙ rw (reads lt x (rt ++ Close ∷ r) px, reads rt y (Close ∷ r) py)
    (ap (λ z. Some (z, r)) (sym is))
opened_read n d P reads starts ts e r (Applies op inner x eq is isop nest px) =
    let whole : (op_words op ++ (inner ++ Close ∷ [])) ++ r ≡ op_words op ++ (inner ++ Close ∷ r) =
    append_assoc (op_words op) (inner ++ Close ∷ []) r
    ∙ ap (λ us. op_words op ++ us) (append_assoc inner (Close ∷ []) r) in
    ap (λ us. path_or (opened_on d) (us ++ r)) eq ∙ ap (opened_on d) whole
    ∙ op_read d op (inner ++ Close ∷ r)
    ∙ rw (reads inner x (Close ∷ r) px) (ap (λ z. Some (z, r)) (sym is))

expr_starts : (n : ℕ) (ts : List Token) (e : Expr) → IsExpr n ts e → Starts ts
expr_starts n ts e h =
    elim (expr_cases n ts e h) [
      | inl p ↦ inl (p.0, [], p.1)
      | inr o ↦ inr (opened_head o.0 (IsExpr o.0) ts e o.2)
    ]

path_read : (d : Step Expr) (ts : List Token) (e : Expr) (r : List Token) → IsPathOf ts e
    → path_or d (ts ++ r) ≡ Some (e, r)
path_read d ts e r h = ap (λ us. path_or d (us ++ r)) h.1 ∙ ap (λ x. Some (x, r)) (sym h.2)

expr_is_read : (n : ℕ) → IsReader (expr_read n) (IsExpr n)
unfolding IsExpr
expr_is_read zero ts e r h = path_read (λ us. None) ts e r h
expr_is_read (suc n) ts e r h =
    elim h [
      | inl p ↦ path_read (opened_on (expr_read n)) ts e r p
      | inr o ↦ opened_read n (expr_read n) (IsExpr n) (expr_is_read n) (expr_starts n) ts e r o
    ]

-- ---- the head of an image

abbrev start_read : List Token → Start × List Token
start_read ts =
    cond (part_kind ts == 1) (Named (word_in (get_or ts 2 Close)), drop 4 ts)
    (cond (part_kind ts == 2) (NoEntry, drop 3 ts) (Named (codes "_start"), ts))

abbrev range_read : List Token → Option (Name × Name) × List Token
range_read ts =
    cond (part_kind ts == 3) (
      Some (
        word_in (get_or ts 2 Close),
        word_in
            (get_or ts 3 Close),
      ),
      drop 5 ts,
    ) (None, ts)

none_read : (r : List Token) → (part_kind r ≡ 0) ⊎ (part_kind r ≡ 3)
    → start_read r ≡ (Named (codes "_start"), r)
none_read r (inl e) = rw e refl
none_read r (inr e) = rw e refl

start_is_read : (ts : List Token) (s : Start) (r : List Token) → IsStart ts s
    → (part_kind r ≡ 0) ⊎ (part_kind r ≡ 3) → start_read (ts ++ r) ≡ (s, r)
start_is_read ts (Named name) r (inl n) e =
    ap (λ us. start_read (us ++ r)) n.0 ∙ none_read r e ∙ ap (λ w. (Named w, r)) (sym n.1)
start_is_read ts (Named name) r (inr w) e = ap (λ us. start_read (us ++ r)) w.0
start_is_read ts NoEntry r h e = ap (λ us. start_read (us ++ r)) h

abbrev AreBounds : Option (Name × Name) → ℕ → ℕ → Type 0
AreBounds None lo hi = (lo ≡ 4194304) × (hi ≡ 1073741824)
AreBounds (Some w) lo hi = IsNumeralOf w.0 lo × IsNumeralOf w.1 hi

range_is_read : (ts : List Token) (lo hi : ℕ) (r : List Token) → IsRange ts lo hi → part_kind r ≡ 0
    → (w : Option (Name × Name)) × (range_read (ts ++ r) ≡ (w, r)) × AreBounds w lo hi
range_is_read ts lo hi r (inl n) e =
    (None, ap (λ us. range_read (us ++ r)) n.0 ∙ rw e refl, (n.1, n.2))
range_is_read ts lo hi r (inr w) e =
    (Some (w.0, w.1), ap (λ us. range_read (us ++ r)) w.2, (w.3, w.4))

same_bounds : (w : Option (Name × Name)) (lo hi lo' hi' : ℕ) → AreBounds w lo hi
    → AreBounds w lo' hi'
    → (lo ≡ lo') × (hi ≡ hi')
same_bounds None lo hi lo' hi' h k = (h.0 ∙ sym k.0, h.1 ∙ sym k.1)
same_bounds (Some w) lo hi lo' hi' h k =
    (one_number w.0 lo lo' h.0 k.0, one_number w.1 hi hi' h.1 k.1)

-- ---- two readings

pub one_start : (ts us : List Token) (s t : Start) (r q : List Token) → ts ++ r ≡ us ++ q
    → IsStart ts s
    → IsStart us t → (part_kind r ≡ 0) ⊎ (part_kind r ≡ 3) → (part_kind q ≡ 0) ⊎ (part_kind q ≡ 3)
    → (s ≡ t) × (r ≡ q)
one_start ts us s t r q e h k d c =
    let same : (s, r) ≡ (t, q) =
    sym (start_is_read ts s r h d) ∙ ap start_read e ∙ start_is_read us t q k c in
    (ap (λ z. z.0) same, ap (λ z. z.1) same)

pub one_range : (ts us : List Token) (lo hi lo' hi' : ℕ) (r q : List Token) → ts ++ r ≡ us ++ q
    → IsRange ts lo hi → IsRange us lo' hi' → part_kind r ≡ 0 → part_kind q ≡ 0
    → (lo ≡ lo') × (hi ≡ hi') × (r ≡ q)
one_range ts us lo hi lo' hi' r q e h k d c =
    let a = range_is_read ts lo hi r h d in
    let b = range_is_read us lo' hi' q k c in
    let same : (a.0, r) ≡ (b.0, q) = sym a.1 ∙ ap range_read e ∙ b.1 in
    let words : a.0 ≡ b.0 = ap (λ z. z.0) same in
    let n = same_bounds b.0 lo hi lo' hi' (subst (λ w. AreBounds w lo hi) words a.2) b.2 in
    (n.0, n.1, ap (λ z. z.1) same)

first_is : (x y : Expr × List Token) → Some x ≡ Some y → x.0 ≡ y.0
first_is x y e = let q : x ≡ y = cc in ap (λ z. z.0) q

pub one_expr : (n : ℕ) (ts us : List Token) (a b : Expr) (r : List Token) → ts ++ r ≡ us ++ r
    → IsExpr n ts a
    → IsExpr n us b → a ≡ b
one_expr n ts us a b r e h k =
    first_is (a, r) (b, r) (sym (expr_is_read n ts a r h) ∙ ap
    (expr_read n) e ∙ expr_is_read n us b r k)
