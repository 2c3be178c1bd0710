-- The text of an image has no fault.
use Rattle.std.proofs.Common.{◌≡◌, ℕ, zero, suc, Bool, true, false, ◌&&◌, List, [], ◌∷◌, ◌++◌, map}
use Rattle.std.proofs.Common.{refl, ap, subst, ◌∙◌, sym, inl, inr, append_assoc}
use Rattle.std.specs.List.{list_all}
use Rattle.std.proofs.lemmas.List.Folds.{list_all-append}
use Rattle.omos_model.specs.Names.{Name}
use Rattle.omos_model.specs.Op.{Op, Rename, Restrict, Freeze, Hide, Show, CopyAs}
use Rattle.omos_model.specs.ImageParts.{ImageParts}
use Rattle.omos_model.specs.declared.entry.Start.{Start}
use Rattle.omos_model.specs.declared.entry.Start.TheVariants.{Named, NoEntry}
use Rattle.omos_model.specs.declared.expr.Expr.{Expr}
use Rattle.bp_tree.specs.Tokens.{Token, Open, Close, Word, Barred, Placed, tokens_of}
use Rattle.bp_tree.specs.Texts.{words_of}
use Rattle.bp_tree.specs.Grammar.{IsExpr, IsPathOf, IsOpened, Merges, Overrides, Applies, AreExprs}
use Rattle.bp_tree.specs.Grammar.{op_words, IsStart, IsRange, IsImageOf}
use Rattle.bp_tree.specs.TextFaults.{IsBarredAt}
use Rattle.bp_tree.specs.Laws.{ImageLaw}
use Rattle.bp_tree.proofs.NameLists.{words-append}

pub image_law : ImageLaw
image_law text image fault is (inl s) =
    let all : words_of (tokens_of text) ≡
    (words_of s.front ++ s.token.token ∷ []) ++ words_of s.behind =
    ap words_of s.parts ∙ words-append s.front (s.token ∷ s.behind)
    ∙ sym (append_assoc (words_of s.front) (s.token.token ∷ []) (words_of s.behind)) in
    let P : List Token → Type 0 = λ ws. IsImageOf 63 ws image in
    s.stops (words_of s.behind, (image, subst P all is))
image_law text image fault is (inr e) = e.2 (image, is)

-- ---- no byte of an image is barred

abbrev is_plain : Token → Bool
is_plain Open = true
is_plain Close = true
is_plain (Word w) = true
is_plain (Barred b) = false

abbrev ArePlain : List Token → Type 0
ArePlain ts = list_all is_plain ts ≡ true

plain_both : (xs ys : List Token) → ArePlain xs → ArePlain ys → ArePlain (xs ++ ys)
plain_both xs ys h k = list_all-append is_plain xs ys ∙ rw (h, k) refl

plain_names : (names : List Name) → ArePlain (map Word names)
plain_names [] = refl
plain_names (n ∷ ns) = plain_names ns

plain_op : (op : Op) → ArePlain (op_words op)
plain_op (Rename a b) = refl
plain_op (Restrict a) = refl
plain_op (Freeze a) = refl
plain_op (Hide a) = refl
plain_op (Show names) = plain_both (map Word names) (Close ∷ []) (plain_names names) refl
plain_op (CopyAs a b) = refl

plain_path : (ts : List Token) (e : Expr) → IsPathOf ts e → ArePlain ts
plain_path ts e h = ap (list_all is_plain) h.1

plain_exprs : (P : List Token → Expr → Type 0)
    → ((ts : List Token) (e : Expr) → P ts e → ArePlain ts)
    → (ts : List Token) (xs : List Expr) → AreExprs P ts xs → ArePlain ts
plain_exprs P each ts [] h = ap (list_all is_plain) h
plain_exprs P each ts (x ∷ xs) h =
    ap (list_all is_plain) h.2 ∙ plain_both h.0 h.1 (each h.0 x h.3) (plain_exprs P each h.1 xs h.4)

plain_opened : (n : ℕ) (P : List Token → Expr → Type 0)
    → ((ts : List Token) (e : Expr) → P ts e → ArePlain ts)
    → (ts : List Token) (e : Expr) → IsOpened n P ts e → ArePlain ts
plain_opened n P each ts e (Merges inner xs eq is two are) =
    ap (list_all is_plain) eq ∙ plain_both inner (Close ∷ []) (plain_exprs P each inner xs are) refl
plain_opened n P each ts e (Overrides l r x y eq is px py) =
    ap (list_all is_plain) eq
    ∙ plain_both l (r ++ Close ∷ []) (each l x px) (plain_both r (Close ∷ []) (each r y py) refl)
plain_opened n P each ts e (Applies op inner x eq is isop nest px) =
    ap (list_all is_plain) eq
    ∙ plain_both (op_words op) (inner ++ Close ∷ []) (plain_op op)
    (plain_both inner (Close ∷ []) (each inner x px) refl)

plain_expr : (n : ℕ) (ts : List Token) (e : Expr) → IsExpr n ts e → ArePlain ts
unfolding IsExpr
plain_expr zero ts e h = plain_path ts e h
plain_expr (suc n) ts e h =
    elim h [ inl p ↦ plain_path ts e p | inr o ↦ plain_opened n (IsExpr n) (plain_expr n) ts e o ]

plain_start : (ts : List Token) (s : Start) → IsStart ts s → ArePlain ts
plain_start ts (Named name) (inl h) = ap (list_all is_plain) h.0
plain_start ts (Named name) (inr h) = ap (list_all is_plain) h.0
plain_start ts NoEntry h = ap (list_all is_plain) h

plain_range : (ts : List Token) (lo hi : ℕ) → IsRange ts lo hi → ArePlain ts
plain_range ts lo hi (inl h) = ap (list_all is_plain) h.0
plain_range ts lo hi (inr h) = ap (list_all is_plain) h.2

plain_image : (n : ℕ) (ts : List Token) (i : ImageParts) → IsImageOf n ts i → ArePlain ts
plain_image n ts i h =
    ap (list_all is_plain) h.3
    ∙ plain_both h.0 (h.1 ++ (h.2 ++ Close ∷ [])) (plain_start h.0 i.start h.4)
    (plain_both h.1 (h.2 ++ Close ∷ []) (plain_range h.1 i.lo i.hi h.5)
    (plain_both h.2 (Close ∷ []) (plain_expr n h.2 i.body h.6) refl))

not_plain : (b c : Bool) → b ≡ (c && false) → b ≡ true → ⊥
not_plain b true e h = let q : true ≡ false = sym h ∙ e in cc
not_plain b false e h = let q : true ≡ false = sym h ∙ e in cc

pub none_barred : (n : ℕ) (ts : List Placed) (i : ImageParts) (place : ℕ)
    → IsImageOf n (words_of ts) i
    → IsBarredAt ts place → ⊥
none_barred n ts i place is b =
    not_plain (list_all is_plain (words_of ts)) (list_all is_plain (words_of b.0))
    (ap (λ us. list_all is_plain (words_of us)) b.3
    ∙ ap (list_all is_plain) (words-append b.0 (record { token = Barred b.1; place = place } ∷ b.2))
    ∙ list_all-append is_plain (words_of b.0) (Barred b.1 ∷ words_of b.2))
    (plain_image n (words_of ts) i is)
