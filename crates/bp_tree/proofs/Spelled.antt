-- The tokens of texts that are put together.
use Rattle.std.proofs.Common.{◌≡◌, ◌≤◌, nat_le, ℕ, ◌+◌, ◌==◌, ◌&&◌, Bool, true, false, not, cond}
use Rattle.std.proofs.Common.{IsTrue, List, [], ◌∷◌, ◌++◌, map, refl, sym, ap, subst, ◌∙◌}
use Rattle.std.proofs.Common.{append_assoc, arith, length, All}
use Rattle.std.specs.List.{list_all, flat_map}
use Rattle.std.proofs.lemmas.Bool.{and_parts}
use Rattle.std.proofs.lemmas.List.{append-nil}
use Rattle.std.proofs.lemmas.List.Elements.{All-head, All-tail}
use Rattle.std.proofs.lemmas.List.Folds.{list_all-append}
use Rattle.omos_base.specs.SymNames.{IsSymName}
use Rattle.omos_base.specs.Paths.{IsPartByte, IsPart, IsPath}
use Rattle.omos_model.specs.Names.{Name, is_name_byte}
use Rattle.omos_model.proofs.Tested.{name_law}
use Rattle.bp_tree.specs.Tokens.{Token, Open, Close, Word, Placed, tokens_from, in_front, grown}
use Rattle.bp_tree.specs.Tokens.{begins_word, is_blank, mark}
use Rattle.bp_tree.specs.Texts.{words_of}
use Rattle.bp_tree.specs.Canonical.{each_spaced, spaced}
use Rattle.bp_tree.proofs.Runs.{word_first}

abbrev pub words : List ℕ → List Token
words text = words_of (tokens_from false 0 text)

-- ---- places count for nothing

abbrev after_byte : ℕ → List Token → List Token
after_byte byte [] = []
after_byte byte (t ∷ ts) = grown byte t ∷ ts

in_front_words : (byte place : ℕ) (ts : List Placed)
    → words_of (in_front byte place ts) ≡ after_byte byte (words_of ts)
in_front_words byte place [] = refl
in_front_words byte place (t ∷ ts) = refl

either : (b : Bool) (x y u v : List Placed) → words_of x ≡ words_of u → words_of y ≡ words_of v
    → words_of (cond b x y) ≡ words_of (cond b u v)
either true x y u v h k = h
either false x y u v h k = k

pub anywhere : (comment : Bool) (p q : ℕ) (bytes : List ℕ)
    → words_of (tokens_from comment p bytes) ≡ words_of (tokens_from comment q bytes)
anywhere comment p q [] = refl
anywhere true p q (b ∷ bs) = anywhere (not (b == 10)) (p + 1) (q + 1) bs
anywhere false p q (b ∷ bs) =
    let here = anywhere false (p + 1) (q + 1) bs in
    let joined =
    in_front_words b p (tokens_from false (p + 1) bs) ∙ ap (after_byte b) here
    ∙ sym (in_front_words b q (tokens_from false (q + 1) bs)) in
    either (b == 59) _ _ _ _ (anywhere true (p + 1) (q + 1) bs)
    (either (is_blank b) _ _ _ _ here
    (either (is_name_byte b && begins_word bs) _ _ _ _ joined
    (ap (λ ts. cond (is_name_byte b) (Word (b ∷ [])) (mark b) ∷ ts) here)))

-- ---- what a text says, whatever comes behind it

-- but a byte that would lengthen its last word
abbrev pub Spells : List ℕ → List Token → Type 0
Spells text ws =
    (rest : List ℕ) → begins_word rest ≡ false → words (text ++ rest) ≡ ws ++ words rest

-- a text that no byte can lengthen
abbrev pub AreApart : List ℕ → Type 0
AreApart text = (rest : List ℕ) → begins_word rest ≡ false → begins_word (text ++ rest) ≡ false

pub spells_nothing : Spells [] []
spells_nothing rest e = refl

pub spells_whole : (t : List ℕ) (ws : List Token) → Spells t ws → words t ≡ ws
spells_whole t ws h = ap words (sym (append-nil t)) ∙ h [] refl ∙ append-nil ws

pub spells_joined : (t u : List ℕ) (ws vs : List Token) → Spells t ws → Spells u vs → AreApart u
    → Spells (t ++ u) (ws ++ vs)
spells_joined t u ws vs h k apart rest e =
    ap words (append_assoc t u rest) ∙ h (u ++ rest) (apart rest e) ∙ ap (λ us. ws ++ us) (k rest e)
    ∙ sym (append_assoc ws vs (words rest))

pub spells_blank : (t : List ℕ) (ws : List Token) → Spells t ws → Spells (32 ∷ t) ws
spells_blank t ws h rest e = anywhere false 1 0 (t ++ rest) ∙ h rest e

pub spells_open : (t : List ℕ) (ws : List Token) → Spells t ws → Spells (40 ∷ t) (Open ∷ ws)
spells_open t ws h rest e =
    ap (λ us. Open ∷ us) (anywhere false 1 0 (t ++ rest) ∙ h rest e)

pub spells_close : (t : List ℕ) (ws : List Token) → Spells t ws → Spells (41 ∷ t) (Close ∷ ws)
spells_close t ws h rest e =
    ap (λ us. Close ∷ us) (anywhere false 1 0 (t ++ rest) ∙ h rest e)

-- ---- words

abbrev pub IsWordly : List ℕ → Type 0
IsWordly w = (1 ≤ length w) × IsTrue (list_all is_name_byte w)

pub spells_word : (w : List ℕ) → IsWordly w → Spells w (Word w ∷ [])
spells_word [] h rest e = absurd (omega arith)
spells_word (b ∷ run) h rest e =
    ap words_of (word_first b run rest 0 h.1 e)
    ∙ ap (λ us. Word (b ∷ run) ∷ us) (anywhere false (0 + length (b ∷ run)) 0 rest)

pub name_wordly : (w : Name) → IsSymName w → IsWordly w
name_wordly w h = (
  h.0.0,
  (and_parts (nat_le 1 (length w) && nat_le (length w) 1024) (list_all is_name_byte w)
      ((name_law w).1 h)).1,
)

part_byte : (b : ℕ) → IsPartByte b → is_name_byte b ≡ true
part_byte b h = grind arith

part_bytes : (bs : List ℕ) → All IsPartByte bs → list_all is_name_byte bs ≡ true
part_bytes [] h = refl
part_bytes (b ∷ bs) h =
    rw (part_byte b (All-head IsPartByte b bs h), part_bytes bs (All-tail IsPartByte b bs h)) refl

parts_bytes : (parts : List (List ℕ)) → All IsPart parts
    → list_all is_name_byte (flat_map (λ part. 47 ∷ part) parts) ≡ true
parts_bytes [] h = refl
parts_bytes (p ∷ ps) h =
    list_all-append is_name_byte p (flat_map (λ part. 47 ∷ part) ps)
    ∙ rw (part_bytes p (All-head IsPart p ps h).2, parts_bytes ps (All-tail IsPart p ps h)) refl

long_path : (parts : List (List ℕ)) → 1 ≤ length parts
    → 1 ≤ length (flat_map (λ part. 47 ∷ part) parts)
long_path [] h = h
long_path (p ∷ ps) h = omega arith

pub path_wordly : (p : Name) → IsPath p → IsWordly p
path_wordly p h =
    subst IsWordly (sym h.2) (long_path h.0 h.1.0, parts_bytes h.0 h.1.2)

-- a word, and a blank or a parenthesis behind it
pub spells_named : (w t : List ℕ) (ws : List Token) → IsWordly w → Spells t ws → AreApart t
    → Spells (w ++ t) (Word w ∷ ws)
spells_named w t ws is h apart = spells_joined w t (Word w ∷ []) ws (spells_word w is) h apart

pub spells_as : (t u : List ℕ) (ws : List Token) → Spells u ws → t ≡ u → Spells t ws
spells_as t u ws h e = let P : List ℕ → Type 0 = λ v. Spells v ws in subst P (sym e) h

pub spells_closed : (t : List ℕ) (ws : List Token) → Spells t ws
    → Spells (t ++ 41 ∷ []) (ws ++ Close ∷ [])
spells_closed t ws h =
    spells_joined t (41 ∷ []) ws (Close ∷ []) h (spells_close [] [] spells_nothing) (λ rest e. refl)

-- an opening parenthesis, a word and a space
pub spells_key : (k t : List ℕ) (ws : List Token) → IsWordly k → Spells t ws
    → Spells (40 ∷ (k ++ 32 ∷ t)) (Open ∷ Word k ∷ ws)
spells_key k t ws is h =
    spells_open (k ++ 32 ∷ t) (Word k ∷ ws)
    (spells_named k (32 ∷ t) ws is (spells_blank t ws h) (λ rest e. refl))

-- a word and a space
pub spells_argument : (w t : List ℕ) (ws : List Token) → IsWordly w → Spells t ws
    → Spells (w ++ 32 ∷ t) (Word w ∷ ws)
spells_argument w t ws is h = spells_named w (32 ∷ t) ws is (spells_blank t ws h) (λ rest e. refl)

-- ---- lists

pub each_apart : (texts : List (List ℕ)) (t : List ℕ) → AreApart t
    → AreApart (each_spaced texts ++ t)
each_apart [] t apart rest e = apart rest e
each_apart (u ∷ us) t apart rest e = refl

-- names with a space before each, and a text that is apart
pub spells_names : (names : List Name) (t : List ℕ) (ws : List Token) → All IsSymName names
    → Spells t ws → AreApart t → Spells (each_spaced names ++ t) (map Word names ++ ws)
spells_names [] t ws all h apart = h
spells_names (n ∷ ns) t ws all h apart =
    let more = spells_names ns t ws (All-tail IsSymName n ns all) h apart in
    let P : List ℕ → Type 0 = λ u. Spells u (Word n ∷ (map Word ns ++ ws)) in
    subst P (ap (λ u. 32 ∷ u) (sym (append_assoc n (each_spaced ns) t)))
    (spells_blank (n ++ (each_spaced ns ++ t)) (Word n ∷ (map Word ns ++ ws))
    (spells_named n (each_spaced ns ++ t) (map Word ns ++ ws)
    (name_wordly n (All-head IsSymName n ns all)) more (each_apart ns t apart)))

-- with one space between two
pub spells_listed : (names : List Name) (t : List ℕ) (ws : List Token) → All IsSymName names
    → Spells t ws → AreApart t → Spells (spaced names ++ t) (map Word names ++ ws)
spells_listed [] t ws all h apart = h
spells_listed (n ∷ ns) t ws all h apart =
    let P : List ℕ → Type 0 = λ u. Spells u (Word n ∷ (map Word ns ++ ws)) in
    subst P (sym (append_assoc n (each_spaced ns) t))
    (spells_named n (each_spaced ns ++ t) (map Word ns ++ ws)
    (name_wordly n (All-head IsSymName n ns all))
    (spells_names ns t ws (All-tail IsSymName n ns all) h apart) (each_apart ns t apart))
