-- A word is a longest run of bytes that a name may have.
use Rattle.std.proofs.Common.{◌≡◌, ℕ, zero, suc, ◌+◌, ◌≤◌, ◌==◌, Bool, true, false, IsTrue, List}
use Rattle.std.proofs.Common.{[], ◌∷◌, ◌++◌}
use Rattle.std.proofs.Common.{length, refl, arith, ◌&&◌, ap, sym, subst, ◌∙◌, cond, take, drop}
use Rattle.std.proofs.lemmas.List.{take-append-drop, length-take-le}
use Rattle.std.specs.List.{list_all}
use Rattle.omos_model.specs.Names.{is_name_byte}
use Rattle.bp_tree.specs.inside.Pending.{begins_comment, AtByte, AtToken, IsFirstWord}
use Rattle.bp_tree.specs.Tokens.{Word, Placed, tokens_from, begins_word, is_blank, in_front, mark}

pub no_comment : (b : ℕ) → is_name_byte b ≡ true → (b == 59) ≡ false
no_comment b h = grind arith

pub no_blank : (b : ℕ) → is_name_byte b ≡ true → is_blank b ≡ false
no_blank b h = grind arith

first_named : (b : ℕ) (run : List ℕ) → IsTrue (list_all is_name_byte (b ∷ run))
    → is_name_byte b ≡ true
first_named b run all = grind arith

more_named : (b : ℕ) (run : List ℕ) → IsTrue (list_all is_name_byte (b ∷ run))
    → IsTrue (list_all is_name_byte run)
more_named b run all = grind arith

abbrev word_then : List ℕ → ℕ → List ℕ → List Placed
word_then run place more =
    record { token = Word run; place = place } ∷ tokens_from false (place + length run) more

-- the tests on a byte, as variables
one : (place b : ℕ) (more : List ℕ) (s k n w : Bool) → s ≡ false → k ≡ false → n ≡ true → w ≡ false
    → cond s (tokens_from true (place + 1) more)
    (cond k (tokens_from false (place + 1) more)
    (cond (n && w) (in_front b place (tokens_from false (place + 1) more))
    (record { token = cond n (Word (b ∷ [])) (mark b); place = place }
    ∷ tokens_from false (place + 1) more)))
    ≡ record { token = Word (b ∷ []); place = place } ∷ tokens_from false (place + 1) more
one place b more s k n w e f g h = rw (e, f, g, h) refl

several : (place b : ℕ) (rest : List ℕ) (s k n w : Bool) → s ≡ false → k ≡ false → n ≡ true
    → w ≡ true
    → cond s (tokens_from true (place + 1) rest)
    (cond k (tokens_from false (place + 1) rest)
    (cond (n && w) (in_front b place (tokens_from false (place + 1) rest))
    (record { token = cond n (Word (b ∷ [])) (mark b); place = place }
    ∷ tokens_from false (place + 1) rest)))
    ≡ in_front b place (tokens_from false (place + 1) rest)
several place b rest s k n w e f g h = rw (e, f, g, h) refl

pub word_first : (b : ℕ) (run more : List ℕ) (place : ℕ)
    → IsTrue (list_all is_name_byte (b ∷ run)) → begins_word more ≡ false
    → tokens_from false place ((b ∷ run) ++ more) ≡ word_then (b ∷ run) place more
word_first b [] more place all ends =
    let n = first_named b [] all in
    one place b more (b == 59) (is_blank b) (is_name_byte b) (begins_word more) (no_comment b n)
    (no_blank b n) n ends
word_first b (c ∷ run) more place all ends =
    let n = first_named b (c ∷ run) all in
    let after = more_named b (c ∷ run) all in
    let e : place + 1 + length (c ∷ run) ≡ place + length (b ∷ c ∷ run) = omega arith in
    several place b ((c ∷ run) ++ more) (b == 59) (is_blank b) (is_name_byte b) (is_name_byte c)
    (no_comment b n) (no_blank b n) n (first_named c run after)
    ∙ ap (in_front b place) (word_first c run more (place + 1) after ends)
    ∙ ap (λ p. record { token = Word (b ∷ c ∷ run); place = place } ∷ tokens_from false p more) e

split_word : (run more : List ℕ) (place : ℕ) → begins_word (run ++ more) ≡ true
    → IsTrue (list_all is_name_byte run) → begins_word more ≡ false
    → tokens_from false place (run ++ more) ≡ word_then run place more
split_word [] more place begins all ends = absurd (grind (arith, begins, ends))
split_word (b ∷ run) more place begins all ends = word_first b run more place all ends

pub word_at : (bytes : List ℕ) (place size : ℕ) → begins_word bytes ≡ true
    → size ≤ length bytes → IsTrue (list_all is_name_byte (take size bytes))
    → begins_word (drop size bytes) ≡ false
    → tokens_from false place bytes
    ≡ record { token = Word (take size bytes); place = place }
    ∷ tokens_from false (place + size) (drop size bytes)
word_at bytes place size begins within all ends =
    let whole = take-append-drop size bytes in
    let long : length (take size bytes) ≡ size = length-take-le size bytes within in
    let P : List ℕ → Type 0 = λ bs. begins_word bs ≡ true in
    ap (tokens_from false place) (sym whole)
    ∙ split_word (take size bytes) (drop size bytes) place (subst P (sym whole) begins) all ends
    ∙ ap (λ n. record { token = Word (take size bytes); place = place }
    ∷ tokens_from false (place + n) (drop size bytes)) long

-- a run of bytes is a word, where it isn't empty
pub first_word : (bytes : List ℕ) (size : ℕ) → (size ≡ 0 → ⊥) → size ≤ length bytes
    → IsTrue (list_all is_name_byte (take size bytes)) → begins_word (drop size bytes) ≡ false
    → IsFirstWord size bytes
first_word bytes zero some within all ends = absurd (some refl)
first_word [] (suc n) some within all ends = absurd (omega arith)
first_word (b ∷ bs) (suc n) some within all ends =
    record { begins = first_named b (take n bs) all; within = within; word = all; longest = ends }

pub no_word : (bytes : List ℕ) (size : ℕ) → size ≡ 0 → begins_word (drop size bytes) ≡ false
    → begins_word bytes ≡ false
no_word bytes zero none ends = ends
no_word bytes (suc n) none ends = absurd (omega arith)

-- ---- blanks and comments

uncommented : (b : ℕ) → is_blank b ≡ true → (b == 59) ≡ false
uncommented b h = grind arith

passed : (now later other : List Placed) (s k : Bool) → s ≡ false → k ≡ true
    → cond s now (cond k later other) ≡ later
passed now later other s k e f = rw (e, f) refl

pub blank_step : (b place : ℕ) (rest : List ℕ) → is_blank b ≡ true
    → tokens_from false place (b ∷ rest) ≡ tokens_from false (place + 1) rest
blank_step b place rest h =
    passed (tokens_from true (place + 1) rest) (tokens_from false (place + 1) rest)
    (cond (is_name_byte b && begins_word rest)
    (in_front b place (tokens_from false (place + 1) rest))
    (record { token = cond (is_name_byte b) (Word (b ∷ [])) (mark b); place = place }
    ∷ tokens_from false (place + 1) rest)) (b == 59) (is_blank b) (uncommented b h) h

pub at_token : (bytes : List ℕ) → AtByte bytes → begins_comment bytes ≡ false → AtToken bytes
at_token [] at none = at
at_token (b ∷ bs) at none = (none, at)
