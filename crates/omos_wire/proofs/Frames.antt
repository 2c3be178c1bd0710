-- What is seen at the front of bytes is a frame of theirs.
use Rattle.std.proofs.Common.{◌≡◌, ℕ, zero, suc, ◌+◌, ◌-◌, ◌*◌, ◌<◌, ◌≤◌, ◌^◌, ◌==◌, ◌||◌, ◌&&◌}
use Rattle.std.proofs.Common.{Bool, true, false, cond, List, [], ◌∷◌, ◌++◌, length, take, drop}
use Rattle.std.proofs.Common.{refl, sym, ap, subst, ◌∙◌, arith, append_assoc, append-nil}
use Rattle.std.proofs.Common.{length-append, length-take, length-drop, take-append-drop, ltb-false}
use Rattle.std.proofs.Common.{lt-ltb, eqb-true, ◌⊎◌, inl, inr}
use Rattle.std.specs.Prelude.{nat_lt, slice_index, slice_range}
use Rattle.std.proofs.lemmas.List.{drop-drop}
use Rattle.std.proofs.lemmas.Bool.{or_parts, eqb-false}
use Rattle.omos_base.specs.Endian.{little_bytes, little_number}
use Rattle.omos_base.specs.Fields.{number_at}
use Rattle.omos_wire.specs.declared.request.FrameCause.TheVariants as cause
use Rattle.omos_wire.specs.Message.{Message, Stats, End, body, frame}
use Rattle.omos_wire.specs.Fielded.{field}
use Rattle.omos_wire.specs.Sight.{Whole, Short, Bad, message, sight, with_size, with_kind}
use Rattle.omos_wire.specs.Sight.{with_path}
use Rattle.omos_wire.specs.Found.{IsFramed, Sees}
use Rattle.omos_wire.specs.Sight.{sight_of}
use Rattle.omos_wire.specs.Message.{message_of, HasFrame, path_of_message}
use Rattle.omos_wire.specs.declared.look.Look.{Look}
use Rattle.omos_wire.specs.declared.look.Look.TheVariants as look
use Rattle.omos_wire.proofs.Numbers.{IsBytes, little_two, little_four}

past : {A : Type 0} (b : Bool) (x y z : A) → (x ≡ z → ⊥) → cond b x y ≡ z → (b ≡ false) × (y ≡ z)
past true x y z apart e = absurd (apart e)
past false x y z apart e = (refl, e)

body_of : (kind : ℕ) (path rest : List ℕ) → (kind ≡ 0 → ⊥) → (kind ≡ 5 → ⊥) → kind < 7
    → (2 < kind → rest ≡ []) → body (message kind path rest) ≡ kind ∷ field path ++ rest
body_of zero path rest a b c d = absurd (a refl)
body_of (suc zero) path rest a b c d = refl
body_of (suc (suc zero)) path rest a b c d = refl
body_of (suc (suc (suc zero))) path rest a b c d = rw (d (omega arith), append-nil path) refl
body_of (suc (suc (suc (suc zero)))) path rest a b c d = rw (d (omega arith), append-nil path) refl
body_of (suc (suc (suc (suc (suc zero))))) path rest a b c d = absurd (b refl)
body_of (suc (suc (suc (suc (suc (suc zero)))))) path rest a b c d =
    rw (d (omega arith), append-nil path) refl
body_of (suc (suc (suc (suc (suc (suc (suc k))))))) path rest a b c d = absurd (omega arith)

path_of : (kind : ℕ) (path rest : List ℕ) → (kind ≡ 0 → ⊥) → (kind ≡ 5 → ⊥) → kind < 7
    → path_of_message (message kind path rest) ≡ path
path_of zero path rest a b c = absurd (a refl)
path_of (suc zero) path rest a b c = refl
path_of (suc (suc zero)) path rest a b c = refl
path_of (suc (suc (suc zero))) path rest a b c = refl
path_of (suc (suc (suc (suc zero)))) path rest a b c = refl
path_of (suc (suc (suc (suc (suc zero))))) path rest a b c = absurd (b refl)
path_of (suc (suc (suc (suc (suc (suc zero)))))) path rest a b c = refl
path_of (suc (suc (suc (suc (suc (suc (suc k))))))) path rest a b c = absurd (omega arith)

piece : (bytes : List ℕ) (i j : ℕ) → i ≤ j → drop i bytes ≡ slice_range bytes i j ++ drop j bytes
piece bytes i j h =
    let whole = take-append-drop (j - i) (drop i bytes) in
    let after : drop (j - i) (drop i bytes) ≡ drop j bytes = drop-drop (j - i) i bytes
    ∙ ap (λ (k : ℕ). drop k bytes) (omega arith) in
    sym whole ∙ ap (λ (s : List ℕ). take (j - i) (drop i bytes) ++ s) after

length_piece : (bytes : List ℕ) (i j : ℕ) → i ≤ j → j ≤ length bytes
    → length (slice_range bytes i j) ≡ j - i
length_piece bytes i j h k = omega (arith, length-take (j - i) (drop i bytes), length-drop i bytes)

-- a frame of a kind with a path, from its parts
framed : (a b c d k e f : ℕ) (tail P R after : List ℕ) (size n : ℕ)
    → little_bytes 4 size ≡ a ∷ b ∷ c ∷ d ∷ [] → little_bytes 2 (length P) ≡ e ∷ f ∷ []
    → tail ≡ P ++ (R ++ after) → size ≡ 3 + length P + length R → size ≤ 2097152 → length P < 2 ^ 16
    → (k ≡ 0 → ⊥) → (k ≡ 5 → ⊥) → k < 7 → (2 < k → R ≡ [])
    → (a ∷ b ∷ c ∷ d ∷ k ∷ e ∷ f ∷ tail ≡ frame (message k P R) ++ after)
    × (4 + size ≡ length (frame (message k P R))) × HasFrame (message k P R)
unfolding frame
framed a b c d k e f tail P R after size n four two cut sum most short not0 not5 kinds none =
    let M = message k P R in
    let B = k ∷ field P ++ R in
    let same : body M ≡ B = body_of k P R not0 not5 kinds none in
    let long : length B ≡ size = ap length (ap (λ (s : List ℕ). k ∷ (s ++ P) ++ R) two)
    ∙ omega (arith, length-append P R) in
    let fr : frame M ≡ a ∷ b ∷ c ∷ d ∷ k ∷ e ∷ f ∷ (P ++ R) =
    ap (λ (s : List ℕ). little_bytes 4 (length s) ++ s) same
    ∙ ap (λ (s : ℕ). little_bytes 4 s ++ B) long
    ∙ ap (λ (s : List ℕ). s ++ B) four
    ∙ ap (λ (s : List ℕ). a ∷ b ∷ c ∷ d ∷ k ∷ ((s ++ P) ++ R)) two in (
      ap (λ (s : List ℕ). a ∷ b ∷ c ∷ d ∷ k ∷ e ∷ f ∷ s) (cut ∙ sym (append_assoc P R after))
          ∙ ap (λ (s : List ℕ). s ++ after) (sym fr),
      omega (arith, ap length fr, length-append P R),
      record {
        path = rw (path_of k P R not0 not5 kinds) short;
        size = omega (arith, ap length same);
      },
    )

nil_of : (xs : List ℕ) → length xs ≡ 0 → xs ≡ []
nil_of [] e = refl
nil_of (x ∷ xs) e = absurd (omega arith)

second_false : (x y : Bool) → (x && y) ≡ false → x ≡ true → y ≡ false
second_false true y e t = e
second_false false y e t = absurd (cc)

-- the parts of a sight
whole_of : (bytes : List ℕ) (m k : Message) (n j : ℕ) → Whole m n ≡ Whole k j → IsFramed bytes m n
    → IsFramed bytes k j
whole_of bytes m k n j e h =
    let same : m ≡ k = cc in
    let size : n ≡ j = cc in
    subst (λ (x : Message). IsFramed bytes x j) same (subst (λ (x : ℕ). IsFramed bytes m x) size h)

below_two : (e f : ℕ) → e < 256 → f < 256 → e + 256 * (f + 256 * 0) < 2 ^ 16
below_two e f p q = omega arith

with_path_frame : (bytes : List ℕ) (m : Message) (n : ℕ) → IsBytes bytes → 7 ≤ length bytes
    → number_at 4 0 bytes ≤ 2097152 → (slice_index bytes 4 ≡ 0 → ⊥) → (slice_index bytes 4 ≡ 5 → ⊥)
    → slice_index bytes 4 < 7
    → with_path (number_at 4 0 bytes) (slice_index bytes 4) (number_at 2 5 bytes) bytes ≡ Whole m n
    → IsFramed bytes m n
unfolding with_path number_at
with_path_frame (a ∷ b ∷ c ∷ d ∷ k ∷ e ∷ f ∷ tail) m n ok seven most not0 not5 kinds h =
    let bytes : List ℕ = a ∷ b ∷ c ∷ d ∷ k ∷ e ∷ f ∷ tail in
    let size : ℕ = little_number 4 bytes in
    let count : ℕ = little_number 2 (e ∷ f ∷ tail) in
    let P : List ℕ = slice_range bytes 7 (7 + count) in
    let R : List ℕ = slice_range bytes (7 + count) (4 + size) in
    let p1 = past (nat_lt size (3 + count) || (nat_lt 2 k && nat_lt (3 + count) size))
    (Bad cause.Shape) _ (Whole m n) (λ e. cc) h in
    let p2 = past (nat_lt (length bytes) (4 + size)) Short _ (Whole m n) (λ e. cc) p1.1 in
    let tests = or_parts (nat_lt size (3 + count)) _ p1.0 in
    let low : 3 + count ≤ size = ltb-false size (3 + count) tests.0 in
    let high : 4 + size ≤ length bytes = ltb-false (length bytes) (4 + size) p2.0 in
    let lp : length P ≡ count = length_piece bytes 7 (7 + count) (omega arith) (omega arith)
    ∙ omega arith in
    let lr : length R ≡ size - (3 + count) =
    length_piece bytes (7 + count) (4 + size) (omega arith) (omega arith) ∙ omega arith in
    let two : little_bytes 2 (length P) ≡ e ∷ f ∷ [] = ap (little_bytes 2) lp
    ∙ little_two e f tail (ok 5) (ok 6) in
    let low16 : count < 2 ^ 16 = below_two e f (ok 5) (ok 6) in
    let short : length P < 2 ^ 16 = omega arith in
    let cut : tail ≡ P ++ (R ++ drop (4 + size) bytes) =
    piece bytes 7 (7 + count) (omega arith)
    ∙ ap (λ (s : List ℕ). P ++ s) (piece bytes (7 + count) (4 + size) (omega arith)) in
    let none : 2 < k → R ≡ [] = λ above.
    let exact : size ≤ 3 + count =
    ltb-false (3 + count) size
    (second_false (nat_lt 2 k) (nat_lt (3 + count) size) tests.1 (lt-ltb 2 k above)) in
    nil_of R (omega arith) in
    let parts =
    framed a b c d k e f tail P R (drop (4 + size) bytes) size n
    (little_four a b c d (k ∷ e ∷ f ∷ tail) (ok 0) (ok 1) (ok 2) (ok 3)) two cut (omega arith)
    most short not0 not5 kinds none in
    whole_of bytes (message k P R) m (4 + size) n p2.1
    (record { split = parts.0; size = parts.1; fits = parts.2 })
with_path_frame _ m n ok seven most not0 not5 kinds h = absurd (omega arith)

plain_frame : (bytes : List ℕ) (m : Message) (kind : ℕ) → IsBytes bytes → 5 ≤ length bytes
    → number_at 4 0 bytes ≡ 1
    → slice_index bytes 4 ≡ kind → body m ≡ kind ∷ [] → path_of_message m ≡ [] → IsFramed bytes m 5
unfolding frame number_at
plain_frame (a ∷ b ∷ c ∷ d ∷ k ∷ tail) m kind ok five one is same none =
    let fr : frame m ≡ a ∷ b ∷ c ∷ d ∷ k ∷ [] =
    ap (λ (s : List ℕ). little_bytes 4 (length s) ++ s) same
    ∙ ap (λ (s : ℕ). little_bytes 4 s ++ kind ∷ []) (sym one)
    ∙ ap (λ (s : List ℕ). s ++ kind ∷ [])
    (little_four a b c d (k ∷ tail) (ok 0) (ok 1) (ok 2) (ok 3))
    ∙ ap (λ (s : ℕ). a ∷ b ∷ c ∷ d ∷ s ∷ []) (sym is) in
    record {
      split = ap (λ (s : List ℕ). s ++ tail) (sym fr);
      size = omega (arith, ap length fr);
      fits = record { path = rw none (omega arith); size = rw same (omega arith) };
    }
plain_frame _ m kind ok five one is same none = absurd (omega arith)

plain_kind : (bytes : List ℕ) (m : Message) (n : ℕ) (five_is : Bool) → IsBytes bytes
    → 5 ≤ length bytes → number_at 4 0 bytes ≡ 1
    → (slice_index bytes 4 == 5) ≡ five_is → (slice_index bytes 4 == 5 || slice_index bytes 4 == 7)
    ≡ true
    → Whole (cond five_is Stats End) 5 ≡ Whole m n → IsFramed bytes m n
plain_kind bytes m n true ok five one is either h =
    whole_of bytes Stats m 5 n h (plain_frame bytes Stats 5 ok five one (eqb-true _ 5 is) refl refl)
plain_kind bytes m n false ok five one is either h =
    whole_of bytes End m 5 n h
    (plain_frame bytes End 7 ok five one
    (eqb-true _ 7 (ap (λ (b : Bool). b || slice_index bytes 4 == 7) (sym is) ∙ either)) refl
    refl)

split : {A : Type 0} (b : Bool) (x y z : A) → cond b x y ≡ z → ((b ≡ true) × (x ≡ z))
    ⊎ ((b ≡ false) × (y ≡ z))
split true x y z e = inl (refl, e)
split false x y z e = inr (refl, e)

past_not : {A : Type 0} (b : Bool) (x y z : A) → (y ≡ z → ⊥) → cond b x y ≡ z → (b ≡ true) × (x ≡ z)
past_not true x y z apart e = (refl, e)
past_not false x y z apart e = absurd (apart e)

with_kind_frame : (bytes : List ℕ) (m : Message) (n : ℕ) → IsBytes bytes → 5 ≤ length bytes
    → number_at 4 0 bytes ≤ 2097152
    → with_kind (number_at 4 0 bytes) (slice_index bytes 4) bytes ≡ Whole m n → IsFramed bytes m n
unfolding with_kind
with_kind_frame bytes m n ok five most h =
    let size : ℕ = number_at 4 0 bytes in
    let kind : ℕ = slice_index bytes 4 in
    let p1 = past (kind == 0 || nat_lt 7 kind) (Bad cause.Kind) _ (Whole m n) (λ e. cc) h in
    let kinds = or_parts (kind == 0) (nat_lt 7 kind) p1.0 in
    let not0 : kind ≡ 0 → ⊥ = eqb-false kind 0 kinds.0 in
    let most7 : kind ≤ 7 = ltb-false 7 kind kinds.1 in
    elim (split (kind == 5 || kind == 7) _ _ (Whole m n) p1.1) [
      | inl plain ↦
          let p2 = past_not (size == 1) _ (Bad cause.Shape) (Whole m n) (λ e. cc) plain.1 in
          plain_kind bytes m n (kind == 5) ok five (eqb-true size 1 p2.0) refl plain.0 p2.1
      | inr pathed ↦
          let p2 = past (nat_lt size 3) (Bad cause.Shape) _ (Whole m n) (λ e. cc) pathed.1 in
          let p3 = past (nat_lt (length bytes) 7) Short _ (Whole m n) (λ e. cc) p2.1 in
          let tests = or_parts (kind == 5) (kind == 7) pathed.0 in
          let not5 : kind ≡ 5 → ⊥ = eqb-false kind 5 tests.0 in
          let not7 : kind ≡ 7 → ⊥ = eqb-false kind 7 tests.1 in
          with_path_frame bytes m n ok (ltb-false (length bytes) 7 p3.0) most not0 not5
          (omega arith) p3.1
    ]

-- what is seen to be whole is the frame of that request
pub sight_whole : (bytes : List ℕ) (m : Message) (n : ℕ) → IsBytes bytes → sight bytes ≡ Whole m n
    → IsFramed bytes m n
unfolding sight with_size
sight_whole bytes m n ok h =
    let size : ℕ = number_at 4 0 bytes in
    let p1 = past (nat_lt (length bytes) 4) Short _ (Whole m n) (λ e. cc) h in
    let p2 = past (size == 0 || nat_lt 2097152 size) (Bad cause.Length) _ (Whole m n) (λ e. cc)
    p1.1 in
    let p3 = past (nat_lt (length bytes) 5) Short _ (Whole m n) (λ e. cc) p2.1 in
    with_kind_frame bytes m n ok (ltb-false (length bytes) 5 p3.0)
    (ltb-false 2097152 size (or_parts (size == 0) (nat_lt 2097152 size) p2.0).1) p3.1

pub sees : (l : Look) (bytes : List ℕ) → IsBytes bytes → sight_of l ≡ sight bytes → Sees l bytes
sees (look.Whole r n) bytes ok e = sight_whole bytes (message_of r) n ok (sym e)
sees look.Short bytes ok e = sym e
sees (look.Bad x) bytes ok e = sym e
