-- What is a frame is seen as that frame, whatever follows it.
use Rattle.std.proofs.Common.{◌≡◌, ℕ, ◌+◌, ◌<◌, ◌≤◌, ◌^◌, ◌==◌, ◌&&◌, Bool, true, false, cond, List}
use Rattle.std.proofs.Common.{[], ◌∷◌, ◌++◌, length, take, drop, refl, sym, ap, ◌∙◌, arith}
use Rattle.std.proofs.Common.{append_assoc, append-nil, length-append, le-ltb, ltb-true, ne_eqb}
use Rattle.std.specs.Prelude.{nat_lt, slice_index, slice_range}
use Rattle.std.proofs.lemmas.Bool.{or_from, cond-false}
use Rattle.std.proofs.lemmas.List.{drop-drop}
use Rattle.std.proofs.Math.Seq.{take-append_seam, drop-append_seam}
use Rattle.omos_base.specs.Endian.{little_bytes}
use Rattle.byteorder.specs.Numbers.{little_number-reads_back}
use Rattle.omos_base.specs.Fields.{number_at}
use Rattle.std.proofs.Common.{◌⊎◌, inl, inr}
use Rattle.std.specs.List.{AllByRecursion, flat_map}
use Rattle.omos_wire.specs.declared.request.FrameCause.{FrameCause}
use Rattle.omos_wire.specs.Message.{Message, PutObject, PutBlueprint, Link, Places, Stats, Flush}
use Rattle.omos_wire.specs.Message.{End, body, frame, HasFrame}
use Rattle.omos_wire.specs.Fielded.{field}
use Rattle.omos_wire.specs.Stream.{Cut, Rest, Waiting, Stuck}
use Rattle.omos_wire.specs.Sight.{Whole, Short, Bad, message, sight, with_size, with_kind}
use Rattle.omos_wire.specs.Sight.{with_path}

pass : {A : Type 0} (b : Bool) (x y z : A) → b ≡ false → y ≡ z → cond b x y ≡ z
pass b x y z e h = cond-false b x y e ∙ h

and_false : (x y : Bool) → (x ≡ true → y ≡ false) → (x && y) ≡ false
and_false true y h = h refl
and_false false y h = refl

sight_yes : (bytes : List ℕ) → 4 ≤ length bytes
    → sight bytes ≡ with_size (number_at 4 0 bytes) bytes
unfolding sight
sight_yes bytes h = pass _ _ _ _ (le-ltb (length bytes) 4 h) refl

with_size_yes : (size : ℕ) (bytes : List ℕ) → (size ≡ 0 → ⊥) → size ≤ 2097152 → 5 ≤ length bytes
    → with_size size bytes ≡ with_kind size (slice_index bytes 4) bytes
unfolding with_size
with_size_yes size bytes some most five =
    pass _ _ _ _ (or_from (size == 0) _ (ne_eqb size 0 some) (le-ltb 2097152 size most))
    (pass _ _ _ _ (le-ltb (length bytes) 5 five) refl)

with_kind_yes : (size kind : ℕ) (bytes : List ℕ) → (kind ≡ 0 → ⊥) → (kind ≡ 5 → ⊥) → kind < 7
    → 3 ≤ size → 7 ≤ length bytes
    → with_kind size kind bytes ≡ with_path size kind (number_at 2 5 bytes) bytes
unfolding with_kind
with_kind_yes size kind bytes not0 not5 kinds three seven =
    pass _ _ _ _ (or_from (kind == 0) _ (ne_eqb kind 0 not0) (le-ltb 7 kind (omega arith)))
    (pass _ _ _ _ (or_from (kind == 5) _ (ne_eqb kind 5 not5) (ne_eqb kind 7 (λ e. omega arith)))
    (pass _ _ _ _ (le-ltb size 3 three) (pass _ _ _ _ (le-ltb (length bytes) 7 seven) refl)))

with_path_yes : (size kind count : ℕ) (bytes : List ℕ) → 3 + count ≤ size
    → (2 < kind → size ≤ 3 + count) → 4 + size ≤ length bytes
    → with_path size kind count bytes
    ≡ Whole (message kind (slice_range bytes 7 (7 + count))
    (slice_range bytes (7 + count) (4 + size))) (4 + size)
unfolding with_path
with_path_yes size kind count bytes low exact high =
    pass _ _ _ _
    (or_from (nat_lt size (3 + count)) _ (le-ltb size (3 + count) low)
    (and_false (nat_lt 2 kind) _
    (λ above. le-ltb (3 + count) size (exact (ltb-true 2 kind above)))))
    (pass _ _ _ _ (le-ltb (length bytes) (4 + size) high) refl)

path_seen : (a b c d k e f : ℕ) (P R rest : List ℕ) (size : ℕ)
    → number_at 4 0 (a ∷ b ∷ c ∷ d ∷ k ∷ e ∷ f ∷ ((P ++ R) ++ rest)) ≡ size
    → number_at 2 5 (a ∷ b ∷ c ∷ d ∷ k ∷ e ∷ f ∷ ((P ++ R) ++ rest)) ≡ length P
    → size ≡ 3 + length P + length R → size ≤ 2097152
    → (k ≡ 0 → ⊥) → (k ≡ 5 → ⊥) → k < 7 → (2 < k → R ≡ [])
    → sight (a ∷ b ∷ c ∷ d ∷ k ∷ e ∷ f ∷ ((P ++ R) ++ rest)) ≡ Whole (message k P R) (4 + size)
path_seen a b c d k e f P R rest size four two sum most not0 not5 kinds none =
    let tail : List ℕ = (P ++ R) ++ rest in
    let bytes : List ℕ = a ∷ b ∷ c ∷ d ∷ k ∷ e ∷ f ∷ tail in
    let long : length tail ≡ length P + length R + length rest = length-append (P ++ R) rest
    ∙ ap (λ (n : ℕ). n + length rest) (length-append P R) in
    let exact : 2 < k → size ≤ 3 + length P = λ above. omega (arith, ap length (none above)) in
    let front : slice_range bytes 7 (7 + length P) ≡ P =
    ap (λ (n : ℕ). take n tail) (omega arith) ∙ ap (take (length P)) (append_assoc P R rest)
    ∙ take-append_seam P (R ++ rest) in
    let after : drop (7 + length P) bytes ≡ R ++ rest =
    sym (drop-drop (length P) 7 bytes) ∙ ap (drop (length P)) (append_assoc P R rest)
    ∙ drop-append_seam P (R ++ rest) in
    let back : slice_range bytes (7 + length P) (4 + size) ≡ R =
    ap (λ (n : ℕ). take n (drop (7 + length P) bytes)) (omega arith) ∙ ap (take (length R)) after
    ∙ take-append_seam R rest in
    sight_yes bytes (omega arith) ∙ ap (λ (n : ℕ). with_size n bytes) four
    ∙ with_size_yes size bytes (λ e. omega arith) most (omega arith)
    ∙ with_kind_yes size k bytes not0 not5 kinds (omega arith) (omega arith)
    ∙ ap (λ (n : ℕ). with_path size k n bytes) two
    ∙ with_path_yes size k (length P) bytes (omega arith) exact (omega arith)
    ∙ ap (λ (x : List ℕ). Whole (message k x (slice_range bytes (7 + length P) (4 + size)))
    (4 + size)) front
    ∙ ap (λ (x : List ℕ). Whole (message k P x) (4 + size)) back

path_again : (k : ℕ) (P R rest : List ℕ) (m : Message) → message k P R ≡ m
    → body m ≡ k ∷ field P ++ R → length P < 2 ^ 16 → length (body m) ≤ 2097152
    → (k ≡ 0 → ⊥) → (k ≡ 5 → ⊥) → k < 7 → (2 < k → R ≡ [])
    → sight (frame m ++ rest) ≡ Whole m (length (frame m))
unfolding frame number_at
path_again k P R rest m is same short most not0 not5 kinds none =
    let B : List ℕ = k ∷ field P ++ R in
    let size : ℕ = 3 + length P + length R in
    let long : length B ≡ size = omega (arith, length-append P R) in
    let fr : frame m ≡ little_bytes 4 size ++ B =
    ap (λ (s : List ℕ). little_bytes 4 (length s) ++ s) same
    ∙ ap (λ (n : ℕ). little_bytes 4 n ++ B) long in
    let small : size ≤ 2097152 = omega (arith, ap length same) in
    ap (λ (s : List ℕ). sight (s ++ rest)) fr
    ∙ path_seen _ _ _ _ k _ _ P R rest size
    (little_number-reads_back 4 size (k ∷ (little_bytes 2 (length P) ++ ((P ++ R) ++ rest)))
    (omega arith)) (little_number-reads_back 2 (length P) ((P ++ R) ++ rest) (omega arith)) refl
    small not0 not5 kinds none
    ∙ ap (λ (x : Message). Whole x (4 + size)) is ∙ ap (Whole m) (omega (arith, ap length fr, long))

pub sight_frame : (m : Message) (rest : List ℕ) → HasFrame m
    → sight (frame m ++ rest) ≡ Whole m (length (frame m))
unfolding frame with_kind number_at
sight_frame (PutObject path object) rest fits =
    path_again 1 path object rest (PutObject path object) refl refl fits.path fits.size (λ e. cc)
    (λ e. cc) (omega arith) (λ h. absurd (omega arith))
sight_frame (PutBlueprint path text) rest fits =
    path_again 2 path text rest (PutBlueprint path text) refl refl fits.path fits.size (λ e. cc)
    (λ e. cc) (omega arith) (λ h. absurd (omega arith))
sight_frame (Link path) rest fits =
    path_again 3 path [] rest (Link path) refl (sym (append-nil (3 ∷ field path))) fits.path
    fits.size (λ e. cc) (λ e. cc) (omega arith) (λ h. refl)
sight_frame (Places path) rest fits =
    path_again 4 path [] rest (Places path) refl (sym (append-nil (4 ∷ field path))) fits.path
    fits.size (λ e. cc) (λ e. cc) (omega arith) (λ h. refl)
sight_frame Stats rest fits =
    let bytes : List ℕ = 1 ∷ 0 ∷ 0 ∷ 0 ∷ 5 ∷ rest in
    sight_yes bytes (omega arith) ∙ with_size_yes 1 bytes (λ e. cc) (omega arith) (omega arith)
sight_frame (Flush path) rest fits =
    path_again 6 path [] rest (Flush path) refl (sym (append-nil (6 ∷ field path))) fits.path
    fits.size (λ e. cc) (λ e. cc) (omega arith) (λ h. refl)
sight_frame End rest fits =
    let bytes : List ℕ = 1 ∷ 0 ∷ 0 ∷ 0 ∷ 7 ∷ rest in
    sight_yes bytes (omega arith) ∙ with_size_yes 1 bytes (λ e. cc) (omega arith) (omega arith)

-- Two readings of one stream are one: the same frames, and the same rest.
frame_apart : (m : Message) (rest tail : List ℕ) → HasFrame m → sight tail ≡ Short
    ⊎ ((x : FrameCause) × (sight tail ≡ Bad x)) → tail ≡ frame m ++ rest → ⊥
frame_apart m rest tail fits (inl short) e = let seen : sight tail ≡ Whole m (length (frame m)) =
    ap sight e ∙ sight_frame m rest fits in absurd (cc)
frame_apart m rest tail fits (inr bad) e =
    let seen : sight tail ≡ Whole m (length (frame m)) = ap sight e ∙ sight_frame m rest fits in
    let wrong : sight tail ≡ Bad bad.0 = bad.1 in absurd (cc)

pub same_first : (m n : Message) (xs ys : List ℕ) → HasFrame m → HasFrame n
    → frame m ++ xs ≡ frame n ++ ys → (m ≡ n) × (xs ≡ ys)
same_first m n xs ys fits fits' e =
    let seen : Whole m (length (frame m)) ≡ Whole n (length (frame n)) = sym (sight_frame m xs fits)
    ∙ ap sight e ∙ sight_frame n ys fits' in
    let same : m ≡ n = cc in
    let long : length (frame m) ≡ length (frame n) = cc in (
      same,
      sym (drop-append_seam (frame m) xs) ∙ ap (λ (k : ℕ). drop k (frame m ++ xs)) long
          ∙ ap (drop (length (frame n))) e ∙ drop-append_seam (frame n) ys,
    )

-- the tail has no frame at its front
abbrev pub IsDone : List ℕ → Type 0
IsDone tail = (sight tail ≡ Short) ⊎ ((x : FrameCause) × (sight tail ≡ Bad x))

pub starts_only : (stream xs ys : List ℕ) (fs gs : List Message) → AllByRecursion HasFrame fs
    → AllByRecursion HasFrame gs → IsDone xs → IsDone ys
    → stream ≡ flat_map frame fs ++ xs → stream ≡ flat_map frame gs ++ ys → (fs ≡ gs) × (xs ≡ ys)
starts_only stream xs ys [] [] a b p q d e = (refl, sym d ∙ e)
starts_only stream xs ys [] (g ∷ gs) a b p q d e =
    absurd (frame_apart g (flat_map frame gs ++ ys) xs b.0 p
    (sym d ∙ e ∙ append_assoc (frame g) (flat_map frame gs) ys))
starts_only stream xs ys (f ∷ fs) [] a b p q d e =
    absurd (frame_apart f (flat_map frame fs ++ xs) ys a.0 q
    (sym e ∙ d ∙ append_assoc (frame f) (flat_map frame fs) xs))
starts_only stream xs ys (f ∷ fs) (g ∷ gs) a b p q d e =
    let one = same_first f g (flat_map frame fs ++ xs) (flat_map frame gs ++ ys) a.0 b.0
    (sym (append_assoc (frame f) (flat_map frame fs) xs) ∙ sym d ∙ e
    ∙ append_assoc (frame g) (flat_map frame gs) ys) in
    let rest = starts_only (flat_map frame fs ++ xs) xs ys fs gs a.1 b.1 p q refl one.1 in
    let heads : f ≡ g = one.0 in
    let tails : fs ≡ gs = rest.0 in
    (ap (λ (h : Message). h ∷ fs) heads ∙ ap (λ (t : List Message). g ∷ t) tails, rest.1)

pub cut_only : (stream : List ℕ) (fs gs : List Message) (r q : Rest) → Cut stream fs r
    → Cut stream gs q → (fs ≡ gs) × (r ≡ q)
cut_only stream fs gs (Waiting n) (Waiting m) a b =
    let s = starts_only stream a.tail b.tail fs gs a.starts.each b.starts.each (inl a.ends.0)
    (inl b.ends.0) a.starts.whole b.starts.whole in
    (s.0, ap Waiting (a.ends.1 ∙ ap length s.1 ∙ sym b.ends.1))
cut_only stream fs gs (Stuck p c) (Stuck p' c') a b =
    let s = starts_only stream a.tail b.tail fs gs a.starts.each b.starts.each (inr (c, a.ends.0))
    (inr (c', b.ends.0)) a.starts.whole b.starts.whole in
    let bad : Bad c ≡ Bad c' = sym a.ends.0 ∙ ap sight s.1 ∙ b.ends.0 in
    let causes : c ≡ c' = cc in
    let places : p ≡ p' = a.ends.1 ∙ ap (λ (x : List Message). length (flat_map frame x)) s.0
    ∙ sym b.ends.1 in
    (s.0, ap (λ (x : ℕ). Stuck x c) places ∙ ap (λ (x : FrameCause). Stuck p' x) causes)
cut_only stream fs gs (Waiting n) (Stuck p c) a b =
    let s = starts_only stream a.tail b.tail fs gs a.starts.each b.starts.each (inl a.ends.0)
    (inr (c, b.ends.0)) a.starts.whole b.starts.whole in
    let bad : Short ≡ Bad c = sym a.ends.0 ∙ ap sight s.1 ∙ b.ends.0 in absurd (cc)
cut_only stream fs gs (Stuck p c) (Waiting n) a b =
    let s = starts_only stream a.tail b.tail fs gs a.starts.each b.starts.each (inr (c, a.ends.0))
    (inl b.ends.0) a.starts.whole b.starts.whole in
    let bad : Bad c ≡ Short = sym a.ends.0 ∙ ap sight s.1 ∙ b.ends.0 in absurd (cc)

-- no frame begins another
pub apart : (m n : Message) (rest : List ℕ) → HasFrame m → HasFrame n → frame n ≡ frame m ++ rest
    → (n ≡ m) × (rest ≡ [])
apart m n rest fits fits' e =
    let one = same_first m n rest [] fits fits' (sym e ∙ sym (append-nil (frame n))) in
    (sym one.0, one.1)
