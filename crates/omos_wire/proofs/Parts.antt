-- Placements that are written in pieces.
use Rattle.std.proofs.Common.{◌≡◌, ℕ, ◌+◌, ◌*◌, ◌≤◌, List, [], ◌∷◌, ◌++◌, length, map, take, drop}
use Rattle.std.proofs.Common.{Option, refl, ap, sym, ◌∙◌, subst, arith, append_assoc, append-nil}
use Rattle.std.proofs.Common.{length-append, take-append-drop}
use Rattle.std.proofs.lemmas.List.{length-map, take_all}
use Rattle.std.proofs.Math.Seq.{take-add}
use Rattle.std.specs.List.{flat_map}
use Rattle.std.specs.Io.KnownBytes.{Appends}
use Rattle.omos_wire.specs.Answer.{Places, longest_reply, reply_frame, span_bytes, wire_span}
use Rattle.omos_base.specs.Endian.{little_bytes}
use Rattle.omos_model.specs.declared.placement.Placement.{Placement}
use Rattle.omos_outside.specs.Sent.{WrotePart}
use Rattle.omos_outside.proofs.Known.{Appends-then}
use Rattle.omos_outside.proofs.Written.{part_front, part_after}

abbrev pub bytes_of : List Placement → List ℕ
bytes_of ps = flat_map span_bytes (map wire_span ps)

pub bytes_of-append : (xs ys : List Placement) → bytes_of (xs ++ ys) ≡ bytes_of xs ++ bytes_of ys
bytes_of-append [] ys = refl
bytes_of-append (x ∷ xs) ys =
    ap (λ (s : List ℕ). span_bytes (wire_span x) ++ s) (bytes_of-append xs ys)
    ∙ sym (append_assoc (span_bytes (wire_span x)) (bytes_of xs) (bytes_of ys))

pub length-bytes_of : (ps : List Placement) → length (bytes_of ps) ≡ 12 * length ps
length-bytes_of [] = refl
length-bytes_of (p ∷ ps) =
    omega (arith, length-append (span_bytes (wire_span p)) (bytes_of ps), length-bytes_of ps)

-- one more at the end
pub bytes_of-last : (ps : List Placement) (p : Placement)
    → bytes_of (ps ++ p ∷ []) ≡ bytes_of ps ++ span_bytes (wire_span p)
bytes_of-last ps p = bytes_of-append ps (p ∷ [])
    ∙ ap (λ (s : List ℕ). bytes_of ps ++ s) (append-nil (span_bytes (wire_span p)))

pub regroup_two : (a b c : List ℕ) → (a ++ b) ++ c ≡ a ++ (b ++ c)
regroup_two a b c = append_assoc a b c

pub regroup_three : (a b c d : List ℕ) → ((a ++ b) ++ c) ++ d ≡ a ++ (b ++ (c ++ d))
regroup_three a b c d = append_assoc (a ++ b) c d ∙ append_assoc a b (c ++ d)

pub more_taken : (ps piece rest : List Placement) (done m : ℕ) → rest ≡ drop done ps
    → piece ≡ take m rest → length piece ≡ m
    → take (done + length piece) ps ≡ take done ps ++ piece
more_taken ps piece rest done m behind front long =
    ap (λ (k : ℕ). take (done + k) ps) long ∙ take-add done m ps
    ∙ ap (λ (s : List Placement). take done ps ++ s) (ap (take m) (sym behind) ∙ sym front)

-- a piece more is written
pub spans_more : (a b c : Option (List ℕ)) (ps piece rest : List Placement) (done m : ℕ)
    → rest ≡ drop done ps → piece ≡ take m rest → length piece ≡ m
    → Appends a b (bytes_of (take done ps)) → Appends b c (bytes_of piece)
    → Appends a c (bytes_of (take (done + length piece) ps))
spans_more a b c ps piece rest done m behind front long before now =
    subst (λ (s : List Placement). Appends a c (bytes_of s))
    (sym (more_taken ps piece rest done m behind front long))
    (subst (Appends a c) (sym (bytes_of-append (take done ps) piece))
    (Appends-then a b c (bytes_of (take done ps)) (bytes_of piece) before now))

-- the sink failed within a piece
pub spans_failed : (a b c : Option (List ℕ)) (ps piece rest : List Placement) (done m : ℕ)
    → rest ≡ drop done ps → piece ≡ take m rest
    → Appends a b (bytes_of (take done ps)) → WrotePart b c (bytes_of piece)
    → WrotePart a c (bytes_of ps)
spans_failed a b c ps piece rest done m behind front before part =
    let cut : rest ≡ piece ++ drop m rest = sym (take-append-drop m rest)
    ∙ ap (λ (s : List Placement). s ++ drop m rest) (sym front) in
    let whole : ps ≡ take done ps ++ (piece ++ drop m rest) =
    sym (take-append-drop done ps)
    ∙ ap (λ (s : List Placement). take done ps ++ s) (sym behind ∙ cut) in
    let bytes : bytes_of ps ≡ bytes_of (take done ps)
    ++ (bytes_of piece ++ bytes_of (drop m rest)) =
    ap bytes_of whole ∙ bytes_of-append (take done ps) (piece ++ drop m rest)
    ∙ ap (λ (s : List ℕ). bytes_of (take done ps) ++ s) (bytes_of-append piece (drop m rest)) in
    subst (WrotePart a c) (sym bytes)
    (part_after a b c (bytes_of (take done ps)) (bytes_of piece ++ bytes_of (drop m rest)) before
    (part_front b c (bytes_of piece) (bytes_of (drop m rest)) part))

-- the frame of a list of placements, by its pieces
pub places_frame : (ps : List Placement)
    → reply_frame (Places (map wire_span ps))
    ≡ (little_bytes 4 (5 + 12 * length ps) ++ 132 ∷ little_bytes 4 (length ps)) ++ bytes_of ps
unfolding reply_frame
places_frame ps =
    let size : length (132 ∷ little_bytes 4 (length (map wire_span ps)) ++ bytes_of ps)
    ≡ 5 + 12 * length ps = omega (arith, length-bytes_of ps) in
    ap (λ (n : ℕ). little_bytes 4 n ++ 132 ∷ little_bytes 4 (length (map wire_span ps))
    ++ bytes_of ps) size
    ∙ ap (λ (n : ℕ). little_bytes 4 (5 + 12 * length ps) ++ 132 ∷ little_bytes 4 n ++ bytes_of ps)
    (length-map ps wire_span)

-- it fits where its list does
pub places_fit : (ps : List Placement) → 5 + 12 * length (map wire_span ps) ≤ longest_reply
    → 5 + 12 * length ps ≤ longest_reply
places_fit ps fits = omega (arith, length-map ps wire_span, fits)

-- the frame of a list of placements, whose head and placements are all there
pub places_joined : (ps : List Placement) (k : ℕ) (items : List ℕ) → length ps ≤ k
    → items ≡ (little_bytes 4 (5 + 12 * length ps) ++ 132 ∷ little_bytes 4 (length ps))
    ++ bytes_of (take k ps)
    → items ≡ reply_frame (Places (map wire_span ps))
places_joined ps k items all is =
    is
    ∙ ap (λ (s : List Placement).
    (little_bytes 4 (5 + 12 * length ps) ++ 132 ∷ little_bytes 4 (length ps)) ++ bytes_of s)
    (take_all k ps all)
    ∙ sym (places_frame ps)
