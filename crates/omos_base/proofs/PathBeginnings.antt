-- Bytes that begin a path, and where they stop.
use Rattle.std.proofs.Common.{◌≡◌, ℕ, zero, suc, ◌+◌, ◌<◌, ◌≤◌, List, [], ◌∷◌, ◌++◌, inl, inr}
use Rattle.std.proofs.Common.{length, get_or, take, drop, refl, sym, ap, subst, ◌∙◌, append_assoc}
use Rattle.std.proofs.Common.{arith}
use Rattle.std.proofs.lemmas.List.{append-nil, length-append, length-take-le, take-append-drop}
use Rattle.std.proofs.lemmas.List.{take-take, take_more, take_all}
use Rattle.omos_base.specs.Paths.{IsPartByte, AreParts, joined, IsPath, BeginsPath, HasPathFault}
use Rattle.omos_base.specs.declared.path_name.PathFault.TheVariants.{Shape}
use Rattle.omos_base.proofs.PathEndings.{Follows, AreJoined, slash_in_part, after_slash, from_slash}

-- so many parts have begun in these bytes, the last of them with so many bytes: what may follow
-- them is what follows such a beginning
pub record Stands (read : List ℕ) (count size : ℕ) : Type 0 where
  pub few : count ≤ 16
  pub short : size ≤ 64
  pub room : size ≡ 0 → length read < 255
  pub goes_on : (rest : List ℕ) → AreJoined (read ++ rest) → Follows count size rest
  pub comes_back : (rest : List ℕ) → Follows count size rest → AreJoined (read ++ rest)

-- a path begins with a `/`
stands_first : Stands (47 ∷ []) 1 0
stands_first = record {
  few = omega arith;
  short = omega arith;
  room = λ _. omega arith;
  goes_on = λ rest j. after_slash j.0 rest j.1 j.2;
  comes_back = λ rest h. from_slash rest h;
}

-- after a part comes the `/` of the next
stands_slash : (read : List ℕ) (byte count size : ℕ) → byte ≡ 47 → Stands read count size
    → 1 ≤ size → count < 16 → length read < 254 → Stands (read ++ byte ∷ []) (count + 1) 0
stands_slash read byte count size e s some few room = record {
  few = omega arith;
  short = omega arith;
  room = λ _. omega (arith, length-append read (byte ∷ []));
  goes_on = λ rest j.
      let h : Follows count size (byte ∷ rest) = s.goes_on (byte ∷ rest) (rw append_assoc at j) in
      elim h [ inl w ↦ w.3 | inr w ↦ absurd (slash_in_part byte e w.0) ];
  comes_back = λ rest h.
      rw append_assoc (s.comes_back (byte ∷ rest) (inl (e, some, few, h)));
}

-- a part goes on
stands_byte : (read : List ℕ) (byte count size : ℕ) → IsPartByte byte → Stands read count size
    → size < 64 → Stands (read ++ byte ∷ []) count (size + 1)
stands_byte read byte count size letter s short = record {
  few = s.few;
  short = omega arith;
  room = λ (z : size + 1 ≡ 0). absurd (omega arith);
  goes_on = λ rest j.
      let h : Follows count size (byte ∷ rest) = s.goes_on (byte ∷ rest) (rw append_assoc at j) in
      elim h [ inl w ↦ absurd (slash_in_part byte w.0 letter) | inr w ↦ w.2 ];
  comes_back = λ rest h.
      rw append_assoc (s.comes_back (byte ∷ rest) (inr (letter, short, h)));
}

letter : IsPartByte 97
letter = inl (inr (omega arith, omega arith))

-- with an `a` after a `/`, and else with nothing, the bytes are a path
begins : (read : List ℕ) (count size : ℕ) → length read ≤ 255 → Stands read count size
    → BeginsPath read
begins read count zero fits s =
    let h : Follows count 0 (97 ∷ []) = inr (letter, omega arith, omega arith) in
    let j : AreJoined (read ++ 97 ∷ []) = s.comes_back (97 ∷ []) h in
    (97 ∷ [], (j.0, j.1, j.2, omega (arith, length-append read (97 ∷ []), s.room refl)))
begins read count (suc n) fits s =
    let j : AreJoined (read ++ []) = s.comes_back [] (omega arith) in
    ([], (j.0, j.1, j.2, rw append-nil fits))

begins_before : (whole : List ℕ) (n : ℕ) → BeginsPath whole → BeginsPath (take n whole)
begins_before whole n b =
    let P : List ℕ → Type 0 = IsPath in
    let split = append_assoc (take n whole) (drop n whole) b.0 in
    let same : take n whole ++ (drop n whole ++ b.0) ≡ whole ++ b.0 =
    sym split ∙ ap (λ w. w ++ b.0) (take-append-drop n whole) in
    (drop n whole ++ b.0, subst P (sym same) b.1)

no_path : (read : List ℕ) (byte count size : ℕ) → Stands read count size
    → ((rest : List ℕ) → length read + length rest < 255 → Follows count size (byte ∷ rest) → ⊥)
    → BeginsPath (read ++ byte ∷ []) → ⊥
no_path read byte count size s none b =
    let p : IsPath (read ++ byte ∷ b.0) = rw append_assoc at b.1 in
    let short : length read + length b.0 < 255 =
    omega (arith, p.3, length-append read (byte ∷ b.0)) in
    none b.0 short (s.goes_on (byte ∷ b.0) (p.0, p.1, p.2))

-- where no rest with the next byte ends a path, the bytes stop there
stops : (bytes : List ℕ) (place count size : ℕ) → place < length bytes → length bytes ≤ 255
    → Stands (take place bytes) count size
    → ((rest : List ℕ) → place + length rest < 255
    → Follows count size (get_or bytes place 0 ∷ rest) → ⊥)
    → HasPathFault bytes (Shape place)
stops bytes place count size within fits s none =
    let read : List ℕ = take place bytes in
    let long : length read ≡ place = length-take-le place bytes (omega arith) in
    let more : take (place + 1) bytes ≡ read ++ get_or bytes place 0 ∷ [] =
    take_more bytes place 0 within in
    let whole : BeginsPath read = begins read count size (omega arith) s in (
      fits,
      inl (
        within,
        (λ b. no_path read (get_or bytes place 0) count size s
            (λ rest short h. none rest (omega arith) h) (rw more at b)),
        λ earlier before.
            let same : take (earlier + 1) read ≡ take (earlier + 1) bytes =
            take-take (earlier + 1) place bytes (omega arith) in
            rw same at (begins_before read (earlier + 1) whole),
      ),
    )

none_past_slash : (rest : List ℕ) (count : ℕ) → length rest ≡ 0 → Follows count 0 rest → ⊥
none_past_slash [] count e h = omega arith
none_past_slash (byte ∷ rest) count e h = omega arith

-- no `/` comes after another, after the 16th part, or as the last byte that a path may have
pub stops_at_slash : (bytes : List ℕ) (place count size : ℕ) → place < length bytes
    → length bytes ≤ 255 → get_or bytes place 0 ≡ 47 → Stands (take place bytes) count size
    → (1 ≤ size → count < 16 → place < 254 → ⊥) → HasPathFault bytes (Shape place)
stops_at_slash bytes place count size within fits e s barred =
    stops bytes place count size within fits s (λ rest short h.
    elim h [
      | inl w ↦
          let far : place < 254 → ⊥ = barred w.1 w.2 in
          none_past_slash rest (count + 1) (omega arith) w.3
      | inr w ↦ slash_in_part (get_or bytes place 0) e w.0
    ])

-- no other byte comes after 64 of a part, and none that a part may not have
pub stops_at_byte : (bytes : List ℕ) (place count size : ℕ) → place < length bytes
    → length bytes ≤ 255 → (get_or bytes place 0 ≡ 47 → ⊥) → Stands (take place bytes) count size
    → (size < 64 → IsPartByte (get_or bytes place 0) → ⊥) → HasPathFault bytes (Shape place)
stops_at_byte bytes place count size within fits e s barred =
    stops bytes place count size within fits s (λ rest short h.
    elim h [ inl w ↦ e w.0 | inr w ↦ barred w.1 w.0 ])

head_is_slash : (parts : List (List ℕ)) (byte : ℕ) (rest : List ℕ) → byte ∷ rest ≡ joined parts
    → byte ≡ 47
head_is_slash [] byte rest is = cc
head_is_slash (part ∷ parts) byte rest is = cc

no_empty_path : (parts : List (List ℕ)) → AreParts parts → [] ≡ joined parts → ⊥
no_empty_path [] are is = omega arith
no_empty_path (part ∷ parts) are is = cc

-- bytes that do not begin with a `/` stop at once
pub stops_at_once : (bytes : List ℕ) → length bytes ≤ 255
    → (0 < length bytes → get_or bytes 0 0 ≡ 47 → ⊥) → HasPathFault bytes (Shape 0)
stops_at_once [] fits none =
    let slash : BeginsPath (47 ∷ []) = begins (47 ∷ []) 1 0 (omega arith) stands_first in
    (fits, inr (refl, begins_before (47 ∷ []) 0 slash, λ p. no_empty_path p.0 p.1 p.2))
stops_at_once (byte ∷ bytes) fits none = (
  fits,
  inl (
    omega arith,
    (λ b. none (omega arith) (head_is_slash b.1.0 byte b.0 b.1.2)),
    λ earlier before. absurd (omega arith),
  ),
)

-- bytes that end with a `/` end early
pub ends_early : (bytes : List ℕ) (place count size : ℕ) → length bytes ≤ place
    → length bytes ≤ 255 → Stands (take place bytes) count size → size ≡ 0
    → HasPathFault bytes (Shape (length bytes))
ends_early bytes place count size past fits s e =
    let P : List ℕ → Type 0 = λ read. Stands read count size in
    let t : Stands bytes count size = subst P (take_all place bytes past) s in (
      fits,
      inr (
        refl,
        begins bytes count size fits t,
        λ p.
            let h : Follows count size [] = t.goes_on [] (rw append-nil (p.0, p.1, p.2)) in
            omega arith,
      ),
    )

-- bytes that end in a part are a path
pub is_path : (bytes : List ℕ) (place count size : ℕ) → length bytes ≤ place
    → length bytes ≤ 255 → Stands (take place bytes) count size → 1 ≤ size → IsPath bytes
is_path bytes place count size past fits s some =
    let P : List ℕ → Type 0 = λ read. Stands read count size in
    let t : Stands bytes count size = subst P (take_all place bytes past) s in
    let j : AreJoined bytes = rw append-nil at (t.comes_back [] some) in
    (j.0, j.1, j.2, fits)

pub stands_begun : (bytes : List ℕ) → 0 < length bytes → get_or bytes 0 0 ≡ 47
    → Stands (take 1 bytes) 1 0
stands_begun [] some e = absurd (omega arith)
stands_begun (byte ∷ bytes) some e = rw e stands_first

pub stands_more_slash : (bytes : List ℕ) (place count size : ℕ) → place < length bytes
    → get_or bytes place 0 ≡ 47 → Stands (take place bytes) count size
    → 1 ≤ size → count < 16 → place < 254 → Stands (take (place + 1) bytes) (count + 1) 0
stands_more_slash bytes place count size within e s some few room =
    let read : List ℕ = take place bytes in
    let long : length read ≡ place = length-take-le place bytes (omega arith) in
    let more = stands_slash read (get_or bytes place 0) count size e s some few (omega arith) in
    rw (take_more bytes place 0 within) more

pub stands_more_byte : (bytes : List ℕ) (place count size : ℕ) → place < length bytes
    → IsPartByte (get_or bytes place 0) → Stands (take place bytes) count size → size < 64
    → Stands (take (place + 1) bytes) count (size + 1)
stands_more_byte bytes place count size within letter s short =
    let more = stands_byte (take place bytes) (get_or bytes place 0) count size letter s short in
    rw (take_more bytes place 0 within) more
