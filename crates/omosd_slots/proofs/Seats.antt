-- Seats that are told one after the other.
use Rattle.std.proofs.Common.{◌≡◌, ℕ, ◌+◌, ◌<◌, ◌≤◌, List, [], ◌∷◌, ◌++◌, length, get_or, All, refl}
use Rattle.std.proofs.Common.{sym, ap, ◌∙◌, subst, arith, length-append}
use native.Mathlib.Numerals.{unary_clauses}
use Rattle.worker_line.specs.Drawn.{Line, Drawn, seat_joined}
use Rattle.omosd_slots.specs.Slots.{TellAll, got_of}
use Rattle.omosd_slots.specs.Slots.{DrawsFrom, IsSeatTold, seat_missed, seat_parts, slots_total}

pub record Gathers (line : Line) (workers : ℕ) (all : List Drawn) (into : Drawn)
    (rest : List Drawn) : Type 0 where
  pub rest_of : All (DrawsFrom line workers) rest
  pub into_of : DrawsFrom line workers into
  pub got : got_of into + slots_total got_of rest ≡ slots_total got_of all
  pub missed : seat_missed into + slots_total seat_missed rest ≡ slots_total seat_missed all
  pub parts : seat_parts into + slots_total seat_parts rest ≡ slots_total seat_parts all

tail_of : (line : Line) (workers : ℕ) (x : Drawn) (xs : List Drawn)
    → All (DrawsFrom line workers) (x ∷ xs) → DrawsFrom line workers x
    × All (DrawsFrom line workers) xs
tail_of line workers x xs a =
    (a 0 x (omega arith), λ k d lt. simp unary_clauses at (a (k + 1) d (omega (arith, lt))))

pub gathers_first : (line : Line) (workers : ℕ) (all : List Drawn) (x : Drawn) (xs : List Drawn)
    → All (DrawsFrom line workers) all → all ≡ x ∷ xs → Gathers line workers all x xs
gathers_first line workers all x xs a is =
    let t = tail_of line workers x xs (subst (All (DrawsFrom line workers)) is a) in
    record {
      rest_of = t.1;
      into_of = t.0;
      got = ap (slots_total got_of) (sym is);
      missed = ap (slots_total seat_missed) (sym is);
      parts =
          ap (slots_total seat_parts) (sym is);
    }

pub gathers_next : (line : Line) (workers : ℕ) (all : List Drawn) (into : Drawn) (rest : List Drawn)
    (x : Drawn) (xs : List Drawn) (next : Drawn) → Gathers line workers all into rest
    → rest ≡ x ∷ xs → next ≡ seat_joined into x → Gathers line workers all next xs
gathers_next line workers all into rest x xs next g is j =
    let t = tail_of line workers x xs (subst (All (DrawsFrom line workers)) is g.rest_of) in
    let a = g.got in let b = g.missed in let c = g.parts in
    let ra = ap (slots_total got_of) is in let rb = ap (slots_total seat_missed) is in let rc =
    ap (slots_total seat_parts) is in
    let ja = ap got_of j in let jb = ap seat_missed j in let jc = ap seat_parts j in
    let len = length-append into.got x.got in
    record {
      rest_of = t.1;
      into_of = (
        ap (λ (d : Drawn). d.line) j ∙ g.into_of.0,
        ap (λ (d : Drawn). d.workers) j
            ∙ g.into_of.1,
      );
      got = omega (arith, a, ra, ja, len);
      missed = omega (arith, b, rb, jb);
      parts = omega (arith, c, rc, jc);
    }

pub first_told : (all : List Drawn) (x : Drawn) (xs : List Drawn) → All IsSeatTold all
    → all ≡ x ∷ xs → IsSeatTold x
first_told all x xs told is = subst (All IsSeatTold) is told 0 x (omega arith)

-- what the last seat tells is told of all
pub tells_all : (line : Line) (workers : ℕ) (all : List Drawn) (into : Drawn) (rest : List Drawn)
    → Gathers line workers all into rest → length rest ≡ 0 → IsSeatTold into
    → TellAll line workers all
tells_all line workers all into (x ∷ xs) g none t = absurd (omega (arith, none))
tells_all line workers all into [] g none t =
    let same : into.line.sessions ≡ line.sessions = ap (λ (l : Line). l.sessions) g.into_of.0 in
    let count = g.into_of.1 in
    let a = g.got in let b = g.missed in let c = g.parts in
    let few = t.0 in
    record {
      within = omega (arith, a, few, same);
      all = λ whole some.
          let told = t.1 (omega (arith, b, some)) in
          let each = (told.all (omega (arith, c, whole, count)) (omega (arith, b, some))).0 in
          omega (arith, each, a, same);
    }
