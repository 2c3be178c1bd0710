-- Links that were served, one more at a time.
use Rattle.std.proofs.Common.{◌≡◌, ℕ, ◌+◌, ◌<◌, ◌≤◌, false, List, [], ◌∷◌, ◌++◌, length, map}
use Rattle.std.proofs.Common.{Option, None, Some, refl, sym, ap, ◌∙◌, subst, arith, append-nil}
use Rattle.std.proofs.Common.{append_assoc, length-append, min, true≢false, ◌^◌, ◌-◌}
use Rattle.std.specs.Prelude.{IfSome, IsSome}
use Rattle.omos_outside.specs.Faults.{Rose}
use Rattle.std.specs.List.{flat_map}
use Rattle.std.specs.Io.KnownBytes.{Appends}
use Rattle.turn_lock.specs.Steps.{steps_by}
use Rattle.turn_lock.specs.Knowledge.{Knowledge, TableId}
use Rattle.omos_outside.specs.Links.{GivenBack, IsFresh, link_of}
use Rattle.omos_outside.specs.Stream.{Stream, Gives}
use Rattle.history_book.specs.declared.step.Step.{Step}
use Rattle.history_book.specs.Steps.{seat_of}
use Rattle.history_book.specs.Legal.{IsLegal}
use Rattle.omos_hub.specs.Turns.{Turn, Moves, OthersAdd, lengths, left_by}
use Rattle.omos_hub.specs.Standing.{Standing, Went, seen_by}
use Rattle.omos_session.specs.Session.{IsSession}
use Rattle.omos_session.specs.Talk.{turns_of}
use Rattle.omosd_slots.specs.Visits.{Climbs, SlotVisit, IsVisit, AreVisits, WasServed, HasCause}
use Rattle.omosd_slots.specs.Visits.{coming, going, seated, HasVisit}
use Rattle.omos_session.specs.declared.session.SessionEnd.{SessionEnd}
use Rattle.omos_session.specs.declared.session.SessionEnd.TheVariants as ending

-- ---- numbers that never fall

climbs_on : (a : ℕ) (xs : List ℕ) (b : ℕ) (ys : List ℕ) (c : ℕ) → Climbs a xs b → Climbs b ys c
    → Climbs a (xs ++ ys) c
climbs_on a [] b [] c h k = omega (arith, h, k)
climbs_on a [] b (y ∷ ys) c h k = let l = k.0 in (omega (arith, h, l), k.1)
climbs_on a (x ∷ xs) b ys c h k = (h.0, climbs_on x xs b ys c h.1 k)

others_longer : (seat : ℕ) (old new : List Step) → OthersAdd false seat old new
    → length old ≤ length new
others_longer seat old new h = let e = ap length h.1 in let l =
    length-append old h.0 in omega (arith, e, l)

climbs_from : (a b : ℕ) (xs : List ℕ) (c : ℕ) → a ≤ b → Climbs b xs c → Climbs a xs c
climbs_from a b [] c le h = omega (arith, le, h)
climbs_from a b (x ∷ xs) c le h = let l = h.0 in (omega (arith, le, l), h.1)

-- the lengths at a seat's turns never fall
pub moves_climb : (seat : ℕ) (old : List Step) (ts : List Turn) (new : List Step)
    → Moves false seat old ts new → Climbs (length old) (lengths ts) (length new)
moves_climb seat old [] new m = others_longer seat old new m
moves_climb seat old (t ∷ ts) new m =
    let l = length-append t.found t.made in (
      others_longer seat old t.found m.0,
      climbs_from (length t.found) (length (left_by t)) (lengths ts) (length new)
          (omega (arith, l)) (moves_climb seat (left_by t) ts new m.2),
    )

-- ---- one more link

module _ (c r seat : ℕ) where
  visits_more : (first : List Step) (vs : List SlotVisit) (mid : List Step) (v : SlotVisit)
      → AreVisits c r seat first vs mid → v.before ≡ mid → IsVisit c r seat v
      → AreVisits c r seat first (vs ++ v ∷ []) v.after
  visits_more first [] mid v h e is = (e ∙ h, is, refl)
  visits_more first (u ∷ vs) mid v h e is = (h.0, h.1, visits_more u.after vs mid v h.2 e is)

  flat_map-last : (vs : List SlotVisit) (v : SlotVisit)
      → flat_map (λ (u : SlotVisit). u.turns) (vs ++ v ∷ [])
      ≡ flat_map (λ (u : SlotVisit). u.turns) vs ++ v.turns
  flat_map-last [] v = append-nil v.turns
  flat_map-last (u ∷ vs) v = ap (λ l. u.turns ++ l) (flat_map-last vs v)
      ∙ sym (append_assoc u.turns (flat_map (λ (w : SlotVisit). w.turns) vs) v.turns)

  map-last : (vs : List SlotVisit) (v : SlotVisit) → map (λ (u : SlotVisit). u.link) (vs ++ v ∷ [])
      ≡ map (λ (u : SlotVisit). u.link) vs ++ v.link ∷ []
  map-last [] v = refl
  map-last (u ∷ vs) v = ap (λ l. u.link ∷ l) (map-last vs v)

  -- nothing was served yet
  pub served_none : (seen : List Step) → steps_by seat_of seat seen ≡ []
      → WasServed c r seat seen [] []
  served_none seen none =
      record {
        first = seen;
        none = none;
        visits = [];
        each = refl;
        turns_are = refl;
        links_are = refl;
        never_fall = omega arith;
      }

  -- one more link was served
  pub served_more : (seen : List Step) (turns : List ℕ) (links : List GivenBack) (v : SlotVisit)
      → WasServed c r seat seen turns links → v.before ≡ seen → IsVisit c r seat v
      → Climbs (length seen) v.turns (length v.after)
      → WasServed c r seat v.after (turns ++ v.turns) (links ++ v.link ∷ [])
  served_more seen turns links v w e is climbs = record {
    first = w.first;
    none = w.none;
    visits = w.visits ++ v ∷ [];
    each = visits_more w.first w.visits seen v w.each e is;
    turns_are = ap (λ l. l ++ v.turns) w.turns_are ∙ sym (flat_map-last w.visits v);
    links_are = ap (λ l. l ++ v.link ∷ []) w.links_are ∙ sym (map-last w.visits v);
    never_fall =
        climbs_on (length w.first) turns (length seen) v.turns (length v.after) w.never_fall climbs;
  }

-- ---- from the session's clause to a visit

pub cause_of : (end : SessionEnd) (link : GivenBack) (sf kf : ℕ) → sf ≡ 0 → kf ≡ 0
    → (end ≡ ending.ReadFault → Rose sf link.source_faults)
    → (end ≡ ending.WriteFault → Rose kf link.sink_faults) → HasCause end link
cause_of ending.Ended link sf kf s k read write = tt
cause_of ending.Closed link sf kf s k read write = tt
cause_of (ending.Truncated n) link sf kf s k read write = tt
cause_of (ending.BadFrame n x) link sf kf s k read write = tt
cause_of ending.ReadFault link sf kf s k read write = let h =
    subst (λ (n : ℕ). Rose n link.source_faults) s (read refl) in omega (arith, h)
cause_of ending.WriteFault link sf kf s k read write = let h =
    subst (λ (n : ℕ). Rose n link.sink_faults) k (write refl) in omega (arith, h)
cause_of ending.TooMany link sf kf s k read write = tt
cause_of ending.NoMemory link sf kf s k read write = tt

module _ (hub : TableId) (p p' : Knowledge Step) (x y : ℕ) (end : SessionEnd) (sf kf : ℕ) where
  pub visit_of : (told told' : Option Stream) (holds holds' : Option (List ℕ))
      → IsSession false (seen_by hub (Some x) p) (seen_by hub (Some y) p') told told' holds holds'
      end
      → IsSome told → IfSome told (λ s. s.given ≡ []) → IsSome holds → IfSome holds (λ h. h ≡ [])
      → HasCause end (link_of told' holds' sf kf) → HasVisit p p' (link_of told' holds' sf kf)
  visit_of None told' holds holds' s tells given sinks held cause = absurd (true≢false (sym tells))
  visit_of (Some t) None holds holds' s tells given sinks held cause = absurd s.read
  visit_of (Some t) (Some t') None holds' s tells given sinks held cause =
      absurd (true≢false (sym sinks))
  visit_of (Some t) (Some t') (Some h) None s tells given sinks held cause = absurd s.wrote
  visit_of (Some t) (Some t') (Some h) (Some h') s tells given sinks held cause = record {
    piece = lengths (turns_of s.rows);
    turns = s.went.turned;
    visit = record {
      end = end;
      session = record {
        rows = s.rows;
        taken = s.taken;
        written = s.written;
        went = record {
          moves = s.went.moves;
          legal = s.went.legal;
          seat = refl;
          cache = refl;
          room = refl;
          turned = refl;
          crossed = tt;
          line = refl;
        };
        rows_told = s.rows_told;
        read = (
          ap (λ l. l ++ t'.left) (s.read.1 ∙ ap (λ l. l ++ s.taken) given),
          s.read.1 ∙ ap (λ l. l ++ s.taken) given,
        );
        answers = s.answers;
        wrote = s.wrote ∙ ap (λ l. l ++ s.written) held;
        writes = s.writes;
        few = s.few;
      };
      cause = cause;
    };
    climbs = moves_climb p.number p.seen (turns_of s.rows) p'.seen s.went.moves;
  }
