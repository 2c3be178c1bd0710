-- What a session says that came to its end over the frames of a workload.
use Rattle.std.proofs.Common.{◌≡◌, ℕ, ◌+◌, ◌-◌, ◌^◌, ◌<◌, ◌≤◌, true, List, [], ◌∷◌, ◌++◌, length}
use Rattle.std.proofs.Common.{refl, sym, ap, subst, ◌∙◌, arith, append_assoc, append-nil}
use Rattle.std.proofs.Common.{length-append, map, inl, inr, Some}
use Rattle.std.specs.List.{AllByRecursion, flat_map}
use Rattle.std.proofs.lemmas.List.Sums.{count_by-le-length}
use Rattle.omos_model.specs.Numbers.{numbers_from}
use Rattle.omos_model.proofs.Ranges.{length-filter_map}
use Rattle.omos_outside.specs.Stream.{Stream}
use Rattle.history_book.specs.Steps.{is_evicted, is_hit_step, placement_of, put_of}
use Rattle.history_book.specs.declared.step.Look.TheVariants as look
use Rattle.history_book.specs.declared.step.Step.{Step}
use Rattle.history_book.specs.declared.step.Step.TheVariants.{Looked}
use Rattle.hub_store.specs.Parts.{StoreParts, limits_of, store_of}
use Rattle.hub_store.specs.Requests.{counts_of}
use Rattle.hub_store.specs.declared.counts.Counts.{Counts as Totals}
use Rattle.omos_hub.specs.Standing.{standing_of}
use Rattle.omos_hub.specs.Turns.{IsOf, Moves, Turn, left_by, turn_of}
use Rattle.omos_session.specs.Laws.{Extends}
use Rattle.omos_session.specs.Session.{IsSession, NoEnd, frames, reply_bytes}
use Rattle.omos_session.specs.Talk.{IsTold, PathTold, Row, Told, turns_of}
use Rattle.omos_session.specs.declared.session.SessionEnd.TheVariants as ending
use Rattle.omos_session.proofs.TurnLaws.{moves_extend}
use Rattle.omos_wire.proofs.Again.{same_first}
use Rattle.omos_wire.specs.Answer.{Answer, reply_frame}
use Rattle.omos_wire.specs.Answer as answer
use Rattle.omos_wire.specs.Message.{End, Message, Stats, frame, HasFrame}
use Rattle.omos_wire.specs.Message as message
use Rattle.workload_calls.specs.Replies.{AreFigures, HasFigures, figures_of, replies_bytes}
use Rattle.workload_calls.specs.Stream.{links, objects, others, program_path, programs, put_object}
use Rattle.workload_calls.specs.Stream.{put_program, stream_bytes, twice, workload}
use Rattle.workload_calls.specs.Workload.{HasTalked, cache, replies, room}

all_both : {X : Type 0} (P : X → Type 0) (xs ys : List X) → AllByRecursion P xs
    → AllByRecursion P ys → AllByRecursion P (xs ++ ys)
all_both P [] ys a b = b
all_both P (x ∷ xs) ys a b = (a.0, all_both P xs ys a.1 b)

-- ---- the requests end at the end

abbrev pub GoesOn : Message → Type 0
GoesOn m = m ≡ End → ⊥

-- the last of them, and no other, is the end
abbrev pub EndsAt : List Message → Type 0
EndsAt [] = ⊥
EndsAt (m ∷ []) = m ≡ End
EndsAt (m ∷ (k ∷ ms)) = GoesOn m × EndsAt (k ∷ ms)

ends_more : (m : Message) (ms : List Message) → GoesOn m → EndsAt ms → EndsAt (m ∷ ms)
ends_more m [] on e = absurd e
ends_more m (k ∷ ms) on e = (on, e)

ends_after : (ms ks : List Message) → AllByRecursion GoesOn ms → EndsAt ks → EndsAt (ms ++ ks)
ends_after [] ks on e = e
ends_after (m ∷ ms) ks on e = ends_more m (ms ++ ks) on.0 (ends_after ms ks on.1 e)

each_goes_on : (f : ℕ → Message) → ((i : ℕ) → GoesOn (f i)) → (is : List ℕ)
    → AllByRecursion GoesOn (map f is)
each_goes_on f on [] = tt
each_goes_on f on (i ∷ is) = (on i, each_goes_on f on is)

links_go_on : (path : ℕ → List ℕ) (is : List ℕ)
    → AllByRecursion GoesOn (flat_map (λ i. twice (path i)) is)
links_go_on path [] = tt
links_go_on path (i ∷ is) = ((λ e. cc), ((λ e. cc), links_go_on path is))

workload_ends : (n : ℕ) → EndsAt (workload n)
workload_ends n =
    let puts =
    all_both GoesOn (objects n) (programs n)
    (each_goes_on (put_object n) (λ i e. cc) (numbers_from 0 n))
    ((λ e. cc), each_goes_on put_program (λ i e. cc) (others n)) in
    let all =
    all_both GoesOn (objects n ++ programs n) (links n) puts
    ((λ e. cc), ((λ e. cc), links_go_on program_path (others n))) in
    ends_after (objects n ++ programs n ++ links n) (Stats ∷ End ∷ []) all ((λ e. cc), refl)

rows_end : (before : List Row) (last : Row) → NoEnd before → last.frame ≡ End
    → EndsAt (frames (before ++ last ∷ []))
rows_end [] last none e = e
rows_end (r ∷ before) last none e =
    ends_more r.frame (frames (before ++ last ∷ [])) none.0 (rows_end before last none.1 e)

-- requests up to the end are the same where the frames of one list begin those of the other
same_requests : (gs fs : List Message) (xs : List ℕ) → AllByRecursion HasFrame gs
    → AllByRecursion HasFrame fs → EndsAt gs → EndsAt fs
    → flat_map frame gs ++ xs ≡ flat_map frame fs → gs ≡ fs
same_requests [] fs xs a b eg ef e = absurd eg
same_requests (g ∷ gs) [] xs a b eg ef e = absurd ef
same_requests (g ∷ []) (f ∷ []) xs a b eg ef e =
    ap (λ (m : Message). m ∷ []) (eg ∙ sym ef)
same_requests (g ∷ []) (f ∷ (k ∷ fs)) xs a b eg ef e =
    let one =
    same_first g f xs (flat_map frame (k ∷ fs)) a.0 b.0
    (ap (λ (l : List ℕ). l ++ xs) (sym (append-nil (frame g))) ∙ e) in
    absurd (ef.0 (sym one.0 ∙ eg))
same_requests (g ∷ (h ∷ gs)) (f ∷ []) xs a b eg ef e =
    let one =
    same_first g f (flat_map frame (h ∷ gs) ++ xs) [] a.0 b.0
    (sym (append_assoc (frame g) (flat_map frame (h ∷ gs)) xs) ∙ e) in
    absurd (eg.0 (one.0 ∙ ef))
same_requests (g ∷ (h ∷ gs)) (f ∷ (k ∷ fs)) xs a b eg ef e =
    let one =
    same_first g f (flat_map frame (h ∷ gs) ++ xs) (flat_map frame (k ∷ fs)) a.0 b.0
    (sym (append_assoc (frame g) (flat_map frame (h ∷ gs)) xs) ∙ e) in
    let rest = same_requests (h ∷ gs) (k ∷ fs) xs a.1 b.1 eg.1 ef.1 one.1 in
    cc (one.0, rest)

-- ---- the steps are the seat's

own_steps : (seat : ℕ) (old new : List Step) (turns : List Turn) → Moves true seat old turns new
    → AllByRecursion (IsOf seat) old → AllByRecursion (IsOf seat) new
own_steps seat old new [] m own = subst (AllByRecursion (IsOf seat)) (sym m) own
own_steps seat old new (t ∷ ts) m own =
    own_steps seat (left_by t) new ts m.2
    (all_both (IsOf seat) t.found t.made (subst (AllByRecursion (IsOf seat)) (sym m.0) own) m.1)

-- ---- the figures fit

abbrev pub IsFront : List Step → Turn → Type 0
IsFront H t = Extends (left_by t) H

found_few : (H : List Step) (t : Turn) → IsFront H t → length t.found ≤ length H
found_few H t front =
    omega (
      arith,
      ap length front.1,
      length-append (left_by t) front.0,
      length-append t.found t.made,
    )

counts_fit : (P : List Step) → length P < 2 ^ 32 → AreFigures (figures_of (counts_of P))
counts_fit P few = (
  omega (arith, length-filter_map put_of P),
  omega (arith, length-filter_map placement_of P),
  omega (arith, count_by-le-length is_hit_step P),
  omega (arith, count_by-le-length is_evicted P),
)

no_counts : (path : List ℕ) (turns : List Turn) (n : Totals) (T : Type 0) → (T → ⊥)
    → PathTold path turns (answer.Counts n) T → ⊥
no_counts path turns n T never told =
    elim told [ inl h ↦ cc (h.1) | inr h ↦ never h.1 ]

figures_told : (H : List Step) (r seat : ℕ) (m : Message) (turns : List Turn) (a : Answer)
    → length H < 2 ^ 32 → AllByRecursion (IsFront H) turns
    → Told r seat m turns a → HasFigures a
figures_told H r seat message.Stats turns (answer.Counts n) few fronts told =
    let front = subst (AllByRecursion (IsFront H)) told.2 fronts in
    subst (λ (k : Totals). AreFigures (figures_of k)) (sym told.3)
    (counts_fit told.0
    (omega (
      arith,
      few,
      found_few H (turn_of told.0 (Looked seat told.1 look.Stats ∷ []))
          front.0,
    )))
figures_told H r seat message.End turns (answer.Counts n) few fronts told = absurd (cc (told.1))
figures_told H r seat (message.PutObject path file) turns (answer.Counts n) few fronts told =
    absurd (no_counts path turns n _ (λ h. h) told)
figures_told H r seat (message.PutBlueprint path text) turns (answer.Counts n) few fronts told =
    absurd (no_counts path turns n _ (λ h. h) told)
figures_told H r seat (message.Link path) turns (answer.Counts n) few fronts told =
    absurd (no_counts path turns n _ (λ h. h) told)
figures_told H r seat (message.Places path) turns (answer.Counts n) few fronts told =
    absurd (no_counts path turns n _ (λ h. h) told)
figures_told H r seat (message.Flush path) turns (answer.Counts n) few fronts told =
    absurd (no_counts path turns n _ (λ h. h) told)
figures_told H r seat m turns (answer.Published v) few fronts told = tt
figures_told H r seat m turns (answer.Image v b f) few fronts told = tt
figures_told H r seat m turns (answer.Refused x) few fronts told = tt
figures_told H r seat m turns (answer.Places spans) few fronts told = tt
figures_told H r seat m turns (answer.Flushed held) few fronts told = tt
figures_told H r seat m turns answer.Bye few fronts told = tt
figures_told H r seat m turns answer.NoMemory few fronts told = tt
figures_told H r seat m turns answer.Full few fronts told = tt
figures_told H r seat m turns answer.KeptFull few fronts told = tt

split_front : (P : Turn → Type 0) (xs ys : List Turn) → AllByRecursion P (xs ++ ys)
    → AllByRecursion P xs × AllByRecursion P ys
split_front P [] ys a = (tt, a)
split_front P (x ∷ xs) ys a = let rest = split_front P xs ys a.1 in ((a.0, rest.0), rest.1)

rows_fit : (H : List Step) (r seat : ℕ) (rows : List Row) → length H < 2 ^ 32
    → AllByRecursion (IsFront H) (turns_of rows) → AllByRecursion (IsTold r seat) rows
    → AllByRecursion HasFigures (replies rows)
rows_fit H r seat [] few fronts told = tt
rows_fit H r seat (row ∷ rows) few fronts told =
    let cut = split_front (IsFront H) row.turns (turns_of rows) fronts in (
      figures_told H r seat row.frame row.turns row.reply few cut.0 told.0.told,
      rows_fit H r seat rows few cut.1 told.1,
    )

-- the replies of such a session have figures that fit
pub talk_fits : (n : ℕ) (s : StoreParts) (written : List ℕ) (t : HasTalked n s written)
    → length s.steps < 2 ^ 32 → AllByRecursion HasFigures (replies t.rows)
talk_fits n s written t few =
    rows_fit s.steps room 1 t.rows few (moves_extend true 1 [] s.steps (turns_of t.rows) t.moves).1
    t.told

-- ---- the whole

bytes_of : (rows : List Row) → reply_bytes rows ≡ replies_bytes (replies rows)
bytes_of [] = refl
bytes_of (r ∷ rows) = ap (λ (l : List ℕ). reply_frame r.reply ++ l) (bytes_of rows)

talked_on : (n : ℕ) (new : StoreParts) (s s' : Stream) (held held' : List ℕ)
    → IsSession true (standing_of (store_of [] cache room) 1) (standing_of new 1) (Some s) (Some s')
    (Some held) (Some held') ending.Ended
    → s.left ≡ stream_bytes n → held ≡ [] → AllByRecursion HasFrame (workload n)
    → HasTalked n new held'
talked_on n new s s' held held' h is none fits =
    let before : List Row = h.answers.0 in
    let last : Row = h.answers.1 in
    let tail : List ℕ = h.answers.2 in
    let one = h.answers.3 in
    let starts = h.answers.5 in
    let whole : flat_map frame (frames h.rows) ++ (tail ++ s'.left) ≡ flat_map frame (workload n) =
    sym (append_assoc (flat_map frame (frames h.rows)) tail s'.left)
    ∙ ap (λ (l : List ℕ). l ++ s'.left) (sym starts.whole) ∙ sym h.read.0 ∙ is in
    let ends : EndsAt (frames h.rows) =
    subst (λ (rs : List Row). EndsAt (frames rs)) (sym one.split)
    (rows_end before last one.none_before h.answers.4) in
    record {
      rows = h.rows;
      requests =
          same_requests (frames h.rows) (workload n) (tail ++ s'.left) starts.each fits ends
          (workload_ends n) whole;
      limits = ap (λ (c : ℕ). limits_of c new.limits.steps) h.went.cache
          ∙ ap (λ (r : ℕ). limits_of cache r) h.went.room;
      legal = h.went.legal;
      own = own_steps 1 [] new.steps (turns_of h.rows) h.went.moves tt;
      moves = h.went.moves;
      told = h.rows_told;
      wrote = h.wrote ∙ ap (λ (l : List ℕ). l ++ h.written) none ∙ h.writes ∙ bytes_of h.rows;
    }

pub talked : (n : ℕ) (old new : StoreParts) (s s' : Stream) (held held' : List ℕ)
    → IsSession true (standing_of old 1) (standing_of new 1) (Some s) (Some s') (Some held)
    (Some held') ending.Ended
    → old ≡ store_of [] cache room → s.left ≡ stream_bytes n → held ≡ []
    → AllByRecursion HasFrame (workload n) → HasTalked n new held'
talked n old new s s' held held' h first is none fits =
    talked_on n new s s' held held'
    (subst (λ (o : StoreParts). IsSession true (standing_of o 1) (standing_of new 1) (Some s)
    (Some s') (Some held) (Some held') ending.Ended) first h)
    is none fits
