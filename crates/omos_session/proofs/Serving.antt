-- What the calls of a desk tell of the frame that they answer.
use Rattle.std.proofs.Common.{◌≡◌, ℕ, ◌+◌, ◌*◌, ◌≤◌, Bool, true, false, List, [], ◌∷◌, ◌++◌, length}
use Rattle.std.proofs.Common.{refl, sym, ap, subst, ◌∙◌, arith, append-nil, length-append, inl, inr}
use Rattle.std.proofs.Common.{Ok}
use Rattle.std.specs.Prelude.{count_by, filter, map}
use Rattle.std.proofs.lemmas.List.{length-map}
use Rattle.omos_model.proofs.Ranges.{length-filter_map}
use Rattle.std.proofs.lemmas.List.Sums.{count_by-le-length, length-filter}
use Rattle.std.specs.List.{AllByRecursion}
use Rattle.omos_base.specs.Paths.{HasPathFault, IsPath}
use Rattle.omos_base.specs.declared.path_name.PathFault.{PathFault}
use Rattle.omos_model.specs.declared.entry.Entry.{Entry}
use Rattle.omos_model.specs.Names.{Name}
use Rattle.omos_model.specs.Namespace.{Space}
use Rattle.link_model.specs.Answer.{answer as answer_at}
use Rattle.link_model.specs.Module.{LinkedImage}
use Rattle.history_book.specs.Told.{book_of, namespace_in, requests}
use Rattle.history_book.specs.Due.{dues}
use Rattle.history_book.specs.Legal.{IsLegal}
use Rattle.history_book.specs.Room.{HasRoom}
use Rattle.history_book.specs.Steps.{placement_of}
use Rattle.history_book.specs.declared.step.Note.{Note}
use Rattle.history_book.specs.declared.step.Note.TheVariants as note
use Rattle.history_book.specs.declared.step.Step.{Step}
use Rattle.history_book.specs.declared.step.Step.TheVariants.{Missed, Asked, Answered, Flushed}
use Rattle.hub_store.specs.Links.{AskGives, FinishGives, MayFinish, next_ticket, note_of_outcome}
use Rattle.hub_store.specs.Parts.{Appended, StoreParts, TicketParts, store_of}
use Rattle.hub_store.specs.Parts as hub
use Rattle.hub_store.specs.declared.reply.AskReply.TheVariants as ask
use Rattle.hub_store.specs.declared.reply.Outcome.{Outcome}
use Rattle.hub_store.specs.declared.reply.Outcome.TheVariants as outcome
use Rattle.hub_store.specs.Requests.{flushing, placements_of}
use Rattle.omos_model.specs.Places.{is_of}
use Rattle.omos_model.specs.declared.placement.Placement.{Placement}
use Rattle.omos_wire.specs.Answer.{Answer, IsSendable, wire_span}
use Rattle.refusal_lines.specs.declared.refused.Refused.{Refused}
use Rattle.omos_wire.specs.Answer as answer
use Rattle.refusal_lines.specs.declared.refused.Refused.TheVariants as why
use Rattle.omos_session.specs.inside.Parts.{Concludes, Goes, MissTold, PublishTold, RepliesTo}
use Rattle.omos_session.specs.inside.Parts.{ServesBy}
use Rattle.omos_hub.specs.Standing.{AtTurn, Standing, Went, is_miss, misses, store_at}
use Rattle.omos_session.specs.Talk.{FlushTold, IsBetween, IsMiss, IsMissed, LinkTold, PathTold}
use Rattle.omos_session.specs.Talk.{PutTold, FindsNoRoom}
use Rattle.omos_hub.specs.Turns.{IsDue, Turn, turn_of, IsOf}
use Rattle.omos_session.proofs.Dues.{dues_are_due, dues_are_of, dues_are_no_miss}
use Rattle.omos_session.proofs.Going.{went_gate, went_none, went_once, went_then}
use Rattle.omos_session.proofs.Moves.{misses-append}
use Rattle.link_model.proofs.Short.{image_is_short}

-- no turn
pub serves_idle : (alone : Bool) (s : Standing) (Is : List Turn → Type 0)
    → IsLegal s.cache s.room s.steps → Is [] → ServesBy alone s s Is
serves_idle alone s Is legal told =
    record { turns = []; went = went_none alone s legal; told = told; few = omega arith }

-- one turn, with these steps
pub serves_made : (alone : Bool) (old new : Standing) (G : StoreParts → StoreParts → Type 0)
    (turn : AtTurn alone old new G) (Is : List Turn → Type 0) (made : List Step)
    → AllByRecursion (IsOf old.seat) made → misses (turn_of turn.found made ∷ []) ≡ 0
    → Appended (store_at old turn.found) (store_at old new.steps) made
    → Is (turn_of turn.found made ∷ []) → ServesBy alone old new Is
serves_made alone old new G turn Is made mine none grown told = record {
  turns = turn_of turn.found made ∷ [];
  went = subst (Went alone old new (turn_of turn.found made ∷ [])) (sym none)
      (went_once alone old new G turn made mine grown);
  told = told;
  few = omega arith;
}

unchanged : (old new : Standing) (found : List Step) → store_at old new.steps ≡ store_at old found
    → Appended (store_at old found) (store_at old new.steps) []
unchanged old new found same =
    same ∙ ap (λ (s : List Step). store_of s old.cache old.room) (sym (append-nil found))

-- one turn without a step
pub serves_still : (alone : Bool) (old new : Standing) (G : StoreParts → StoreParts → Type 0)
    (turn : AtTurn alone old new G) (Is : List Turn → Type 0)
    → store_at old new.steps ≡ store_at old turn.found → Is (turn_of turn.found [] ∷ [])
    → ServesBy alone old new Is
serves_still alone old new G turn Is same told =
    serves_made alone old new G turn Is [] tt refl (unchanged old new turn.found same) told

-- a record without room
pub serves_full : (alone : Bool) (old new : Standing) (G : StoreParts → StoreParts → Type 0)
    (turn : AtTurn alone old new G) (Is : List Turn → Type 0)
    → hub.IsFull (store_at old turn.found) (store_at old new.steps)
    → (FindsNoRoom old.room (turn_of turn.found [] ∷ []) → Is (turn_of turn.found [] ∷ []))
    → ServesBy alone old new Is
serves_full alone old new G turn Is full told =
    serves_still alone old new G turn Is full.1 (told (turn.found, refl, full.0))

-- want of memory
pub serves_missed : (alone : Bool) (old new : Standing) (G : StoreParts → StoreParts → Type 0)
    (turn : AtTurn alone old new G) (Is : List Turn → Type 0) (number : ℕ)
    → Appended (store_at old turn.found) (store_at old new.steps) (Missed old.seat number ∷ [])
    → (IsMissed old.seat (turn_of turn.found (Missed old.seat number ∷ []) ∷ [])
    → Is (turn_of turn.found (Missed old.seat number ∷ []) ∷ []))
    → ServesBy alone old new Is
serves_missed alone old new G turn Is number grown told =
    serves_made alone old new G turn Is (Missed old.seat number ∷ []) (refl, tt) refl grown
    (told (turn.found, number, refl))

-- what is told is told of more
pub serves_as : (alone : Bool) (old new : Standing) (Is More : List Turn → Type 0)
    → ((turns : List Turn) → Is turns → More turns) → ServesBy alone old new Is
    → ServesBy alone old new More
serves_as alone old new Is More more serves =
    record {
      turns = serves.turns;
      went = serves.went;
      told = more serves.turns serves.told;
      few = serves.few;
    }

-- ---- the parts of a link

between_is_no_miss : (seat number : ℕ) (path : Name) (t : Turn) → IsBetween seat number path t
    → count_by is_miss t.made ≡ 0
between_is_no_miss seat number path t (inl none) = ap (count_by is_miss) none
between_is_no_miss seat number path t (inr placed) = ap (count_by is_miss) placed.2

pub between_are_no_miss : (seat number : ℕ) (path : Name) (ts : List Turn)
    → AllByRecursion (IsBetween seat number path) ts → misses ts ≡ 0
between_are_no_miss seat number path [] h = refl
between_are_no_miss seat number path (t ∷ ts) h =
    let one : misses (t ∷ []) ≡ 0 = ap (count_by is_miss) (append-nil t.made)
    ∙ between_is_no_miss seat number path t h.0 in
    omega (arith, misses-append (t ∷ []) ts, one, between_are_no_miss seat number path ts h.1)

-- the turn at which a link ends
pub concludes_by : (alone : Bool) (old new : Standing) (t : TicketParts) (o : Outcome) (a : Answer)
    → t.seat ≡ old.seat
    → AtTurn alone old new (λ x y. FinishGives x t o y) → MayFinish old.steps t o → RepliesTo t o a
    → Concludes alone old new t a
concludes_by alone old new t o a same turn may replies =
    let due : List Step =
    dues old.cache (turn.found ++ Answered t.seat t.number (note_of_outcome o) ∷ []) in
    let fine = dues_are_due old.cache turn.found t.seat t.number (note_of_outcome o) in
    record {
      last = turn_of turn.found (Answered t.seat t.number (note_of_outcome o) ∷ due);
      end = o;
      due = due;
      went = went_once alone old new (λ x y. FinishGives x t o y) turn
          (Answered t.seat t.number (note_of_outcome o) ∷ due)
          (subst (λ (s : ℕ). AllByRecursion (IsOf s)
          (Answered t.seat t.number (note_of_outcome o) ∷ due)) same
          (refl, dues_are_of t.seat t.number due fine)) turn.gives;
      may = may;
      answered = refl;
      stored = fine;
      replied = replies;
    }

-- ---- a link that missed

-- the turns of a link that missed
pub missed_turns : (turn : Turn) (between : List Turn) (last : Turn) (seat number : ℕ) (path : Name)
    (v : ℕ) (x : Note) (due : List Step)
    → turn.made ≡ Asked seat number path v false ∷ []
    → AllByRecursion (IsBetween seat number path) between
    → last.made ≡ Answered seat number x ∷ due → AllByRecursion (IsDue seat number) due
    → misses (turn ∷ between ++ last ∷ []) ≡ 1
missed_turns turn between last seat number path v x due asked each answered stored =
    let first : misses (turn ∷ []) ≡ 1 = ap (count_by is_miss) (append-nil turn.made ∙ asked) in
    let middle : misses between ≡ 0 = between_are_no_miss seat number path between each in
    let end : misses (last ∷ []) ≡ 0 = ap (count_by is_miss) (append-nil last.made ∙ answered)
    ∙ dues_are_no_miss seat number due stored in
    misses-append (turn ∷ []) (between ++ last ∷ [])
    ∙ ap (λ (n : ℕ). misses (turn ∷ []) + n) (misses-append between (last ∷ []))
    ∙ omega (arith, first, middle, end)

-- the image is the answer on the namespace of the asking
abbrev HasImage : Space → Name → Outcome → Type 0
HasImage ns path (outcome.Image l) = answer_at ns path l.base ≡ Ok l.bytes
HasImage ns path _ = Unit {0}

link_told : (room seat : ℕ) (path : Name) (turns : List Turn) (v : ℕ) (o : Outcome) (a : Answer)
    (t : TicketParts)
    → (m : IsMiss seat path turns v (note_of_outcome o)) → t.version ≡ v
    → t.space ≡ namespace_in m.first.found v → t.path ≡ path
    → RepliesTo t o a → LinkTold room seat path turns a
link_told room seat path turns v (outcome.Image l) a t m at space same replies =
    let here : answer_at (namespace_in m.first.found v) path l.base ≡ Ok l.bytes =
    rw (← space, ← same) replies.1 in
    subst (LinkTold room seat path turns)
    (sym (replies.0 ∙ ap (λ (n : ℕ). answer.Image n l.base l.bytes) at)) (inr (m, here))
link_told room seat path turns v (outcome.Refused x) a t m at space same replies =
    subst (LinkTold room seat path turns) (sym replies) (v, m)
link_told room seat path turns v outcome.NoMemory a t m at space same replies =
    subst (LinkTold room seat path turns) (sym replies) (inr (v, m))
link_told room seat path turns v outcome.Replayed a t m at space same replies = absurd replies

-- a link that missed, from its asking to its reply
pub serves_gone : (alone : Bool) (old mid new : Standing) (path : Name) (G : StoreParts → StoreParts
    → Type 0) (turn : AtTurn alone old mid G) (a : Answer)
    → (let t = next_ticket turn.found old.seat path in
    Appended (store_at old turn.found) (store_at old mid.steps)
    (Asked old.seat t.number path t.version false ∷ []))
    → Goes alone mid new (next_ticket turn.found old.seat path) a
    → ServesBy alone old new (λ turns. LinkTold old.room old.seat path turns a)
serves_gone alone old mid new path G turn a grown goes =
    let t = next_ticket turn.found old.seat path in
    let c = goes.concluded in
    let first : Turn = turn_of turn.found (Asked old.seat t.number path t.version false ∷ []) in
    let turns : List Turn = first ∷ goes.turns ++ c.last ∷ [] in
    let asked =
    went_once alone old mid G turn (Asked old.seat t.number path t.version false ∷ [])
    (refl, tt) grown in
    let gate =
    went_gate alone mid goes.gated (rw (asked.cache, asked.room) asked.legal) goes.crossed in
    let after =
    went_then alone mid goes.gated new [] (goes.turns ++ c.last ∷ []) 1 0 gate
    (went_then alone goes.gated goes.made new goes.turns (c.last ∷ []) 0 0 goes.went c.went) in
    let m : IsMiss old.seat path turns t.version (note_of_outcome c.end) = record {
      first = first;
      between = goes.turns;
      last = c.last;
      number = t.number;
      due = c.due;
      split = refl;
      asked = refl;
      placed = goes.each;
      answered = c.answered;
      stored = c.stored;
    } in
    record {
      turns = turns;
      went = subst (Went alone old new turns)
          (sym (missed_turns first goes.turns c.last old.seat t.number path t.version
          (note_of_outcome c.end) c.due refl goes.each c.answered c.stored))
          (went_then alone old mid new (first ∷ []) (goes.turns ++ c.last ∷ []) 0 1 asked after);
      told = link_told old.room old.seat path turns t.version c.end a t m refl refl refl c.replied;
      few = omega (arith, length-append goes.turns (c.last ∷ []), goes.few);
    }

-- ---- a flush

flushing_is_due : (held : Bool) (seat number : ℕ) (path : Name)
    → AllByRecursion (IsDue seat number) (flushing held seat number path)
flushing_is_due true seat number path = ((refl, refl), tt)
flushing_is_due false seat number path = tt

flushing_is_no_miss : (held : Bool) (seat number : ℕ) (path : Name)
    → count_by is_miss (flushing held seat number path) ≡ 0
flushing_is_no_miss true seat number path = refl
flushing_is_no_miss false seat number path = refl

pub serves_flushed : (alone : Bool) (old new : Standing) (G : StoreParts → StoreParts → Type 0)
    (turn : AtTurn alone old new G) (path : Name) (held : Bool) (number : ℕ)
    → Appended (store_at old turn.found) (store_at old new.steps)
    (Flushed old.seat number path held ∷ flushing held old.seat number path)
    → ServesBy alone old new (λ turns. FlushTold old.room old.seat path turns (answer.Flushed held))
serves_flushed alone old new G turn path held number grown =
    let due : List Step = flushing held old.seat number path in
    let fine = flushing_is_due held old.seat number path in
    serves_made alone old new G turn
    (λ turns. FlushTold old.room old.seat path turns (answer.Flushed held))
    (Flushed old.seat number path held ∷ due)
    (refl, dues_are_of old.seat number due fine)
    (ap (count_by is_miss) (append-nil (Flushed old.seat number path held ∷ due))
    ∙ flushing_is_no_miss held old.seat number path)
    grown (turn.found, number, due, refl, fine)

-- ---- puts

pub miss_as_publish : (room seat : ℕ) (path : Name) (e : Entry) (size : ℕ) (a : Answer)
    (turns : List Turn) → MissTold room seat turns a → PublishTold room seat path e size turns a
miss_as_publish room seat path e size answer.NoMemory turns h = h
miss_as_publish room seat path e size answer.Full turns h = h
miss_as_publish room seat path e size (answer.Published v) turns h = absurd h
miss_as_publish room seat path e size (answer.Image v base bytes) turns h = absurd h
miss_as_publish room seat path e size (answer.Refused x) turns h = absurd h
miss_as_publish room seat path e size (answer.Places spans) turns h = absurd h
miss_as_publish room seat path e size (answer.Counts counts) turns h = absurd h
miss_as_publish room seat path e size (answer.Flushed held) turns h = absurd h
miss_as_publish room seat path e size answer.Bye turns h = absurd h
miss_as_publish room seat path e size answer.KeptFull turns h = absurd h

pub publish_as_put : (Says : Entry → ℕ → Type 0) (Faults : Refused → Type 0) (room seat : ℕ)
    (path : Name) (e : Entry) (size : ℕ) (a : Answer) → Says e size → (turns : List Turn)
    → PublishTold room seat path e size turns a → PutTold Says Faults room seat path turns a
publish_as_put Says Faults room seat path e size (answer.Published v) says turns h =
    (e, size, says, h.0, h.1, h.2, h.3)
publish_as_put Says Faults room seat path e size answer.KeptFull says turns h =
    (e, size, says, h.0, h.1, h.2)
publish_as_put Says Faults room seat path e size answer.NoMemory says turns h = h
publish_as_put Says Faults room seat path e size answer.Full says turns h = h
publish_as_put Says Faults room seat path e size (answer.Image v base bytes) says turns h = absurd h
publish_as_put Says Faults room seat path e size (answer.Refused x) says turns h = absurd h
publish_as_put Says Faults room seat path e size (answer.Places spans) says turns h = absurd h
publish_as_put Says Faults room seat path e size (answer.Counts counts) says turns h = absurd h
publish_as_put Says Faults room seat path e size (answer.Flushed held) says turns h = absurd h
publish_as_put Says Faults room seat path e size answer.Bye says turns h = absurd h

pub miss_as_put : (Says : Entry → ℕ → Type 0) (Faults : Refused → Type 0) (room seat : ℕ)
    (path : Name) (a : Answer) (turns : List Turn)
    → MissTold room seat turns a → PutTold Says Faults room seat path turns a
miss_as_put Says Faults room seat path answer.NoMemory turns h = h
miss_as_put Says Faults room seat path answer.Full turns h = h
miss_as_put Says Faults room seat path (answer.Published v) turns h = absurd h
miss_as_put Says Faults room seat path (answer.Image v base bytes) turns h = absurd h
miss_as_put Says Faults room seat path (answer.Refused x) turns h = absurd h
miss_as_put Says Faults room seat path (answer.Places spans) turns h = absurd h
miss_as_put Says Faults room seat path (answer.Counts counts) turns h = absurd h
miss_as_put Says Faults room seat path (answer.Flushed held) turns h = absurd h
miss_as_put Says Faults room seat path answer.Bye turns h = absurd h
miss_as_put Says Faults room seat path answer.KeptFull turns h = absurd h

-- ---- a path

pub path_fine : (alone : Bool) (old new : Standing) (bytes path : Name) (a : Answer) (Is : Name
    → List Turn → Type 0) → path ≡ bytes → IsPath bytes
    → ServesBy alone old new (Is path)
    → ServesBy alone old new (λ turns. PathTold bytes turns a (Is bytes turns))
path_fine alone old new bytes path a Is same fine serves =
    serves_as alone old new (Is path) (λ turns. PathTold bytes turns a (Is bytes turns))
    (λ turns told. inr (fine, subst (λ (p : Name). Is p turns) same told)) serves

pub path_none : (alone : Bool) (s : Standing) (bytes : Name) (x : PathFault) (Is : List Turn
    → Type 0) → IsLegal s.cache s.room s.steps → HasPathFault bytes x
    → ServesBy alone s s (λ turns. PathTold bytes turns (answer.Refused (why.Path x)) (Is turns))
path_none alone s bytes x Is legal fault =
    serves_idle alone s (λ turns. PathTold bytes turns (answer.Refused (why.Path x)) (Is turns))
    legal (inl (x, refl, fault, refl))

-- ---- a list of placements isn't too long

few_filtered : (p : Placement → Bool) (xs : List Placement) → length (filter p xs) ≤ length xs
few_filtered p xs = omega (arith, length-filter p xs, count_by-le-length p xs)

pub places_are_few : (room : ℕ) (P : List Step) (path : Name) (list : List Placement) → room ≤ 65536
    → HasRoom room P → list ≡ placements_of P path
    → 5 + 12 * length (map wire_span list) ≤ 16777216
places_are_few room P path list few has is =
    omega (
      arith,
      length-map list wire_span,
      ap length is,
      few_filtered (is_of path) (book_of P),
      length-filter_map placement_of P,
      has,
      few,
    )

-- an image's reply isn't too long
pub image_is_sendable : (ns : Space) (path : Name) (v base : ℕ) (bytes : List ℕ)
    → answer_at ns path base ≡ Ok bytes → IsSendable (answer.Image v base bytes)
image_is_sendable ns path v base bytes e = omega (arith, image_is_short ns path base bytes e)

pub serves_hit : (alone : Bool) (old new : Standing) (G : StoreParts → StoreParts → Type 0)
    (turn : AtTurn alone old new G) (path : Name) (v : ℕ) (l : LinkedImage)
    → AskGives (store_at old turn.found) old.seat path (ask.Hit v l) (store_at old new.steps)
    → ServesBy alone old new
    (λ turns. LinkTold old.room old.seat path turns (answer.Image v l.base l.bytes))
serves_hit alone old new G turn path v l gives =
    let number : ℕ = requests turn.found in
    let made : List Step =
    Asked old.seat number path v true ∷ Answered old.seat number (note.Image l.base) ∷ [] in
    let here : answer_at (namespace_in turn.found v) path l.base ≡ Ok l.bytes =
    rw gives.1 gives.3 in
    serves_made alone old new G turn
    (λ turns. LinkTold old.room old.seat path turns (answer.Image v l.base l.bytes)) made
    (refl, (refl, tt)) refl gives.4
    (inl (record { found = turn.found; number = number; turn = refl; image = here }))

pub serves_went : (alone : Bool) (old mid new : Standing) (path : Name) (G : StoreParts → StoreParts
    → Type 0) (turn : AtTurn alone old mid G) (t : TicketParts) (a : Answer)
    → AskGives (store_at old turn.found) old.seat path (ask.Go t) (store_at old mid.steps)
    → Goes alone mid new t a
    → ServesBy alone old new (λ turns. LinkTold old.room old.seat path turns a)
serves_went alone old mid new path G turn t a gives goes =
    serves_gone alone old mid new path G turn a gives.4
    (subst (λ (x : TicketParts). Goes alone mid new x a) gives.1 goes)
