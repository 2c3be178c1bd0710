-- What a link may come to between its asking and its answer.
use Rattle.std.proofs.Common.{◌≡◌, ℕ, Bool, List, [], ◌∷◌, refl, sym, ap, subst, ◌∙◌, arith, inl}
use Rattle.std.proofs.Common.{inr, Some, Err}
use Rattle.std.specs.List.{AllByRecursion}
use Rattle.omos_model.specs.declared.refusal.Refusal.{Refusal}
use Rattle.omos_model.specs.declared.refusal.Refusal.TheVariants as refusal
use Rattle.link_model.specs.Answer.{answer as answer_at}
use Rattle.link_model.specs.Laws.{OwnFrameLaw}
use Rattle.link_model.specs.Module.{Ready}
use Rattle.link_model.specs.Plan.{Plan, plan_of}
use Rattle.omos_model.specs.declared.placement.Place.{Place}
use Rattle.omos_model.specs.declared.placement.Place.TheVariants as place
use Rattle.history_book.specs.Legal.{HasPlace, IsLegal, IsRefusal}
use Rattle.history_book.specs.declared.step.Step.{Step}
use Rattle.hub_store.specs.Links.{IsPlanFor, MayFinish, PlaceGives, placing, place_for_ticket}
use Rattle.hub_store.specs.Parts.{IsTicket, TicketParts, asking_of}
use Rattle.hub_store.specs.declared.reply.PlaceReply.{PlaceReply}
use Rattle.hub_store.specs.declared.reply.PlaceReply.TheVariants as placed
use Rattle.omos_session.specs.inside.Parts.{IsRight, Makes, MayMake, RefusesWith, outcome_of}
use Rattle.omos_hub.specs.Standing.{AtTurn, Standing}
use Rattle.omos_session.specs.Talk.{IsBetween}
use Rattle.omos_hub.specs.Turns.{turn_of, IsOf}
use Rattle.omos_session.specs.declared.linking.Made.{Made}
use Rattle.omos_session.specs.declared.linking.Made.TheVariants as made
use Rattle.omos_hub.specs.Calls.{PlansTicket}
use Rattle.omos_session.proofs.Going.{went_none, went_once}

-- where the plan of an open request stands
has_place : (P : List Step) (t : TicketParts) (r : Ready) (plan : Plan) (at : Place) → IsTicket P t
    → IsPlanFor t r plan → place_for_ticket P t r ≡ at → HasPlace P (asking_of t) plan at
has_place P t r plan at ticket planned stands = record {
  planned = rw (← ticket.space) planned.planned;
  place = rw (← planned.pages, ← planned.lo, ← planned.hi) stands;
}

may_refuse : (P : List Step) (t : TicketParts) (x : Refusal) (m : Made) → RefusesWith x m
    → IsRefusal P (asking_of t) x → MayFinish P t (outcome_of m)
may_refuse P t x (made.Image l) refuses is = absurd refuses
may_refuse P t x (made.Refused y) refuses is = subst (IsRefusal P (asking_of t)) (sym refuses) is
may_refuse P t x made.NoMemory refuses is = tt

right_refuse : (t : TicketParts) (x : Refusal) (m : Made) → RefusesWith x m → IsRight t m
right_refuse t x (made.Image l) refuses = absurd refuses
right_refuse t x (made.Refused y) refuses = tt
right_refuse t x made.NoMemory refuses = tt

pub may_make : (r : Ready) (base : ℕ) (x : Refusal) (m : Made) → RefusesWith x m
    → answer_at r.evaluated.footprint r.evaluated.path base ≡ Err x → MayMake r base m
may_make r base x (made.Image l) refuses is = absurd refuses
may_make r base x (made.Refused y) refuses is = is ∙ ap Err (sym refuses)
may_make r base x made.NoMemory refuses is = tt

-- the answer on the ticket's namespace is that on the footprint's own
same_answer : (t : TicketParts) (r : Ready) (plan : Plan) (base : ℕ) → OwnFrameLaw
    → IsPlanFor t r plan
    → answer_at t.space t.path base ≡ answer_at r.evaluated.footprint r.evaluated.path base
same_answer t r plan base law planned =
    (law t.space t.path r.evaluated.footprint planned.listed).answered base
    ∙ ap (λ (p : List ℕ). answer_at r.evaluated.footprint p base) (sym planned.path)

may_place : (P : List Step) (t : TicketParts) (r : Ready) (plan : Plan) (base : ℕ) (m : Made)
    → OwnFrameLaw → IsTicket P t → IsPlanFor t r plan
    → place_for_ticket P t r ≡ place.Held base → MayMake r base m → MayFinish P t (outcome_of m)
may_place P t r plan base (made.Image l) law ticket planned stands may = (
  plan,
  record {
    path = may.path ∙ planned.path;
    listed = planned.listed ∙ ap Some (sym may.footprint);
    place = subst (λ (b : ℕ). HasPlace P (asking_of t) plan (place.Held b)) (sym may.based)
        (has_place P t r plan (place.Held base) ticket planned stands);
  },
)
may_place P t r plan base (made.Refused x) law ticket planned stands may =
    inr (inr (
      plan,
      base,
      has_place P t r plan (place.Held base) ticket planned stands,
      rw (← ticket.space) (same_answer t r plan base law planned ∙ may),
    ))
may_place P t r plan base made.NoMemory law ticket planned stands may = tt

right_place : (t : TicketParts) (r : Ready) (plan : Plan) (base : ℕ) (m : Made) → OwnFrameLaw
    → IsPlanFor t r plan → MayMake r base m → IsRight t m
right_place t r plan base (made.Image l) law planned may =
    ap (answer_at t.space t.path) may.based ∙ same_answer t r plan base law planned ∙ may.answered
right_place t r plan base (made.Refused x) law planned may = tt
right_place t r plan base made.NoMemory law planned may = tt

-- without a turn
pub makes_refused : (alone : Bool) (s : Standing) (t : TicketParts) (x : Refusal) (m : Made)
    → IsLegal s.cache s.room s.steps → IsTicket s.steps t → RefusesWith x m
    → plan_of t.space t.path ≡ Err x → Makes alone s s t m
makes_refused alone s t x m legal ticket refuses is = record {
  turns = [];
  went = went_none alone s legal;
  each = tt;
  few = omega arith;
  opened = ticket;
  may = may_refuse s.steps t x m refuses (inl (rw (← ticket.space) is));
  right = right_refuse t x m refuses;
}

pub makes_nothing : (alone : Bool) (s : Standing) (t : TicketParts) → IsLegal s.cache s.room s.steps
    → IsTicket s.steps t → Makes alone s s t made.NoMemory
makes_nothing alone s t legal ticket = record {
  turns = [];
  went = went_none alone s legal;
  each = tt;
  few = omega arith;
  opened = ticket;
  may = tt;
  right = tt;
}

placing_mine : (seat : ℕ) (t : TicketParts) (pages : ℕ) (at : Place) → t.seat ≡ seat
    → AllByRecursion (IsOf seat) (placing t pages at)
placing_mine seat t pages (place.New base) same = (same, tt)
placing_mine seat t pages (place.Held base) same = tt
placing_mine seat t pages place.NoRoom same = tt

placing_between : (found : List Step) (t : TicketParts) (pages : ℕ) (at : Place)
    → IsBetween t.seat t.number t.path (turn_of found (placing t pages at))
placing_between found t pages (place.New base) = inr (base, pages, refl)
placing_between found t pages (place.Held base) = inl refl
placing_between found t pages place.NoRoom = inl refl

makes_at : (alone : Bool) (old new : Standing) (t : TicketParts) (r : Ready) (reply : PlaceReply)
    (m : Made) → t.seat ≡ old.seat
    → AtTurn alone old new (λ a b. PlaceGives a t r reply b) → MayFinish new.steps t (outcome_of m)
    → IsRight t m → Makes alone old new t m
makes_at alone old new t r reply m same turn may right =
    let at : Place = place_for_ticket turn.found t r in
    record {
      turns = turn_of turn.found (placing t r.layout.pages at) ∷ [];
      went = went_once alone old new (λ a b. PlaceGives a t r reply b) turn
          (placing t r.layout.pages at) (placing_mine old.seat t r.layout.pages at same)
          turn.gives.steps;
      each = (placing_between turn.found t r.layout.pages at, tt);
      few = omega arith;
      opened = turn.gives.ticket;
      may = may;
      right = right;
    }

-- at a place
pub makes_placed : (alone : Bool) (old new : Standing) (t : TicketParts) (r : Ready) (base : ℕ)
    (m : Made) → OwnFrameLaw → t.seat ≡ old.seat → PlansTicket t r
    → AtTurn alone old new (λ a b. PlaceGives a t r (placed.At base) b) → MayMake r base m
    → Makes alone old new t m
makes_placed alone old new t r base m law same plans turn may =
    makes_at alone old new t r (placed.At base) m same turn
    (may_place new.steps t r plans.0 base m law turn.gives.ticket plans.1 turn.gives.stands may)
    (right_place t r plans.0 base m law plans.1 may)

-- where no place is free
pub makes_no_room : (alone : Bool) (old new : Standing) (t : TicketParts) (r : Ready) (m : Made)
    → t.seat ≡ old.seat → PlansTicket t r
    → AtTurn alone old new (λ a b. PlaceGives a t r placed.NoRoom b)
    → RefusesWith (refusal.NoRoom r.layout.pages r.evaluated.lo r.evaluated.hi) m
    → Makes alone old new t m
makes_no_room alone old new t r m same plans turn refuses =
    let plan : Plan = plans.0 in
    let x : Refusal = refusal.NoRoom r.layout.pages r.evaluated.lo r.evaluated.hi in
    let is : x ≡ refusal.NoRoom plan.pages plan.lo plan.hi =
    rw (plans.1.pages, plans.1.lo, plans.1.hi) refl in
    makes_at alone old new t r placed.NoRoom m same turn
    (may_refuse new.steps t x m refuses
    (inr (inl (
      plan,
      has_place new.steps t r plan place.NoRoom turn.gives.ticket plans.1
          turn.gives.stands,
      is,
    ))))
    (right_refuse t x m refuses)
