-- The links that a seat has served.
use Rattle.std.specs.Prelude.{◌≡◌, ℕ, ◌<◌, ◌≤◌, false, List, [], ◌∷◌, ◌++◌, length, map, None, Some}
use Rattle.std.specs.List.{flat_map}
use Rattle.turn_lock.specs.Steps.{steps_by}
use Rattle.turn_lock.specs.Knowledge.{Knowledge}
use Rattle.omos_outside.specs.Links.{GivenBack}
use Rattle.omos_outside.specs.Stream.{Stream}
use Rattle.history_book.specs.declared.step.Step.{Step}
use Rattle.history_book.specs.Steps.{seat_of}
use Rattle.omos_hub.specs.Standing.{Standing}
use Rattle.omos_session.specs.Session.{IsSession}
use Rattle.omos_session.specs.declared.session.SessionEnd.{SessionEnd}
use Rattle.omos_session.specs.declared.session.SessionEnd.TheVariants as ending

-- numbers that never fall, none below the first bound or above the last
abbrev pub Climbs : ℕ → List ℕ → ℕ → Type 0
Climbs low [] high = low ≤ high
Climbs low (n ∷ ns) high = (low ≤ n) × Climbs n ns high

-- a link that was served: what was seen of the record before and after, the lengths that it had at
-- the turns, and the link as it was given back
pub record SlotVisit : Type 0 where
  pub before : List Step
  pub after : List Step
  pub turns : List ℕ
  pub link : GivenBack

-- a link's bytes when it came, and when it was given back
abbrev pub coming : GivenBack → Stream
coming link = record { given = []; left = link.given ++ link.left }

abbrev pub going : GivenBack → Stream
going link = record { given = link.given; left = link.left }

-- a session ends by a fault only where its source or its sink had one
abbrev pub HasCause : SessionEnd → GivenBack → Type 0
HasCause ending.ReadFault link = 0 < link.source_faults
HasCause ending.WriteFault link = 0 < link.sink_faults
HasCause _ link = Unit {0}

module _ (cache room seat : ℕ) where
  -- what the seat has seen and the turns that it had
  abbrev pub seated : List Step → List ℕ → Standing
  seated steps turns = record {
    seat = seat;
    cache = cache;
    room = room;
    steps = steps;
    turns = Some turns;
    crossed = None;
    line = None;
  }

  -- a session took what the link's source gave, and wrote what its sink holds
  pub record IsVisit (v : SlotVisit) : Type 0 where
    pub end : SessionEnd
    pub session :
        IsSession false (seated v.before []) (seated v.after v.turns) (Some (coming v.link))
        (Some (going v.link)) (Some []) (Some v.link.held) end
    pub cause : HasCause end v.link

  -- one after the other, from what was seen at first to what is seen at last
  abbrev pub AreVisits : List Step → List SlotVisit → List Step → Type 0
  AreVisits first [] last = last ≡ first
  AreVisits first (v ∷ vs) last = (v.before ≡ first) × IsVisit v × AreVisits v.after vs last

  -- the seat, which had no step before, served these links in order, with these turns, and has seen
  -- this record
  pub record WasServed (seen : List Step) (turns : List ℕ) (links : List GivenBack) : Type 0 where
    pub first : List Step
    pub none : steps_by seat_of seat first ≡ []
    pub visits : List SlotVisit
    pub each : AreVisits first visits seen
    pub turns_are : turns ≡ flat_map (λ (v : SlotVisit). v.turns) visits
    pub links_are : links ≡ map (λ (v : SlotVisit). v.link) visits
    pub never_fall : Climbs (length first) turns (length seen)

-- between the two a link was served: the pass had these turns more, and a visit
pub record HasVisit (p after : Knowledge Step) (link : GivenBack) : Type 0 where
  pub piece : List ℕ
  pub turns : after.turns ≡ p.turns ++ piece
  pub visit :
      IsVisit p.first p.second p.number
      record { before = p.seen; after = after.seen; turns = piece; link = link }
  pub climbs : Climbs (length p.seen) piece (length after.seen)
