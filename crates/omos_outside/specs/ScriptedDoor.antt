-- A door in memory.
use Rattle.std.specs.Prelude.{◌≡◌, ℕ, ◌+◌, ◌≤◌, Bool, true, List, [], ◌∷◌, length, Some}
use Rattle.std.specs.List.{AllByRecursion}
use Rattle.omos_outside.specs.declared.door.Came.{Came}
use Rattle.omos_outside.specs.declared.door.Came.TheVariants.{Link, Shut, Failed}
use Rattle.omos_outside.specs.Links.{DoorState, GivenBack, link_of}
use Rattle.omos_outside.specs.Faults.{counted}
use Rattle.omos_outside.specs.Scripted.{ScriptedSource, ScriptedSink, FailsNext}

-- the links that wait, the sources and sinks that were given back; `fails` lists the calls that
-- fail, counted from 1, and `calls` were made
pub record ScriptedDoor : Type 0 where
  pub waiting : List (ScriptedSource × ScriptedSink)
  pub sources : List ScriptedSource
  pub sinks : List ScriptedSink
  pub fails : List ℕ
  pub calls : ℕ
  pub links : ℕ
  pub faults : ℕ
  pub is_shut : Bool

-- nothing has happened on the link
pub record IsFreshPair (link : ScriptedSource × ScriptedSink) : Type 0 where
  pub source : link.0.faults ≡ 0
  pub sink : link.1.faults ≡ 0
  pub given : link.0.stream.given ≡ []
  pub held : link.1.held ≡ []

-- nothing has happened on the links that wait, and each link that was or will be handed out has
-- room among those given back
pub record IsDoor (waiting : List (ScriptedSource × ScriptedSink))
    (links sources sinks most_sources most_sinks : ℕ) : Type 0 where
  pub fresh : AllByRecursion IsFreshPair waiting
  pub same : sources ≡ sinks
  pub back : sources ≤ links
  pub source_room : links + length waiting ≤ most_sources
  pub sink_room : links + length waiting ≤ most_sinks

abbrev pub scripted_link : ScriptedSource → ScriptedSink → GivenBack
scripted_link source sink = link_of (Some source.stream) (Some sink.held) source.faults sink.faults

abbrev pub given_back : List ScriptedSource → List ScriptedSink → List GivenBack
given_back [] sinks = []
given_back (source ∷ sources) [] = []
given_back (source ∷ sources) (sink ∷ sinks) = scripted_link source sink ∷ given_back sources sinks

abbrev pub state_of : ScriptedDoor → DoorState
state_of d = record {
  links = d.links;
  faults = d.faults;
  is_shut = d.is_shut;
  back = Some (given_back d.sources d.sinks);
}

-- it fails at the listed calls alone; else it hands out the next link, or is shut where none waits
abbrev pub Accepts : ScriptedDoor → Came ScriptedSource ScriptedSink → ScriptedDoor → Type 0
Accepts d (Link source sink) new = (FailsNext d.fails d.calls → ⊥)
    × (d.waiting ≡ (source, sink) ∷ new.waiting)
    × (new ≡ record d { waiting = new.waiting; calls = counted d.calls; links = d.links + 1 })
Accepts d Shut new = (FailsNext d.fails d.calls → ⊥) × (d.waiting ≡ [])
    × (new ≡ record d { calls = counted d.calls; is_shut = true })
Accepts d Failed new =
    FailsNext d.fails d.calls × (new ≡ record d { calls = counted d.calls; faults = d.faults + 1 })
