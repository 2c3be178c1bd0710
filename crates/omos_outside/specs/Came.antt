-- What a door answers.
use Rattle.std.specs.Prelude.{◌+◌, true}
use Rattle.omos_outside.specs.declared.door.Came.{Came}
use Rattle.omos_outside.specs.declared.door.Came.TheVariants.{Link, Shut, Failed}
use Rattle.omos_outside.specs.Links.{DoorState}

module _ {I O : Type 0} where
  -- the door once it has answered so
  abbrev pub after_accept : Came I O → DoorState → DoorState
  after_accept (Link source sink) door = record door { links = door.links + 1 }
  after_accept Shut door = record door { is_shut = true }
  after_accept Failed door = record door { faults = door.faults + 1 }

  -- where a link came, this holds of it
  abbrev pub IfLink : (I → O → Type 0) → Came I O → Type 0
  IfLink P (Link source sink) = P source sink
  IfLink P Shut = Unit {0}
  IfLink P Failed = Unit {0}
