-- The long part of a reply, which is written from where it lies.
use Rattle.std.specs.Prelude.{ℕ, List, []}
use Rattle.omos_wire.specs.Answer.{Answer, Published, Image, Refused, Places, Counts, Flushed, Bye}
use Rattle.omos_wire.specs.Answer.{NoMemory, Full, KeptFull}

-- an image's file
abbrev pub bulk : Answer → List ℕ
bulk (Image version base bytes) = bytes
bulk (Places spans) = []
bulk (Published version) = []
bulk (Refused x) = []
bulk (Counts counts) = []
bulk (Flushed held) = []
bulk Bye = []
bulk NoMemory = []
bulk Full = []
bulk KeptFull = []

-- of a fixed width, but for an image's file
abbrev pub HasFixedWidth : Answer → Type 0
HasFixedWidth (Refused x) = ⊥
HasFixedWidth (Image version base bytes) = Unit {0}
HasFixedWidth (Places spans) = ⊥
HasFixedWidth (Published version) = Unit {0}
HasFixedWidth (Counts counts) = Unit {0}
HasFixedWidth (Flushed held) = Unit {0}
HasFixedWidth Bye = Unit {0}
HasFixedWidth NoMemory = Unit {0}
HasFixedWidth Full = Unit {0}
HasFixedWidth KeptFull = Unit {0}
