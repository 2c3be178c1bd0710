-- What stands at the front of bytes, found at the earliest byte.
use Rattle.std.specs.Prelude.{ℕ, ◌+◌, ◌≤◌, ◌<◌, ◌==◌, ◌||◌, ◌&&◌, nat_lt, if◌then◌else◌, List}
use Rattle.std.specs.Prelude.{length, slice_index, slice_range}
use Rattle.omos_base.specs.Fields.{number_at}
use Rattle.omos_wire.specs.Message.{Message, PutObject, PutBlueprint, Link, Places, Stats, Flush}
use Rattle.omos_wire.specs.Message.{End, message_of}
use Rattle.omos_wire.specs.declared.request.FrameCause.{FrameCause}
use Rattle.omos_wire.specs.declared.request.FrameCause.TheVariants as cause
use Rattle.omos_wire.specs.declared.look.Look.{Look}
use Rattle.omos_wire.specs.declared.look.Look.TheVariants as code

-- a request and how many bytes its frame has; less than a frame; or no frame, and why
pub data Sight : Type 0 where
  Whole : Message → ℕ → Sight
  Short : Sight
  Bad : FrameCause → Sight

abbrev pub sight_of : Look → Sight
sight_of (code.Whole request size) = Whole (message_of request) size
sight_of code.Short = Short
sight_of (code.Bad x) = Bad x

-- a whole frame has five bytes at least, and no more than there are; what is short of one has fewer
-- than the longest
abbrev pub IsLookWithin : Look → ℕ → Type 0
IsLookWithin (code.Whole request size) count = (5 ≤ size) × (size ≤ count)
IsLookWithin code.Short count = count < 2097156
IsLookWithin (code.Bad x) count = Unit {0}

-- the request of this kind; kinds 5 and 7 have no path
abbrev pub message : ℕ → List ℕ → List ℕ → Message
message kind path rest =
    if kind == 1 then PutObject path rest else
    (if kind == 2 then PutBlueprint path rest else
    (if kind == 3 then Link path else
    (if kind == 4 then Places path else Flush path)))

-- a frame of this length and kind, whose path has this many bytes
unfoldable pub with_path : ℕ → ℕ → ℕ → List ℕ → Sight
with_path size kind count bytes =
    if nat_lt size (3 + count) || (nat_lt 2 kind && nat_lt (3 + count) size) then Bad cause.Shape
    else
    (if nat_lt (length bytes) (4 + size) then Short else
    Whole
    (message kind (slice_range bytes 7 (7 + count)) (slice_range bytes (7 + count) (4 + size)))
    (4 + size))

-- a frame of this length and kind
unfoldable pub with_kind : ℕ → ℕ → List ℕ → Sight
with_kind size kind bytes =
    if kind == 0 || nat_lt 7 kind then Bad cause.Kind else
    (if kind == 5 || kind == 7
    then (if size == 1 then Whole (if kind == 5 then Stats else End) 5 else Bad cause.Shape)
    else (if nat_lt size 3 then Bad cause.Shape else
    (if nat_lt (length bytes) 7 then Short else with_path size kind (number_at 2 5 bytes) bytes)))

-- a frame of this length
unfoldable pub with_size : ℕ → List ℕ → Sight
with_size size bytes =
    if size == 0 || nat_lt 2097152 size then Bad cause.Length else
    (if nat_lt (length bytes) 5 then Short else with_kind size (slice_index bytes 4) bytes)

unfoldable pub sight : List ℕ → Sight
sight bytes = if nat_lt (length bytes) 4 then Short else with_size (number_at 4 0 bytes) bytes
