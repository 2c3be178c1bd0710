-- What a decoder has next.
use Rattle.std.specs.Prelude.{◌≡◌, ℕ, ◌+◌, ◌<◌, List, ◌++◌, length, drop}
use Rattle.omos_wire.specs.Message.{Message, message_of, frame, HasFrame}
use Rattle.omos_wire.specs.Sight.{Short, Bad, sight}
use Rattle.omos_wire.specs.Stream.{Held}
use Rattle.omos_wire.specs.declared.look.Look.{Look}
use Rattle.omos_wire.specs.declared.look.Look.TheVariants as look
use Rattle.omos_wire.specs.declared.decoder.Found.{Found}
use Rattle.omos_wire.specs.declared.decoder.Found.TheVariants as code

-- the request begins the bytes, which are n in its frame
pub record IsFramed (bytes : List ℕ) (m : Message) (n : ℕ) : Type 0 where
  pub split : bytes ≡ frame m ++ drop n bytes
  pub size : n ≡ length (frame m)
  pub fits : HasFrame m

-- what was seen at the front of the bytes
abbrev pub Sees : Look → List ℕ → Type 0
Sees (look.Whole request size) bytes = IsFramed bytes (message_of request) size
Sees look.Short bytes = sight bytes ≡ Short
Sees (look.Bad cause) bytes = sight bytes ≡ Bad cause

-- this request was handed out, with its bytes
pub record Took (old : Held) (m : Message) (new : Held) : Type 0 where
  pub bytes : old.waiting ≡ frame m ++ new.waiting
  pub place : new.place ≡ old.place + length (frame m)
  pub fits : HasFrame m

-- a request is handed out with its bytes; else nothing changes, and no frame begins, or not enough
-- of one
abbrev pub Handed : Held → Found → Held → Type 0
Handed old (code.Request request) new = Took old (message_of request) new
Handed old code.More new =
    (new ≡ old) × (sight old.waiting ≡ Short) × (length old.waiting < 2097156)
Handed old (code.Bad place cause) new =
    (new ≡ old) × (sight old.waiting ≡ Bad cause) × (place ≡ old.place)
