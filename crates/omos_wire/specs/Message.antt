-- Requests, and the frames that they are sent in.
use Rattle.std.specs.Prelude.{◌≡◌, ℕ, ◌≤◌, ◌<◌, ◌^◌, List, [], ◌∷◌, ◌++◌, length}
use Rattle.omos_base.specs.Endian.{little_bytes}
use Rattle.omos_wire.specs.Fielded.{field}
use Rattle.omos_wire.specs.declared.request.Request.{Request}
use Rattle.omos_wire.specs.declared.request.Request.TheVariants as code

-- a request by its bytes, wherever they lie
pub data Message : Type 0 where
  PutObject : List ℕ → List ℕ → Message
  PutBlueprint : List ℕ → List ℕ → Message
  Link : List ℕ → Message
  Places : List ℕ → Message
  Stats : Message
  Flush : List ℕ → Message
  End : Message

abbrev pub message_of : Request → Message
message_of (code.PutObject path object) = PutObject path.now object.now
message_of (code.PutBlueprint path text) = PutBlueprint path.now text.now
message_of (code.Link path) = Link path.now
message_of (code.Places path) = Places path.now
message_of code.Stats = Stats
message_of (code.Flush path) = Flush path.now
message_of code.End = End

-- the kind byte and the payload
abbrev pub body : Message → List ℕ
body (PutObject path object) = 1 ∷ field path ++ object
body (PutBlueprint path text) = 2 ∷ field path ++ text
body (Link path) = 3 ∷ field path
body (Places path) = 4 ∷ field path
body Stats = 5 ∷ []
body (Flush path) = 6 ∷ field path
body End = 7 ∷ []

-- four bytes of length, and that many bytes
unfoldable pub frame : Message → List ℕ
frame m = little_bytes 4 (length (body m)) ++ body m

abbrev pub path_of_message : Message → List ℕ
path_of_message (PutObject path object) = path
path_of_message (PutBlueprint path text) = path
path_of_message (Link path) = path
path_of_message (Places path) = path
path_of_message Stats = []
path_of_message (Flush path) = path
path_of_message End = []

-- what has a frame
pub record HasFrame (m : Message) : Type 0 where
  pub path : length (path_of_message m) < 2 ^ 16
  pub size : length (body m) ≤ 2097152

-- the bytes are the frame of the request
abbrev pub IsFrame : List ℕ → Message → Type 0
IsFrame bytes m = (bytes ≡ frame m) × HasFrame m
