-- Replies, and the frames that they are sent in.
use Rattle.std.specs.Prelude.{◌≡◌, ℕ, ◌+◌, ◌*◌, ◌≤◌, ◌<◌, ◌^◌, Bool, true, false, List, [], ◌∷◌}
use Rattle.std.specs.Prelude.{◌++◌, length, map}
use Rattle.std.specs.List.{AllByRecursion, flat_map}
use Rattle.omos_base.specs.Endian.{little_bytes}
use Rattle.omos_wire.specs.Fielded.{coded_bytes}
use Rattle.refusal_lines.specs.Codes.{IsField, row_of}
use Rattle.hub_store.specs.declared.counts.Counts.{Counts as Totals}
use Rattle.omos_model.specs.declared.placement.Placement.{Placement}
use Rattle.omos_wire.specs.declared.span.Span.{Span}
use Rattle.refusal_lines.specs.declared.refused.Refused.{Refused as Reason}
use Rattle.omos_wire.specs.declared.reply.Reply.{Reply}
use Rattle.omos_wire.specs.declared.reply.Reply.TheVariants as code

-- a reply by its values, wherever they lie
pub data Answer : Type 0 where
  Published : ℕ → Answer
  Image : ℕ → ℕ → List ℕ → Answer
  Refused : Reason → Answer
  Places : List Span → Answer
  Counts : Totals → Answer
  Flushed : Bool → Answer
  Bye : Answer
  NoMemory : Answer
  Full : Answer
  KeptFull : Answer

-- a placement without its path
abbrev pub wire_span : Placement → Span
wire_span p = record { base = p.base; pages = p.pages }

abbrev pub answer_of : Reply → Answer
answer_of (code.Published version) = Published version
answer_of (code.Image version base bytes) = Image version base bytes.now
answer_of (code.Refused x) = Refused x.now
answer_of (code.Places placements) = Places (map wire_span placements.now)
answer_of (code.Counts counts) = Counts counts
answer_of (code.Flushed held) = Flushed held
answer_of code.Bye = Bye
answer_of code.NoMemory = NoMemory
answer_of code.Full = Full
answer_of code.KeptFull = KeptFull

-- ---- frames

abbrev pub span_bytes : Span → List ℕ
span_bytes s = little_bytes 8 s.base ++ little_bytes 4 s.pages

-- the nine counts, in the order in which the frame has them
abbrev pub nine_counts : Totals → List ℕ
nine_counts n =
    n.version ∷ n.paths ∷ n.placements ∷ n.asked ∷ n.hits ∷ n.stored ∷ n.evicted ∷ n.held
    ∷ n.steps ∷ []

-- 1 where an item was held, else 0
abbrev pub flag : Bool → ℕ
flag true = 1
flag false = 0

-- the kind byte and the payload
abbrev pub payload : Answer → List ℕ
payload (Published version) = 129 ∷ little_bytes 8 version
payload (Image version base bytes) = 130 ∷ little_bytes 8 version ++ little_bytes 8 base ++ bytes
payload (Refused x) = 131 ∷ coded_bytes (row_of x)
payload (Places spans) = 132 ∷ little_bytes 4 (length spans) ++ flat_map span_bytes spans
payload (Counts counts) = 133 ∷ flat_map (little_bytes 8) (nine_counts counts)
payload (Flushed held) = 134 ∷ flag held ∷ []
payload Bye = 135 ∷ []
payload NoMemory = 136 ∷ []
payload Full = 137 ∷ []
payload KeptFull = 138 ∷ []

-- four bytes of length, and that many bytes
unfoldable pub reply_frame : Answer → List ℕ
reply_frame a = little_bytes 4 (length (payload a)) ++ payload a

-- ---- what a frame can hold

-- a number has its bytes
abbrev pub IsCodedSpan : Span → Type 0
IsCodedSpan s = (s.base < 2 ^ 64) × (s.pages < 2 ^ 32)

abbrev pub HasValues : Answer → Type 0
HasValues (Published version) = version < 2 ^ 64
HasValues (Image version base bytes) = (version < 2 ^ 64) × (base < 2 ^ 64)
HasValues (Refused x) = AllByRecursion IsField (row_of x).fields
HasValues (Places spans) = AllByRecursion IsCodedSpan spans
HasValues (Counts counts) = AllByRecursion (λ n. n < 2 ^ 64) (nine_counts counts)
HasValues (Flushed held) = Unit {0}
HasValues Bye = Unit {0}
HasValues NoMemory = Unit {0}
HasValues Full = Unit {0}
HasValues KeptFull = Unit {0}

-- how long a reply's length may be
abbrev pub longest_reply : ℕ
longest_reply = 16777216

-- a reply may be sent where it isn't too long, as an image or a list of placements alone could be
abbrev pub IsSendable : Answer → Type 0
IsSendable (Image version base bytes) = 17 + length bytes ≤ longest_reply
IsSendable (Places spans) = 5 + 12 * length spans ≤ longest_reply
IsSendable _ = Unit {0}

-- the bytes are the frame of the reply
pub record IsReplyFrame (bytes : List ℕ) (a : Answer) : Type 0 where
  pub frame : bytes ≡ reply_frame a
  pub size : length (payload a) ≤ longest_reply
  pub values : HasValues a

-- its own frame is one that it is read back from
abbrev pub IsReadBack : Answer → Type 0
IsReadBack a = IsReplyFrame (reply_frame a) a
