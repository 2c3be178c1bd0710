-- The lines that the client prints, and the statuses that tell them.
use Rattle.std.specs.Prelude.{ℕ, Bool, true, false, List, [], ◌∷◌, ◌++◌, length, codes, decimal}
use Rattle.std.specs.List.{flat_map}
use Rattle.std.specs.Fmt.{digits}
use Rattle.refusal_lines.specs.Codes.{coded_line, row_of}
use Rattle.hub_store.specs.declared.counts.Counts.{Counts as Totals}
use Rattle.omos_wire.specs.Answer.{Answer}
use Rattle.omos_wire.specs.Answer as reply
use Rattle.omos_wire.specs.declared.span.Span.{Span}

-- `0x` and lower-case digits, with no leading zero
abbrev pub hex_word : ℕ → List ℕ
hex_word n = codes "0x" ++ digits 16 false n

-- a placement: its base, and how many pages it has
abbrev pub span_line : Span → List ℕ
span_line s = hex_word s.base ++ codes " " ++ decimal s.pages ++ 10 ∷ []

-- an image: its version, its base and how many bytes its file has
abbrev pub image_line : ℕ → ℕ → ℕ → List ℕ
image_line version base size =
    codes "image version " ++ decimal version ++ codes " base " ++ hex_word base
    ++ codes " bytes " ++ decimal size ++ 10 ∷ []

abbrev pub counts_line : Totals → List ℕ
counts_line n =
    codes "version " ++ decimal n.version ++ codes " paths " ++ decimal n.paths
    ++ codes " placements " ++ decimal n.placements ++ codes " asked " ++ decimal n.asked
    ++ codes " hits " ++ decimal n.hits ++ codes " stored " ++ decimal n.stored
    ++ codes " evicted " ++ decimal n.evicted ++ codes " held " ++ decimal n.held
    ++ codes " steps " ++ decimal n.steps ++ 10 ∷ []

abbrev pub flag_line : Bool → List ℕ
flag_line true = codes "flushed 1\n"
flag_line false = codes "flushed 0\n"

-- what is printed of a reply
abbrev pub line_for : Answer → List ℕ
line_for (reply.Published version) = codes "published " ++ decimal version ++ 10 ∷ []
line_for (reply.Image version base bytes) = image_line version base (length bytes)
line_for (reply.Refused x) = coded_line (row_of x)
line_for (reply.Places spans) = flat_map span_line spans
line_for (reply.Counts counts) = counts_line counts
line_for (reply.Flushed held) = flag_line held
line_for reply.Bye = []
line_for reply.NoMemory = codes "no memory\n"
line_for reply.Full = codes "full\n"
line_for reply.KeptFull = codes "kept full\n"

-- 1 where the server refused or was full, 12 where it had no memory, and else 0
abbrev pub status_for : Answer → ℕ
status_for (reply.Refused x) = 1
status_for reply.Full = 1
status_for reply.KeptFull = 1
status_for reply.NoMemory = 12
status_for _ = 0
