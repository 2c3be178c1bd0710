-- What the replies of a session say in all.
use Rattle.std.specs.Prelude.{ℕ, ◌+◌, ◌-◌, ◌<◌, ◌≤◌, ◌^◌, ◌≡◌, ◌==◌, ◌&&◌, if◌then◌else◌}
use Rattle.std.specs.Prelude.{Bool, true, false, List, length}
use Rattle.std.specs.Prelude.{filter_map, fold, slice_index, Option, Some, None}
use Rattle.std.specs.List.{flat_map}
use Rattle.omos_base.specs.Fields.{number_at}
use Rattle.history_book.specs.Told.{first_of}
use Rattle.hub_store.specs.declared.counts.Counts.{Counts as Totals}
use Rattle.omos_wire.specs.Answer.{Answer, Image, Counts, NoMemory, reply_frame}
use Rattle.workload_calls.specs.declared.replies.Figures.{Figures}
use Rattle.workload_calls.specs.declared.replies.Said.{Said}
use Rattle.workload_calls.specs.declared.replies.Said.TheVariants as said
use Rattle.workload_calls.specs.declared.replies.Sums.{Sums}

abbrev pub is_image_reply : Answer → Bool
is_image_reply (Image version base file) = true
is_image_reply _ = false

-- how many bytes an image's file has
abbrev pub image_length : Answer → ℕ
image_length (Image version base file) = length file
image_length _ = 0

abbrev pub figures_of : Totals → Figures
figures_of n = record {
  version = n.version;
  placements = n.placements;
  hits = n.hits;
  evicted = n.evicted;
}

-- the figures of the counts, where a reply has them
abbrev pub figures_in : Answer → Option Figures
figures_in (Counts n) = Some (figures_of n)
figures_in _ = None

-- those of the first reply that has them
abbrev pub first_figures : List Answer → Option Figures
first_figures replies = first_of (filter_map figures_in replies)

-- the reply is no want of memory
abbrev pub HadMemory : Answer → Type 0
HadMemory reply = reply ≡ NoMemory → ⊥

-- ---- as they are read

-- the frames of these replies
abbrev pub replies_bytes : List Answer → List ℕ
replies_bytes replies = flat_map reply_frame replies

-- a number has eight bytes
abbrev pub AreFigures : Figures → Type 0
AreFigures f =
    (f.version < 2 ^ 64) × (f.placements < 2 ^ 64) × (f.hits < 2 ^ 64) × (f.evicted < 2 ^ 64)

abbrev pub HasFigures : Answer → Type 0
HasFigures (Counts n) = AreFigures (figures_of n)
HasFigures _ = Unit {0}

-- what a reply says that is summed up
abbrev pub said_of : Answer → Said
said_of (Image version base file) = said.Image (length file)
said_of (Counts n) = said.Counts (figures_of n)
said_of NoMemory = said.NoMemory
said_of _ = said.Other

abbrev pub first_option : Option Figures → Figures → Option Figures
first_option (Some before) f = Some before
first_option None f = Some f

-- the sums with one reply more
abbrev pub with_said : Sums → Said → Sums
with_said s (said.Image size) = record s { images = s.images + 1; bytes = s.bytes + size }
with_said s (said.Counts f) = record s { figures = first_option s.figures f }
with_said s said.NoMemory = record s { lacked = true }
with_said s said.Other = s

abbrev pub no_sums : Sums
no_sums = record { images = 0; bytes = 0; figures = None; lacked = false }

-- the sums with these replies more
abbrev pub sums_from : Sums → List Answer → Sums
sums_from s replies = fold (λ (sums : Sums) reply. with_said sums (said_of reply)) s replies

-- there is room for one reply more
abbrev pub CanTake : Sums → Said → Type 0
CanTake s (said.Image size) = (s.images < 2 ^ 63) × (s.bytes + size < 2 ^ 63)
CanTake s _ = Unit {0}

-- an image's file is shorter than its frame
abbrev pub IsReplyWithin : Said → ℕ → Type 0
IsReplyWithin (said.Image size) long = size ≤ long
IsReplyWithin _ long = Unit {0}

-- ---- as they lie in their frames

-- the figures of a frame of counts, which begin behind its length and kind
abbrev pub figures_at : List ℕ → Figures
figures_at frame = record {
  version = number_at 8 5 frame;
  placements = number_at 8 21 frame;
  hits = number_at 8 37 frame;
  evicted = number_at 8 53 frame;
}

-- what a frame of this kind and length says
abbrev pub said_by : ℕ → ℕ → Figures → Said
said_by kind size figures =
    if kind == 130 then said.Image (size - 21)
    else if kind == 133 && size == 77 then said.Counts figures
    else if kind == 136 then said.NoMemory
    else said.Other

abbrev pub said_at : List ℕ → Said
said_at frame = said_by (slice_index frame 4) (length frame) (figures_at frame)
