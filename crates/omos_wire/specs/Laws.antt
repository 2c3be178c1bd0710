-- Laws of frames and streams.
use Rattle.std.specs.Prelude.{◌≡◌, ℕ, List, [], ◌++◌, length}
use Rattle.omos_wire.specs.Answer.{Answer, IsReplyFrame}
use Rattle.omos_wire.specs.Message.{Message, frame, HasFrame}
use Rattle.omos_wire.specs.Sight.{Whole, Bad, sight}
use Rattle.omos_wire.specs.Stream.{Cut, Rest}
use Rattle.omos_wire.specs.declared.request.FrameCause.{FrameCause}

-- a frame is seen as that of its request, whatever follows it
abbrev pub SeenLaw : Type 0
SeenLaw =
    (m : Message) (rest : List ℕ) → HasFrame m
    → sight (frame m ++ rest) ≡ Whole m (length (frame m))

-- a stream has one list of frames and one rest
abbrev pub OneCutLaw : Type 0
OneCutLaw =
    (stream : List ℕ) (fs gs : List Message) (r q : Rest) → Cut stream fs r → Cut stream gs q
    → (fs ≡ gs) × (r ≡ q)

-- bytes that begin no frame begin none however they go on, and for the same cause
abbrev pub BadLaw : Type 0
BadLaw =
    (bytes more : List ℕ) (x : FrameCause) → sight bytes ≡ Bad x → sight (bytes ++ more) ≡ Bad x

-- no frame begins another
abbrev pub ApartLaw : Type 0
ApartLaw =
    (m n : Message) (rest : List ℕ) → HasFrame m → HasFrame n → frame n ≡ frame m ++ rest
    → (n ≡ m) × (rest ≡ [])

-- a frame is of one reply, so the reply that is read from it is the one that it was written for
abbrev pub ReplyLaw : Type 0
ReplyLaw = (bytes : List ℕ) (a b : Answer) → IsReplyFrame bytes a → IsReplyFrame bytes b → a ≡ b
