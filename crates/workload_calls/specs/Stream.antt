-- The frames of a workload: n objects, what links them all, and one image more for each object but
-- the first; each image is linked twice.
use Rattle.std.specs.Prelude.{◌≡◌, ℕ, ◌-◌, ◌==◌, if◌then◌else◌, List, [], ◌∷◌, ◌++◌}
use Rattle.std.specs.Prelude.{codes, decimal, map}
use Rattle.std.specs.List.{AllByRecursion, flat_map}
use Rattle.omos_model.specs.Numbers.{numbers_from}
use Rattle.omos_wire.specs.Message.{Message, PutObject, PutBlueprint, Link, Stats, End, frame}
use Rattle.omos_wire.specs.Message.{HasFrame}
use Rattle.workload_calls.specs.Objects.{numbered, object}

abbrev pub object_path : ℕ → List ℕ
object_path i = numbered (codes "/o/") i

abbrev pub program_path : ℕ → List ℕ
program_path i = numbered (codes "/p/") i

abbrev pub all_path : List ℕ
all_path = codes "/all"

-- the paths of n objects, each behind a blank
abbrev pub operands : ℕ → List ℕ
operands n = flat_map (λ i. codes " " ++ object_path i) (numbers_from 0 n)

-- `(image (merge /o/0 /o/1 ..))`, and `(image /o/0)` where there is one object alone
abbrev pub all_text : ℕ → List ℕ
all_text n =
    if n == 1 then codes "(image /o/0)"
    else codes "(image (merge" ++ operands n ++ codes "))"

-- `(image (freeze fI (override /all /o/I)))`
abbrev pub program_text : ℕ → List ℕ
program_text i =
    codes "(image (freeze f" ++ decimal i ++ codes " (override /all " ++ object_path i
    ++ codes ")))"

abbrev pub put_object : ℕ → ℕ → Message
put_object n i = PutObject (object_path i) (object n i)

abbrev pub put_all : ℕ → Message
put_all n = PutBlueprint all_path (all_text n)

abbrev pub put_program : ℕ → Message
put_program i = PutBlueprint (program_path i) (program_text i)

abbrev pub twice : List ℕ → List Message
twice path = Link path ∷ Link path ∷ []

-- the numbers of all objects but the first
abbrev pub others : ℕ → List ℕ
others n = numbers_from 1 (n - 1)

abbrev pub objects : ℕ → List Message
objects n = map (put_object n) (numbers_from 0 n)

abbrev pub programs : ℕ → List Message
programs n = put_all n ∷ map put_program (others n)

abbrev pub links : ℕ → List Message
links n = twice all_path ++ flat_map (λ i. twice (program_path i)) (others n)

-- the requests of workload n
abbrev pub workload : ℕ → List Message
workload n = objects n ++ programs n ++ links n ++ Stats ∷ End ∷ []

-- their frames
abbrev pub stream_bytes : ℕ → List ℕ
stream_bytes n = flat_map frame (workload n)

-- the frames of these requests, each of which has one, were added to a stream
abbrev pub AddsFrames : List ℕ → List ℕ → List Message → Type 0
AddsFrames old new requests = (new ≡ old ++ flat_map frame requests)
    × AllByRecursion HasFrame requests
