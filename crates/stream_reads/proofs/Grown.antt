-- Bytes that grew by a read into the room behind it.
use Rattle.std.proofs.Common.{◌≡◌, ℕ, ◌+◌, ◌≤◌, List, [], ◌++◌, length, take, drop, Option, ap, sym}
use Rattle.std.proofs.Common.{◌∙◌}
use Rattle.std.proofs.Common.{append_assoc, arith}
use Rattle.std.proofs.lemmas.List.{append-nil, length-take-le}
use Rattle.std.proofs.Math.Seq.{drop-append_seam, take-add}
use Rattle.omos_outside.specs.Stream.{Stream, Gives}
use Rattle.omos_outside.proofs.Known.{Gives-nil, Gives-then}
use Rattle.omos_outside.specs.declared.source.Got.{Got}
use Rattle.omos_outside.specs.declared.source.Got.TheVariants.{Bytes}
use Rattle.stream_reads.specs.More.{HasMore}
use Rattle.stream_reads.specs.Exact.{Grew}

-- the bytes are the file with room behind it, whose front was read; then what was not read was cut
-- off
pub more_by_piece : (before now : Option Stream) (file bytes grown : List ℕ) (room count : ℕ)
    → take (length file) bytes ≡ file → length bytes ≡ length file + room
    → grown ≡ take (length file + count) bytes → 1 ≤ count → count ≤ room
    → Gives before now (take count (drop (length file) bytes))
    → HasMore before now file grown room (Bytes count)
more_by_piece before now file bytes grown room count kept sized is some fits given =
    let piece : List ℕ = take count (drop (length file) bytes) in
    let whole : grown ≡ file ++ piece =
    is ∙ take-add (length file) count bytes ∙ ap (λ (front : List ℕ). front ++ piece) kept in
    let added : drop (length file) grown ≡ piece = ap (drop (length file)) whole
    ∙ drop-append_seam file piece in
    let size : length grown ≡ length file + count =
    ap length is ∙ length-take-le (length file + count) bytes (omega arith) in
    record {
      added = rw added whole;
      given = rw added given;
      few = omega arith;
      advances = omega arith;
    }

pub grew_none : (a : Option Stream) (bytes : List ℕ) → Grew a a bytes bytes
grew_none a bytes =
    record { more = []; added = sym (append-nil bytes); given = Gives-nil a }

-- and so did what one more read gave
pub grew_more : (a b c : Option Stream) (bytes grown more : List ℕ) (room : ℕ) (got : Got)
    → Grew a b bytes grown → HasMore b c grown more room got → Grew a c bytes more
grew_more a b c bytes grown more room got first second =
    let piece : List ℕ = drop (length grown) more in
    record {
      more = first.more ++ piece;
      added = second.added ∙ ap (λ (t : List ℕ). t ++ piece) first.added
          ∙ append_assoc bytes first.more piece;
      given = Gives-then a b c first.more piece first.given second.given;
    }
