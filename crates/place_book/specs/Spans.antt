-- The addresses of placements, in order.
use Rattle.std.specs.Prelude.{ℕ, ◌+◌, ◌^◌, ◌≤◌, ◌<◌, nat_lt, Bool, ◌&&◌, if◌then◌else◌, List, []}
use Rattle.std.specs.Prelude.{◌∷◌}
use Rattle.std.specs.List.{All}
use Rattle.omos_model.specs.Places.{past_of}
use Rattle.omos_model.specs.declared.placement.Placement.{Placement}
use Rattle.place_book.specs.declared.span.Span.{Span}

abbrev pub span_of : Placement → Span
span_of p = record { base = p.base; past = past_of p }

-- so many bytes from the base on meet the span
abbrev pub meets : ℕ → ℕ → Span → Bool
meets bytes base s = nat_lt s.base (base + bytes) && nat_lt base s.past

-- the next base to try, once the span is seen
abbrev pub next_base : ℕ → ℕ → Span → ℕ
next_base bytes base s = if meets bytes base s then s.past else base

abbrev pub begins_after : ℕ → Span → Bool
begins_after base s = nat_lt base s.base

-- it has a byte, far below the end of all addresses
abbrev pub IsSpan : Span → Type 0
IsSpan s = (s.base < s.past) × (s.past < 2 ^ 62)

-- each ends before the later ones begin
abbrev pub AreInOrder : List Span → Type 0
AreInOrder [] = Unit {0}
AreInOrder (s ∷ ss) = All (λ t. s.past ≤ t.base) ss × AreInOrder ss
