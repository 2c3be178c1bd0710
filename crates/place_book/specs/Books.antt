-- What contracts see of a book, and what it keeps.
use Rattle.std.specs.Prelude.{ℕ, ◌≤◌, List, map, IsTrue}
use Rattle.std.specs.List.{All}
use Rattle.std.specs.List.Sorted.{IsPermutation}
use Rattle.omos_model.specs.ImageParts.{is_range}
use Rattle.omos_model.specs.Places.{past_of}
use Rattle.place_book.specs.Spans.{span_of, AreInOrder}
use Rattle.omos_model.specs.declared.placement.Placement.{Placement}
use Rattle.place_book.specs.declared.span.Span.{Span}

-- the placements in order of placing, and how many there may be
pub record BookParts : Type 0 where
  pub placements : List Placement
  pub capacity : ℕ

-- a placement has 1 to 2,047 pages, in user space
pub record IsPlacement (p : Placement) : Type 0 where
  pub some : 1 ≤ p.pages
  pub few : p.pages ≤ 2047
  pub range : IsTrue (is_range p.base (past_of p))

-- the spans are the placements', in order
pub record AreSpansOf (placements : List Placement) (spans : List Span) : Type 0 where
  pub same : IsPermutation (map span_of placements) spans
  pub each : All IsPlacement placements
  pub order : AreInOrder spans
