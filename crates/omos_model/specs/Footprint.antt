-- What a path's term depends on.
use Rattle.std.specs.Prelude.{List, Option, Some, None, Ok, Err}
use Rattle.std.specs.List.{filter_map}
use Rattle.omos_model.specs.Names.{Name}
use Rattle.omos_model.specs.Namespace.{Space, look_up}
use Rattle.omos_model.specs.Expansion.{Visited, expansion}
use Rattle.omos_model.specs.Term.{Term}
use Rattle.omos_model.specs.declared.entry.Stamped.{Stamped}

abbrev pub footprint_of : Space → Visited Term → Option (List Stamped)
footprint_of ns (Ok r) = Some (filter_map (look_up ns) r.1.read)
footprint_of ns (Err x) = None

-- the paths that expansion reads, in order of first reading, with their stamps and entries
abbrev pub footprint : Space → Name → Option (List Stamped)
footprint ns p = footprint_of ns (expansion ns p)
