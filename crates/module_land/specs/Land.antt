-- When a table is that of a path.
use Rattle.omos_model.specs.Names.{Name}
use Rattle.omos_model.specs.Namespace.{Space}
use Rattle.omos_model.specs.Term.{Term}
use Rattle.omos_model.specs.Visit.{Visit}
use Rattle.module_table.specs.Stands.{StandsFor}
use Rattle.module_table.specs.TableParts.{TableParts}
use Rattle.link_model.specs.Module.{IsTermOf}
use Rattle.link_model.specs.Program.{Terms}

-- the table stands for the path's term
abbrev pub IsTableOf : TableParts → Name → Space → Terms → Type 0
IsTableOf table path ns terms =
    (t : Term) × (v : Visit) × StandsFor table t × IsTermOf path ns terms t v
