use Rattle.std.proofs.Common.{◌≡◌, ◌++◌, take}
use Rattle.bp_tree.specs.Canonical.{each_spaced}
use Rattle.bp_tree.proofs.printer.push_names.Given as goal

abbrev pub invariant-names : goal.invariant-names
invariant-names l = l.text ≡ l.initial.text ++ each_spaced (take l.name-index l.more)
