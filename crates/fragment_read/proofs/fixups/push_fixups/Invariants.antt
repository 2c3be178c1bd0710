use Rattle.std.proofs.Common.{◌≡◌, ◌++◌, map}
use Rattle.std.specs.List.{filter_map}
use Rattle.omos_model.specs.FragmentOf.{fixup_of}
use Rattle.omos_model.specs.Numbers.{numbers_from}
use Rattle.fragment_read.specs.inside.Gathered.{AreGathered, gathered}
use Rattle.fragment_read.proofs.fixups.push_fixups.Given as goal

abbrev pub invariant-loop-j : goal.invariant-loop-j
invariant-loop-j l = record {
  right : AreGathered l.tables l.fields l.used;
  more : gathered l.tables l.fields l.used
      ≡ gathered l.tables l.initial.fields l.initial.used
      ++ filter_map (fixup_of l.tables) (map (λ j. (l.i, j)) (numbers_from 0 l.j));
}
