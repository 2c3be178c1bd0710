use Rattle.std.proofs.Common.{◌≡◌, ◌≤◌, length, take}
use Rattle.image_write.specs.inside.Headers.{all_groups, loads_in}
use Rattle.image_write.proofs.headers.headers_in.Given as goal

abbrev pub invariant-loop-group : goal.invariant-loop-group
invariant-loop-group l =
    record {
      headers : l.headers ≡ loads_in l.groups l.base (take l.group-index all_groups);
      few : length l.headers ≤ l.group-index;
    }
