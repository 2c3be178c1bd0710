-- A run of a run of bytes is a run of the block.
use Rattle.std.proofs.Common.{◌≡◌, ℕ, ◌+◌, ◌-◌, ◌≤◌, List, take, drop, length, ap, ◌∙◌}
use Rattle.std.proofs.Common.{arith}
use Rattle.std.proofs.lemmas.List.{drop-drop, drop-take, length-drop, length-take-le, take-take}
use Rattle.omos_base.specs.Runs.{run_of}

pub run_of_run : (block : List ℕ) (begin all at size : ℕ) → at + size ≤ all
    → run_of at size (run_of begin all block) ≡ run_of (begin + at) size block
run_of_run block begin all at size within =
    let whole : all ≡ at + (all - at) = omega (arith, within) in
    let rest = drop begin block in
    ap (λ n. take size (drop at (take n rest))) whole
    ∙ ap (take size) (drop-take at (all - at) rest)
    ∙ take-take size (all - at) (drop at rest) (omega (arith, within))
    ∙ ap (take size) (drop-drop at begin block)

-- as many bytes are in it as it says
pub length_run : (block : List ℕ) (at size : ℕ) → at + size ≤ length block
    → length (run_of at size block) ≡ size
length_run block at size within =
    let rest = length-drop at block in
    length-take-le size (drop at block) (omega (arith, rest, within))
