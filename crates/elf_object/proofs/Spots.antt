-- Where names and sections stand in the file.
use Rattle.std.proofs.Common.{◌≡◌, ℕ, ◌+◌, ◌≤◌, Bool, true, false, List, length, take, drop, None}
use Rattle.std.proofs.Common.{sym, ap, ◌∙◌, arith}
use Rattle.std.proofs.lemmas.Bool.{leb-true}
use Rattle.std.specs.List.{prefix_len, take_while}
use Rattle.std.proofs.lemmas.List.{length-drop, length-take, take_min}
use Rattle.omos_base.specs.Runs.{run_of}
use Rattle.omos_base.proofs.Runs.{run_of_run}
use Rattle.omos_model.specs.ElfFields.{sh_offset, sh_size}
use Rattle.omos_model.specs.ElfFaults.{is_kept, is_nobits, object_fault}
use Rattle.elf_object.specs.TablesOf.{StandsAt}
use Rattle.elf_object.proofs.Right.{kept_inside}

-- what passes stands in front
front : (p : ℕ → Bool) (xs : List ℕ) → take (length (take_while p xs)) xs ≡ take_while p xs
front p xs =
    ap (λ n. take n xs) (length-take (prefix_len p xs) xs) ∙ take_min (prefix_len p xs) xs

shorter : (p : ℕ → Bool) (xs : List ℕ) → length (take_while p xs) ≤ length xs
shorter p xs = let h = length-take (prefix_len p xs) xs in omega (arith, h)

-- what passes from a place of the bytes on stands in the file, where the bytes do
pub stands_from : (file bytes : List ℕ) (at begin : ℕ) (p : ℕ → Bool) → StandsAt file at bytes
    → 1 ≤ length (take_while p (drop begin bytes))
    → (at + begin + length (take_while p (drop begin bytes)) ≤ length file)
    × (run_of (at + begin) (length (take_while p (drop begin bytes))) file
    ≡ take_while p (drop begin bytes))
stands_from file bytes at begin p stand some =
    let n = length (take_while p (drop begin bytes)) in
    let less = shorter p (drop begin bytes) in
    let rest = length-drop begin bytes in
    let inside : begin + n ≤ length bytes = omega (arith, less, rest, some) in
    let short = stand.0 in (
      omega (arith, inside, short),
      sym (run_of_run file at (length bytes) begin n inside)
          ∙ ap (run_of begin n) stand.1
          ∙ front p (drop begin bytes),
    )

-- a kept section that has bytes ends within the file
pub section_stands : (file : List ℕ) (i : ℕ) → object_fault file ≡ None → is_kept file i ≡ true
    → is_nobits file i ≡ false → sh_offset file i + sh_size file i ≤ length file
section_stands file i right kept bits =
    leb-true (sh_offset file i + sh_size file i) (length file) (kept_inside file i right kept bits)
