-- Where the parts of a plain object lie in its file.
use Rattle.std.specs.Prelude.{ℕ, ◌+◌, ◌*◌, ◌/◌}
use Rattle.workload.specs.declared.plan.Plan.{Plan}

-- the least multiple of 8 that is so much or more
abbrev pub next_eight : ℕ → ℕ
next_eight size = (size + 7) / 8 * 8

-- Section 1 begins behind the ELF header, each other section at the next multiple of 8 after the
-- one before, and the section headers at the next multiple of 8 after the last.
unfoldable pub object_plan : ℕ → ℕ → ℕ → ℕ → Plan
object_plan code relas symbols strings =
    let relas_at = next_eight (64 + code) in
    let symbols_at = next_eight (relas_at + relas) in
    let strings_at = next_eight (symbols_at + symbols) in
    record {
      code = record { offset = 64; size = code };
      relas = record { offset = relas_at; size = relas };
      symbols = record { offset = symbols_at; size = symbols };
      strings = record { offset = strings_at; size = strings };
      headers = next_eight (strings_at + strings);
    }
