-- What the words of the server's command lines say.
use Rattle.std.specs.Prelude.{ℕ, ◌==◌, ◌≤◌, nat_le, Bool, false, ◌&&◌, List, [], ◌∷◌, length, codes}
use Rattle.std.specs.Prelude.{Option, None}
use Rattle.std.specs.Prelude.{Some, if◌then◌else◌}
use Rattle.std.specs.Cmp.Lexicographic.{pointwise}
use Rattle.omos_base.specs.Limits.{AreLimits, Counts}
use Rattle.command_words.specs.Numbers.{number_said}
use Rattle.command_words.specs.declared.server.SocketWords.{SocketWords}

-- the word is this text
abbrev pub is_word : List ℕ → List ℕ → Bool
is_word word text = pointwise (λ a b. a == b) word text

-- the words are this text alone
abbrev pub is_alone : List (List ℕ) → List ℕ → Bool
is_alone (word ∷ []) text = is_word word text
is_alone _ text = false

-- a cache holds 1 to 64 items, and a record 16 to 65,536 steps
abbrev pub are_limits : ℕ → ℕ → Bool
are_limits cache steps = nat_le 1 cache && nat_le cache 64 && nat_le 16 steps && nat_le steps 65536

abbrev pub limits_in : Option ℕ → Option ℕ → Option Counts
limits_in (Some cache) (Some steps) =
    if are_limits cache steps then Some (record { cache = cache; steps = steps }) else None
limits_in _ _ = None

-- the limits that two words say
abbrev pub limits_said : List ℕ → List ℕ → Option Counts
limits_said cache steps = limits_in (number_said cache) (number_said steps)

abbrev pub count_in : ℕ → Option ℕ → Option ℕ
count_in most (Some count) = if nat_le 1 count && nat_le count most then Some count else None
count_in most None = None

-- the count that a word says, if it lies from 1 to so much
abbrev pub count_said : ℕ → List ℕ → Option ℕ
count_said most word = count_in most (number_said word)

abbrev pub stdio_limits : List ℕ → List ℕ → List ℕ → Option Counts
stdio_limits command cache steps =
    if is_word command (codes "stdio") then limits_said cache steps else None

-- `stdio CACHE STEPS`
abbrev pub stdio_words : List (List ℕ) → Option Counts
stdio_words (command ∷ cache ∷ steps ∷ []) = stdio_limits command cache steps
stdio_words _ = None

abbrev pub workload_count : List ℕ → List ℕ → Option ℕ
workload_count command count =
    if is_word command (codes "workload") then count_said 200 count else None

-- `workload N`, for 1 to 200
abbrev pub workload_words : List (List ℕ) → Option ℕ
workload_words (command ∷ count ∷ []) = workload_count command count
workload_words _ = None

abbrev pub served_by : Option ℕ → Option ℕ → Option Counts → Option SocketWords
served_by (Some workers) (Some sessions) (Some limits) =
    Some (record {
      workers = workers;
      sessions = sessions;
      cache = limits.cache;
      steps = limits.steps;
    })
served_by _ _ _ = None

-- 1 to 16 workers, 1 to 1,000,000 sessions, and lawful limits
abbrev pub socket_numbers : List ℕ → List ℕ → List ℕ → List ℕ → Option SocketWords
socket_numbers workers sessions cache steps =
    served_by (count_said 16 workers) (count_said 1000000 sessions) (limits_said cache steps)

abbrev pub socket_of : List ℕ → List ℕ → List ℕ → List ℕ → List ℕ → List ℕ → Option SocketWords
socket_of command path workers sessions cache steps =
    if is_word command (codes "socket") && nat_le 1 (length path)
    then socket_numbers workers sessions cache steps
    else None

-- `socket PATH WORKERS SESSIONS CACHE STEPS`, of a path that isn't empty
abbrev pub socket_words : List (List ℕ) → Option SocketWords
socket_words (command ∷ path ∷ workers ∷ sessions ∷ cache ∷ steps ∷ []) =
    socket_of command path workers sessions cache steps
socket_words _ = None

-- the numbers lie in their ranges
abbrev pub AreWithin : SocketWords → Type 0
AreWithin words =
    (1 ≤ words.workers) × (words.workers ≤ 16) × (1 ≤ words.sessions) × (words.sessions ≤ 1000000)
    × AreLimits words.cache words.steps
