-- What the words of the client's command line ask for.
use Rattle.std.specs.Prelude.{ℕ, nat_le, Bool, true, List, [], ◌∷◌, length, codes, Option, None}
use Rattle.std.specs.Prelude.{Some, if◌then◌else◌}
use Rattle.command_words.specs.Words.{is_word}
use Rattle.omos_client.specs.declared.errand.Command.{Command}
use Rattle.omos_client.specs.declared.errand.Command.TheVariants.{Put, Blueprint, Link, Where}
use Rattle.omos_client.specs.declared.errand.Command.TheVariants.{Stats, Flush}
use Rattle.omos_client.specs.declared.errand.Errand.{Errand}

-- a command, with its path and its file, which are empty where it has none
pub record Asked : Type 0 where
  pub command : Command
  pub path : List ℕ
  pub file : List ℕ

abbrev pub asked : Command → List ℕ → List ℕ → Asked
asked command path file = record { command = command; path = path; file = file }

abbrev pub asked_of : Errand → Asked
asked_of e = asked e.command e.path.now e.file.now

-- a path of at most 2,000 bytes is sent as it stands
abbrev pub is_sent : List ℕ → Bool
is_sent path = nat_le (length path) 2000

abbrev pub file_command : List ℕ → Option Command
file_command word =
    if is_word word (codes "put") then Some Put
    else if is_word word (codes "blueprint") then Some Blueprint
    else if is_word word (codes "link") then Some Link
    else None

abbrev pub path_command : List ℕ → Option Command
path_command word =
    if is_word word (codes "where") then Some Where
    else if is_word word (codes "flush") then Some Flush
    else None

abbrev pub alone_command : List ℕ → Option Command
alone_command word = if is_word word (codes "stats") then Some Stats else None

abbrev pub asked_if : Bool → Option Command → List ℕ → List ℕ → Option Asked
asked_if sent (Some command) path file = if sent then Some (asked command path file) else None
asked_if sent None path file = None

-- `put PATH FILE`, `blueprint PATH FILE`, `link PATH FILE`
abbrev pub with_file : List ℕ → List ℕ → List ℕ → Option Asked
with_file word path file = asked_if (is_sent path) (file_command word) path file

-- `where PATH`, `flush PATH`
abbrev pub asked_of_path : List ℕ → List ℕ → Option Asked
asked_of_path word path = asked_if (is_sent path) (path_command word) path []

-- `stats`
abbrev pub lone_word : List ℕ → Option Asked
lone_word word = asked_if true (alone_command word) [] []

-- the socket, and what is asked
abbrev pub asked_by : List (List ℕ) → Option Asked
asked_by (socket ∷ word ∷ path ∷ file ∷ []) = with_file word path file
asked_by (socket ∷ word ∷ path ∷ []) = asked_of_path word path
asked_by (socket ∷ word ∷ []) = lone_word word
asked_by _ = None
