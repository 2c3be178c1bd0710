-- The words of the command line, without the program's name.
use Rattle.std.specs.Prelude.{◌≡◌, List, [], ◌∷◌, map, codes, String, string_bytes}
use Rattle.std.specs.declared.alloc.Global.{Global}

abbrev pub IsOnce : List (String Global) → Type 0
IsOnce words = map string_bytes words ≡ codes "once" ∷ []
