-- The objects of a workload: each calls the next one, and the last the first.
use Rattle.std.specs.Prelude.{ℕ, ◌+◌, ◌%◌, ◌==◌, if◌then◌else◌, List, [], ◌∷◌, ◌++◌, length, codes}
use Rattle.std.specs.Prelude.{decimal, Option, Some, None, replicate, negsuc}
use Rattle.workload.specs.Plain.{plain_bytes}
use Rattle.workload.specs.declared.plain.PlainRela.{PlainRela}
use Rattle.workload.specs.declared.plain.PlainSymbol.{PlainSymbol}

-- a text and a number in decimal, as `/o/17`
abbrev pub numbered : List ℕ → ℕ → List ℕ
numbered text number = text ++ decimal number

-- which object number i calls
abbrev pub next_object : ℕ → ℕ → ℕ
next_object n i = (i + 1) % n

-- a call whose field is zeros, a return, and ten bytes that do nothing
abbrev pub call_code : List ℕ
call_code = 232 ∷ 0 ∷ 0 ∷ 0 ∷ 0 ∷ 195 ∷ replicate 10 144

-- `f` and the number
abbrev pub function : ℕ → Option ℕ → PlainSymbol
function i offset = record { name = numbered (codes "f") i; offset = offset }

abbrev pub start : PlainSymbol
start = record { name = codes "_start"; offset = Some 0 }

-- its function, and `_start` in object 0
abbrev pub own_symbols : ℕ → List PlainSymbol
own_symbols i = function i (Some 0) ∷ (if i == 0 then start ∷ [] else [])

-- its own, and the function that it calls, where that is another's
abbrev pub symbols_of : ℕ → ℕ → List PlainSymbol
symbols_of n i =
    own_symbols i ++ (if next_object n i == i then [] else function (next_object n i) None ∷ [])

-- the number of the symbol that is called
abbrev pub called_symbol : ℕ → ℕ → ℕ
called_symbol n i = if next_object n i == i then 1 else length (symbols_of n i)

-- the call's relocation, of type R_X86_64_PLT32 (4) with addend -4
abbrev pub call_of : ℕ → ℕ → PlainRela
call_of n i = record { offset = 1; kind = 4; symbol = called_symbol n i; addend = negsuc 3 }

-- object i of n
abbrev pub object : ℕ → ℕ → List ℕ
object n i = plain_bytes call_code 16 (symbols_of n i) (call_of n i ∷ [])
