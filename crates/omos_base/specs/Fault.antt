-- Want of memory, and answers that it may take the place of.
use Rattle.std.specs.Prelude.{Result, Ok, Err}
use Rattle.omos_base.specs.declared.fault.Fault.{Fault}
use Rattle.omos_base.specs.declared.fault.Fault.TheVariants.{Refused, NoMemory}

-- a call found no memory
abbrev pub no_memory : {E : Type 0} → Fault E
no_memory = NoMemory

-- P holds of the value, or Q of the reason of a refusal; of want of memory nothing is said
abbrev pub MatchFault : {T E : Type 0} → Result T (Fault E) → (T → Type 0) → (E → Type 0) → Type 0
MatchFault (Ok value) P Q = P value
MatchFault (Err (Refused reason)) P Q = Q reason
MatchFault (Err NoMemory) P Q = Unit {0}
