-- The objects of a workload are small.
use Rattle.std.proofs.Common.{◌≡◌, ℕ, ◌+◌, ◌*◌, ◌-◌, ◌<◌, ◌≤◌, ◌^◌, ◌==◌, Bool, true, false, cond}
use Rattle.std.proofs.Common.{List, [], ◌∷◌, ◌++◌, length, arith, refl, sym, ap, subst, ◌∙◌}
use Rattle.std.proofs.Common.{length-append, Ok, Err}
use Rattle.std.proofs.lemmas.List.{length-replicate}
use Rattle.std.specs.Prelude.{codes, decimal, IfOk, Option, Result, Some, None, negsuc}
use Rattle.std.specs.List.{AllByRecursion}
use Rattle.omos_base.specs.Fields.{zeros}
use Rattle.elf_words.specs.declared.rela.Rela.{Rela}
use Rattle.elf_words.specs.declared.shdr.Shdr.{Shdr}
use Rattle.elf_words.specs.declared.sym.Sym.{Sym}
use Rattle.elf_words.specs.Ehdr.{ehdr_bytes}
use Rattle.elf_words.specs.Rela.{rela_bytes}
use Rattle.elf_words.specs.Shdr.{shdr_bytes}
use Rattle.elf_words.specs.Sym.{sym_bytes}
use Rattle.workload.specs.declared.plain.PlainRela.{PlainRela}
use Rattle.workload.specs.declared.plain.PlainSymbol.{PlainSymbol}
use Rattle.workload.specs.declared.plan.Plan.{Plan}
use Rattle.workload.specs.Headers.{file_header, section_headers}
use Rattle.workload.specs.Plain.{IsSmall, plain_bytes, plain_plan, placed}
use Rattle.workload.specs.Tables.{no_symbol, rela_of, rela_table, string_table, sym_of}
use Rattle.workload.specs.Tables.{symbols_from, terminated, symbol_entries}
use Rattle.workload_calls.specs.Objects.{call_code, call_of, function, object, start, symbols_of}
use Rattle.workload_calls.specs.Objects.{called_symbol, next_object}
use Rattle.workload_calls.proofs.Naming.{short_number}
use Rattle.workload.specs.Plan.{object_plan}

-- ---- records

length-sym : (s : Sym) → length (sym_bytes s) ≡ 24
unfolding sym_bytes
length-sym s = refl

length-rela : (r : Rela) → length (rela_bytes r) ≡ 24
unfolding rela_bytes
length-rela r = refl

length-shdr : (h : Shdr) → length (shdr_bytes h) ≡ 64
unfolding shdr_bytes
length-shdr h = refl

length-ehdr : (headers : ℕ) → length (ehdr_bytes (file_header headers)) ≡ 64
unfolding ehdr_bytes
length-ehdr headers = refl

length-zeros : (n : ℕ) → length (zeros n) ≡ n
unfolding zeros
length-zeros n = length-replicate n 0

-- ---- tables

length-symbols : (place : ℕ) (ss : List PlainSymbol)
    → length (symbols_from place ss) ≡ 24 * length ss
length-symbols place [] = refl
length-symbols place (s ∷ ss) =
    let next : ℕ = place + length s.name + 1 in
    omega (
      arith,
      length-append (sym_bytes (sym_of place s.offset)) (symbols_from next ss),
      length-sym (sym_of place s.offset),
      length-symbols next ss,
    )

length-table : (ss : List PlainSymbol) → length (symbol_entries ss) ≡ 24 + 24 * length ss
length-table ss =
    omega (
      arith,
      length-append (sym_bytes no_symbol) (symbols_from 1 ss),
      length-sym no_symbol,
      length-symbols 1 ss,
    )

abbrev pub IsShort : PlainSymbol → Type 0
IsShort s = length s.name ≤ 15

length-names : (ss : List PlainSymbol) → AllByRecursion IsShort ss
    → length (terminated ss) ≤ 16 * length ss
length-names [] short = omega arith
length-names (s ∷ ss) short =
    omega (
      arith,
      length-append (s.name ++ 0 ∷ []) (terminated ss),
      length-append s.name (0 ∷ []),
      short.0,
      length-names ss short.1,
    )

length-call : (r : PlainRela) → length (rela_table (r ∷ [])) ≡ 24
length-call r = length-append (rela_bytes (rela_of r)) [] ∙ omega (arith, length-rela (rela_of r))

-- ---- a whole object

pub small : (ss : List PlainSymbol) (r : PlainRela) → length ss ≤ 3 → AllByRecursion IsShort ss
    → IsSmall call_code ss (r ∷ [])
unfolding object_plan
small ss r few short = omega (arith, length-table ss, length-names ss short, length-call r)

pub small_as : (ss same : List PlainSymbol) (r : PlainRela) → same ≡ ss → length ss ≤ 3
    → AllByRecursion IsShort ss → IsSmall call_code same (r ∷ [])
small_as ss same r e few short =
    subst (λ (l : List PlainSymbol). IsSmall call_code l (r ∷ [])) (sym e) (small ss r few short)

length-placed : (place : ℕ) (bytes part : List ℕ) → length bytes ≤ place
    → length (placed place bytes part) ≡ place + length part
length-placed place bytes part h =
    omega (
      arith,
      length-append (bytes ++ zeros (place - length bytes)) part,
      length-append bytes (zeros (place - length bytes)),
      length-append (zeros (place - length bytes)) part,
      length-append bytes (zeros (place - length bytes) ++ part),
      length-zeros (place - length bytes),
    )

length-headers : (plan : Plan) (align : ℕ) → length (section_headers plan align) ≡ 320
unfolding shdr_bytes
length-headers plan align = refl

pub length-plain : (code : List ℕ) (align : ℕ) (ss : List PlainSymbol) (rs : List PlainRela)
    → length (plain_bytes code align ss rs) ≡ (plain_plan code ss rs).headers + 320
unfolding object_plan
length-plain code align ss rs =
    let plan : Plan = plain_plan code ss rs in
    let b0 : List ℕ = ehdr_bytes (file_header plan.headers) ++ code in
    let b1 : List ℕ = placed plan.relas.offset b0 (rela_table rs) in
    let b2 : List ℕ = placed plan.symbols.offset b1 (symbol_entries ss) in
    let b3 : List ℕ = placed plan.strings.offset b2 (string_table ss) in
    let l0 : length b0 ≡ 64 + length code =
    length-append (ehdr_bytes (file_header plan.headers)) code
    ∙ ap (λ n. n + length code) (length-ehdr plan.headers) in
    let l1 : length b1 ≡ plan.relas.offset + length (rela_table rs) =
    length-placed plan.relas.offset b0 (rela_table rs) (omega arith) in
    let l2 : length b2 ≡ plan.symbols.offset + length (symbol_entries ss) =
    length-placed plan.symbols.offset b1 (symbol_entries ss) (omega arith) in
    let l3 : length b3 ≡ plan.strings.offset + length (string_table ss) =
    length-placed plan.strings.offset b2 (string_table ss) (omega arith) in
    length-placed plan.headers b3 (section_headers plan align) (omega arith)
    ∙ ap (λ n. plan.headers + n) (length-headers plan align)

-- ---- the symbols of a workload's object

few_of : (a b : Bool) (x y z : PlainSymbol)
    → length ((x ∷ cond a (y ∷ []) []) ++ cond b [] (z ∷ [])) ≤ 3
few_of true true x y z = omega arith
few_of true false x y z = omega arith
few_of false true x y z = omega arith
few_of false false x y z = omega arith

short_of : (a b : Bool) (x y z : PlainSymbol) → IsShort x → IsShort y → IsShort z
    → AllByRecursion IsShort ((x ∷ cond a (y ∷ []) []) ++ cond b [] (z ∷ []))
short_of true true x y z h i j = (h, (i, tt))
short_of true false x y z h i j = (h, (i, (j, tt)))
short_of false true x y z h i j = (h, tt)
short_of false false x y z h i j = (h, (j, tt))

within_of : (a b : Bool) (x y z : PlainSymbol)
    → (1 ≤ cond b 1 (length ((x ∷ cond a (y ∷ []) []) ++ cond b [] (z ∷ []))))
    × (cond b 1 (length ((x ∷ cond a (y ∷ []) []) ++ cond b [] (z ∷ [])))
    ≤ length ((x ∷ cond a (y ∷ []) []) ++ cond b [] (z ∷ [])))
within_of true true x y z = (omega arith, omega arith)
within_of true false x y z = (omega arith, omega arith)
within_of false true x y z = (omega arith, omega arith)
within_of false false x y z = (omega arith, omega arith)

function_short : (i : ℕ) (o : Option ℕ) → i < 2 ^ 32 → IsShort (function i o)
function_short i o h = omega (arith, length-append (codes "f") (decimal i), short_number i h)

pub symbols_few : (n i : ℕ) → length (symbols_of n i) ≤ 3
symbols_few n i =
    few_of (i == 0) (next_object n i == i) (function i (Some 0)) start
    (function (next_object n i) None)

pub symbols_short : (n i : ℕ) → i < n → n ≤ 200 → AllByRecursion IsShort (symbols_of n i)
symbols_short n i there few =
    short_of (i == 0) (next_object n i == i) (function i (Some 0)) start
    (function (next_object n i) None)
    (function_short i (Some 0) (omega arith)) (omega arith)
    (function_short (next_object n i) None (omega arith))

pub called_within : (n i : ℕ) → (1 ≤ called_symbol n i)
    × (called_symbol n i ≤ length (symbols_of n i))
called_within n i =
    within_of (i == 0) (next_object n i == i) (function i (Some 0)) start
    (function (next_object n i) None)

-- ---- the object

object_as : (n i symbol : ℕ) (ss : List PlainSymbol) → ss ≡ symbols_of n i
    → symbol ≡ called_symbol n i
    → plain_bytes call_code 16 ss
    (record { offset = 1; kind = 4; symbol = symbol; addend = negsuc 3 } ∷ []) ≡ object n i
object_as n i symbol ss e f =
    ap (λ (l : List PlainSymbol). plain_bytes call_code 16 l
    (record { offset = 1; kind = 4; symbol = symbol; addend = negsuc 3 } ∷ [])) e
    ∙ ap (λ (k : ℕ). plain_bytes call_code 16 (symbols_of n i)
    (record { offset = 1; kind = 4; symbol = k; addend = negsuc 3 } ∷ [])) f

pub made_as : {E : Type 0} (n i symbol : ℕ) (ss : List PlainSymbol) (result : Result (List ℕ) E)
    → ss ≡ symbols_of n i → symbol ≡ called_symbol n i
    → IfOk result
    (λ bytes. bytes
    ≡ plain_bytes call_code 16 ss
    (record { offset = 1; kind = 4; symbol = symbol; addend = negsuc 3 } ∷ []))
    → IfOk result (λ bytes. bytes ≡ object n i)
made_as n i symbol ss (Ok bytes) e f h = h ∙ object_as n i symbol ss e f
made_as n i symbol ss (Err x) e f h = h

object_short : (n i : ℕ) → i < n → n ≤ 200 → length (object n i) ≤ 1048576
object_short n i there few =
    omega (
      arith,
      length-plain call_code 16 (symbols_of n i) (call_of n i ∷ []),
      small (symbols_of n i) (call_of n i) (symbols_few n i) (symbols_short n i there few),
    )

pub short_as : {E : Type 0} (n i : ℕ) (result : Result (List ℕ) E) → i < n → n ≤ 200
    → IfOk result (λ bytes. bytes ≡ object n i)
    → IfOk result (λ bytes. length bytes ≤ 1048576)
short_as n i (Ok bytes) there few h = omega (arith, ap length h, object_short n i there few)
short_as n i (Err x) there few h = h
