use Rattle.std.proofs.Common.{◌≡◌, ◌≤◌, ◌<◌, ℕ, zero, suc, ◌+◌, ◌*◌, ◌/◌, ◌%◌, ◌^◌, ◌==◌, Bool}
use Rattle.std.proofs.Common.{true, false, ◌&&◌, cond, nat_le, IsTrue, List, [], ◌∷◌, ◌++◌, refl}
use Rattle.std.proofs.Common.{sym, inl, inr, codes, append_assoc, arith, length}
use Rattle.std.specs.Bool.{if◌then◌else◌}
use Rattle.std.specs.Fmt.{digits, digits_onto, digit_glyph}
use Rattle.std.specs.Char.{digit_value}
use Rattle.std.specs.List.{list_all}
use Rattle.std.specs.Str.Parse.{AllDigits}
use Rattle.std.proofs.lemmas.Bool.{and_parts}
use Rattle.std.proofs.lemmas.Fmt.{digits_is_IsNumeral}
use Rattle.omos_base.specs.SymNames.{IsSymName, is_name_byte}
use Rattle.omos_model.specs.ImageParts.{is_range, is_formed, nesting}
use Rattle.omos_model.specs.Names.{Name, same_name}
use Rattle.omos_model.specs.declared.entry.Start.{Start}
use Rattle.omos_model.specs.declared.entry.Start.TheVariants.{Named, NoEntry}
use Rattle.omos_model.proofs.Names.{same_name-true}
use Rattle.bp_tree.specs.Tokens.{Token, Open, Close, Word}
use Rattle.bp_tree.specs.Numerals.{IsNumeralOf}
use Rattle.bp_tree.specs.Grammar.{IsStart, IsRange}
use Rattle.bp_tree.specs.Canonical.{expr_text, start_text, range_text, hex_text, canonical_text}
use Rattle.bp_tree.specs.Named.{IsStartName}
use Rattle.bp_tree.specs.Laws.{RoundTripLaw}
use Rattle.bp_tree.proofs.Spelled.{Spells, IsWordly, spells_blank, spells_open, spells_close}
use Rattle.bp_tree.proofs.Spelled.{spells_as, spells_closed, spells_key, spells_named}
use Rattle.bp_tree.proofs.Spelled.{spells_argument, spells_whole, name_wordly}
use Rattle.bp_tree.proofs.Written.{written}
use Rattle.bp_tree.proofs.laws.canonical_texts_are_read_back.Goals as goal

-- ---- numbers

-- what so many more hexadecimal digits than one can say
abbrev room : ℕ → ℕ
room zero = 16
room (suc j) = 16 * room j

short_if : (b : Bool) (x y : List ℕ) (m : ℕ) → (b ≡ true → length x ≤ m)
    → (b ≡ false → length y ≤ m)
    → length (if b then x else y) ≤ m
short_if true x y m h k = h refl
short_if false x y m h k = k refl

short_digits : (k j n : ℕ) (acc : List ℕ) → n < room j
    → length (digits_onto k 16 false n acc) ≤ j + 1 + length acc
short_digits zero j n acc small = omega arith
short_digits (suc k) zero n acc small =
    short_if (n / 16 == 0) _ _ (zero + 1 + length acc) (λ e. omega arith)
    (λ e. absurd (grind (arith, small)))
short_digits (suc k) (suc j) n acc small =
    short_if (n / 16 == 0) _ _ (suc j + 1 + length acc) (λ e. omega arith)
    (λ e. omega (arith, short_digits k j (n / 16) (digit_glyph false (n % 16) ∷ acc) (omega arith)))

digit_byte : (c : ℕ) → digit_value c < 16 → is_name_byte c ≡ true
digit_byte c h = grind arith

digit_bytes : (ds : List ℕ) → AllDigits 16 ds → list_all is_name_byte ds ≡ true
digit_bytes [] h = refl
digit_bytes (c ∷ cs) h = rw (digit_byte c h.0, digit_bytes cs h.1) refl

number_written : (n : ℕ) → n < 2 ^ 64 → IsNumeralOf (hex_text n) n × IsWordly (hex_text n)
unfolding digits
number_written n small =
    let d = digits_is_IsNumeral 16 false (omega arith) (omega arith) n (omega arith) in
    let short : length (digits 16 false n) ≤ 16 = omega (arith, short_digits 64 15 n [] small) in (
      (inr (digits 16 false n, refl, d.0, short, sym d.1), small),
      (omega arith, digit_bytes (digits 16 false n) d.0.1),
    )

-- ---- parts that may be left out

abbrev IsBefore : List ℕ → List Token → Type 0
IsBefore text ws = (t : List ℕ) (vs : List Token) → Spells t vs → Spells (text ++ t) (ws ++ vs)

ended : (t : List ℕ) (vs : List Token) → Spells t vs → Spells (41 ∷ 32 ∷ t) (Close ∷ vs)
ended t vs h = spells_close (32 ∷ t) vs (spells_blank t vs h)

-- `(entry name) `
entry_before : (name : Name) → IsSymName name
    → IsBefore (codes "(entry " ++ name ++ codes ") ")
    (Open ∷ Word (codes "entry") ∷ Word name ∷ Close ∷ [])
entry_before name is t vs h =
    spells_as (codes "(entry " ++ name ++ codes ") " ++ t)
    (codes "(entry " ++ (name ++ 41 ∷ 32 ∷ t))
    (Open ∷ Word (codes "entry") ∷ Word name ∷ Close ∷ vs)
    (spells_key (codes "entry") (name ++ 41 ∷ 32 ∷ t) (Word name ∷ Close ∷ vs) (omega arith, refl)
    (spells_named name (41 ∷ 32 ∷ t) (Close ∷ vs) (name_wordly name is) (ended t vs h)
    (λ rest e. refl)))
    (simp append_assoc)

named_written : (name : Name) (usual : Bool) → IsSymName name
    → same_name name (codes "_start") ≡ usual
    → (ws : List Token) × IsStart ws (Named name)
    × IsBefore (cond usual [] (codes "(entry " ++ name ++ codes ") ")) ws
named_written name true is e = ([], inl (refl, same_name-true name (codes "_start") e), λ t vs h. h)
named_written name false is e =
    (Open ∷ Word (codes "entry") ∷ Word name ∷ Close ∷ [], inr (refl, is), entry_before name is)

start_written : (s : Start) → IsStartName s
    → (ws : List Token) × IsStart ws s × IsBefore (start_text s) ws
start_written (Named name) is = named_written name (same_name name (codes "_start")) is refl
start_written NoEntry is = (
  Open ∷ Word (codes "no_entry") ∷ Close ∷ [],
  refl,
  λ t vs h.
      spells_open (codes "no_entry) " ++ t) (Word (codes "no_entry") ∷ Close ∷ vs)
      (spells_named (codes "no_entry") (41 ∷ 32 ∷ t) (Close ∷ vs) (omega arith, refl) (ended t vs h)
      (λ rest e. refl)),
)

-- `(range lo hi) `
range_before : (a b : List ℕ) → IsWordly a → IsWordly b
    → IsBefore (codes "(range " ++ a ++ codes " " ++ b ++ codes ") ")
    (Open ∷ Word (codes "range") ∷ Word a ∷ Word b ∷ Close ∷ [])
range_before a b is is' t vs h =
    spells_as (codes "(range " ++ a ++ codes " " ++ b ++ codes ") " ++ t)
    (codes "(range " ++ (a ++ 32 ∷ (b ++ 41 ∷ 32 ∷ t)))
    (Open ∷ Word (codes "range") ∷ Word a ∷ Word b ∷ Close ∷ vs)
    (spells_key (codes "range") (a ++ 32 ∷ (b ++ 41 ∷ 32 ∷ t)) (Word a ∷ Word b ∷ Close ∷ vs)
    (omega arith, refl)
    (spells_argument a (b ++ 41 ∷ 32 ∷ t) (Word b ∷ Close ∷ vs) is
    (spells_named b (41 ∷ 32 ∷ t) (Close ∷ vs) is' (ended t vs h) (λ rest e. refl))))
    (simp append_assoc)

bounds_written : (lo hi : ℕ) (usual : Bool) → IsTrue (is_range lo hi)
    → ((lo == 4194304) && (hi == 1073741824)) ≡ usual
    → (ws : List Token) × IsRange ws lo hi
    × IsBefore (cond usual [] (codes "(range " ++ hex_text lo ++ codes " " ++ hex_text hi ++ codes
    ") ")) ws
bounds_written lo hi true is e = ([], inl (refl, grind (arith, e), grind (arith, e)), λ t vs h. h)
bounds_written lo hi false is e =
    let a = number_written lo (grind (arith, is)) in
    let b = number_written hi (grind (arith, is)) in (
      Open ∷ Word (codes "range") ∷ Word (hex_text lo) ∷ Word (hex_text hi) ∷ Close ∷ [],
      inr (hex_text lo, hex_text hi, refl, a.0, b.0, is),
      range_before (hex_text lo) (hex_text hi) a.1 b.1,
    )

-- ---- the image

regrouped : (s r x end : List ℕ)
    → codes "(image " ++ s ++ r ++ x ++ end ≡ codes "(image " ++ (s ++ (r ++ (x ++ end)))
regrouped s r x end = simp append_assoc

law : RoundTripLaw
law image lawful named =
    let parts = and_parts (is_range image.lo image.hi && is_formed image.body)
    (nat_le (nesting image.body + 1) 64) lawful in
    let whole = and_parts (is_range image.lo image.hi) (is_formed image.body) parts.0 in
    let low : nesting image.body ≤ 63 = grind (arith, parts.1) in
    let s = start_written image.start named.0 in
    let r = bounds_written image.lo image.hi
    ((image.lo == 4194304) && (image.hi == 1073741824)) whole.0 refl in
    let b = written 63 image.body (low, whole.1, named.1.names, named.1.paths) in
    let text = expr_text image.body ++ 41 ∷ [] in
    let ws = Open ∷ Word (codes "image") ∷ (s.0 ++ (r.0 ++ (b.0 ++ Close ∷ []))) in
    let spelled : Spells (canonical_text image) ws =
    spells_as (canonical_text image) (codes "(image " ++ (start_text image.start ++
    (range_text image.lo image.hi ++ text))) ws
    (spells_key (codes "image") (start_text image.start ++ (range_text image.lo image.hi ++ text))
    (s.0 ++ (r.0 ++ (b.0 ++ Close ∷ []))) (omega arith, refl)
    (s.2 (range_text image.lo image.hi ++ text) (r.0 ++ (b.0 ++ Close ∷ []))
    (r.2 text (b.0 ++ Close ∷ []) (spells_closed (expr_text image.body) b.0 b.2))))
    (regrouped (start_text image.start) (range_text image.lo image.hi) (expr_text image.body)
    (41 ∷ [])) in
    (s.0, r.0, b.0, spells_whole (canonical_text image) ws spelled, s.1, r.1, b.1)

pub returns : goal.returns
returns c = law
