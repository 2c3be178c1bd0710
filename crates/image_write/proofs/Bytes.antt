-- The bytes that are written are those of the plan's image.
use Rattle.std.proofs.Common.{◌≡◌, ℕ, zero, suc, ◌+◌, ◌-◌, ◌*◌, ◌/◌, ◌%◌, ◌<◌, List, [], ◌∷◌, ◌++◌}
use Rattle.std.proofs.Common.{All, length, get_or, map, reverse, replicate, Bool, true, false, Some}
use Rattle.std.proofs.Common.{None, unwrap_or, refl, sym, ap, subst, ◌∙◌, arith}
use Rattle.std.specs.Prelude.{if◌then◌else◌, is_some, slice_get, slice_index}
use Rattle.std.specs.List.{find, flat_map, zip}
use Rattle.std.specs.Option.{option_map, option_or}
use Rattle.std.proofs.lemmas.List.{get_or-map, get_or-replicate, get_or_default, length-map}
use Rattle.std.proofs.lemmas.List.{length-replicate, same_lists}
use Rattle.std.proofs.lemmas.List.Elements.{All-append, All-head, All-nil, All-same, All-tail}
use Rattle.std.proofs.lemmas.Slice.Zip.{length-zip, get_or-zip}
use Rattle.omos_base.specs.Endian.{little_bytes}
use Rattle.omos_model.specs.FragmentParts.{is_piece, is_zeros, width}
use Rattle.omos_model.specs.Numbers.{numbers_from}
use Rattle.omos_model.specs.declared.entry.Entry.{Entry}
use Rattle.omos_model.specs.declared.fragment.Group.{Group}
use Rattle.omos_model.specs.declared.fragment.Group.TheVariants.{Code, Consts, Vars, Zeros}
use Rattle.omos_model.specs.declared.mark.Target.{Target}
use Rattle.omos_model.specs.declared.mark.Target.TheVariants.{Inside, Fixed}
use Rattle.omos_model.specs.declared.refusal.Refusal.TheVariants.{Overflow}
use Rattle.link_model.specs.Field.{field_value}
use Rattle.link_model.specs.ImageBytes.{address_of, byte_of, covers, field_byte, number_in_field}
use Rattle.link_model.specs.ImageBytes.{field_place, is_field_at, overflow_at, piece_byte}
use Rattle.link_model.specs.ImageBytes.{slot_address, slot_byte}
use Rattle.link_model.specs.Layout.{group_begin, program_pieces, slots_begin, target_at}
use Rattle.link_model.specs.Plan.{Plan, first_in}
use Rattle.link_model.specs.Program.{Parts, Reference, object_of, references}
use Rattle.image_write.specs.inside.Addresses.{address_in, slots_byte}
use Rattle.image_write.specs.inside.Fields.{field_number, last_byte, overflow_in}
use Rattle.image_write.specs.inside.Groups.{bytes_in_file}
use Rattle.image_write.specs.inside.Painted.{Painted}
use Rattle.link_layout.specs.Pieces.{IsLawful, all_pieces, pieces_in}
use Rattle.image_write.specs.inside.Sections.{PlacedPiece, byte_at, first_byte, placed_in}
use Rattle.image_write.specs.inside.Standing.{LeafStands, LeavesStand, StandsInGroup}
use Rattle.image_write.proofs.Lawful.{piece-bytes, tested}
use Rattle.image_write.proofs.Sectioned.{placed-more}
use Rattle.image_write.proofs.Slotted.{covers-below}

-- ---- addresses and fields

pub address-same : (plan : Plan) (base : ℕ) (t : Target)
    → address_in plan.places base t ≡ address_of plan base t
address-same plan base (Inside leaf piece offset) = refl
address-same plan base (Fixed value) = refl

abbrev pub SlotsStand : Plan → ℕ → (Target → ℕ) → Type 0
SlotsStand plan base slot = (t : Target) → slot t ≡ slot_address plan base t

field-same : (plan : Plan) (base : ℕ) (slot : Target → ℕ) → SlotsStand plan base slot
    → (r : Reference)
    → field_number plan.places slot base r ≡ number_in_field plan base r
field-same plan base slot h r =
    λ i. field_value r.fixup.kind (address-same plan base (target_at r.landing) i) r.fixup.addend
    (base + field_place plan r) (h (target_at r.landing) i)

pub overflow-same : (plan : Plan) (base : ℕ) (slot : Target → ℕ) → SlotsStand plan base slot
    → (rs : List Reference)
    → first_in (overflow_in plan.places slot base) rs ≡ first_in (overflow_at plan base) rs
overflow-same plan base slot h rs =
    λ i. first_in (λ r. if is_some (field-same plan base slot h r i) then None
    else Some (Overflow r.leaf r.number)) rs

last-same : (plan : Plan) (base : ℕ) (slot : Target → ℕ) → SlotsStand plan base slot → (x : ℕ)
    → last_byte plan.places slot base (references plan.parts) x ≡ field_byte plan base x
last-same plan base slot h x =
    λ i.
    option_map
    (λ r. slice_index
    (little_bytes (width r.fixup.kind) (unwrap_or (field-same plan base slot h r i) 0))
    (x - field_place plan r))
    (find (is_field_at plan x) (reverse (references plan.parts)))

slots-same : (plan : Plan) (base x : ℕ)
    → slots_byte plan.places base plan.slots (slots_begin plan.parts) (length plan.slots) x
    ≡ slot_byte plan base x
slots-same plan base x =
    λ i.
    if covers (slots_begin plan.parts) (8 * length plan.slots) x
    then option_map
    (λ t. slice_index (little_bytes 8 (address-same plan base t i))
    ((x - slots_begin plan.parts) % 8))
    (slice_get plan.slots ((x - slots_begin plan.parts) / 8))
    else None

-- ---- pieces

find-agree : {X : Type 0} (p q : X → Bool) (xs : List X) → All (λ x. p x ≡ q x) xs
    → find p xs ≡ find q xs
find-agree p q [] h = refl
find-agree p q (x ∷ xs) h =
    λ i. if All-head (λ y. p y ≡ q y) x xs h i then Some x
    else find-agree p q xs (All-tail (λ y. p y ≡ q y) x xs h) i

zeros-begin : (g : Group) (parts : Parts) → is_zeros g ≡ true
    → group_begin g parts ≡ bytes_in_file parts
zeros-begin Code parts h = cc
zeros-begin Consts parts h = cc
zeros-begin Vars parts h = cc
zeros-begin Zeros parts h = refl

-- below the file's end a piece has a byte where its size says so
abbrev Agrees : ℕ → PlacedPiece → Type 0
Agrees x y = covers y.0 (length y.1.bytes) x ≡ covers y.0 y.1.size x

agrees : (parts : Parts) (x : ℕ) → x < bytes_in_file parts → (y : PlacedPiece)
    → StandsInGroup parts y → is_piece y.1 ≡ true → Agrees x y
agrees parts x lt y h p = go (is_zeros y.1.group) refl where
  go : (b : Bool) → is_zeros y.1.group ≡ b → Agrees x y
  go true e =
      let z = zeros-begin y.1.group parts e in
      let from = h.from in
      let behind : x < y.0 = omega (arith, z, from) in
      covers-below y.0 (length y.1.bytes) x behind ∙ sym (covers-below y.0 y.1.size x behind)
  go false e =
      ap (λ n. covers y.0 n x) (piece-bytes y.1 p ∙ (λ i. if e i then 0 else y.1.size))

leaf-agrees : (parts : Parts) (x : ℕ) → x < bytes_in_file parts → (l : List ℕ × Entry)
    → LeafStands parts l → IsLawful l.1
    → All (Agrees x) (zip l.0 (pieces_in l.1))
leaf-agrees parts x lt l h lawful k d within =
    let n = h.count in
    let m = length-zip l.0 (pieces_in l.1) in
    let e = get_or-zip l.0 (pieces_in l.1) k d (omega (arith, m)) (omega (arith, m)) in
    subst (Agrees x) (sym e)
    (agrees parts x lt _ (subst (StandsInGroup parts) e (h.each k d within))
    ((tested (object_of l.1) lawful).pieces k d.1 (omega (arith, m))))

all-agree : (parts : Parts) (x : ℕ) → x < bytes_in_file parts
    → (places : List (List ℕ)) (leaves : List Entry)
    → length places ≡ length leaves → All (LeafStands parts) (zip places leaves)
    → All IsLawful leaves
    → All (Agrees x) (placed_in places leaves)
all-agree parts x lt [] [] n h lawful = All-nil (Agrees x)
all-agree parts x lt [] (leaf ∷ leaves) n h lawful = absurd (omega arith)
all-agree parts x lt (row ∷ places) [] n h lawful = absurd (omega arith)
all-agree parts x lt (row ∷ places) (leaf ∷ leaves) n h lawful =
    let here = All-head (LeafStands parts) (row, leaf) (zip places leaves) h in
    let first = leaf-agrees parts x lt (row, leaf) here (All-head IsLawful leaf leaves lawful) in
    let rest =
    all-agree parts x lt places leaves (omega arith)
    (All-tail (LeafStands parts) (row, leaf) (zip places leaves) h)
    (All-tail IsLawful leaf leaves lawful) in
    All-same (Agrees x) (placed_in (row ∷ places) (leaf ∷ leaves))
    (zip row (pieces_in leaf) ++ placed_in places leaves)
    (placed-more places leaves row leaf here.count)
    (All-append (Agrees x) (zip row (pieces_in leaf)) (placed_in places leaves) first rest)

first-same : (plan : Plan) (leaves : List Entry) (x : ℕ) → x < bytes_in_file plan.parts
    → program_pieces plan.parts ≡ all_pieces leaves
    → LeavesStand plan.parts plan.places leaves → All IsLawful leaves
    → first_byte (placed_in plan.places leaves) x ≡ piece_byte plan x
first-same plan leaves x lt same h lawful =
    ap (option_map (byte_at x))
    (find-agree (λ y. covers y.0 (length y.1.bytes) x) (λ y. covers y.0 y.1.size x)
    (placed_in plan.places leaves)
    (all-agree plan.parts x lt plan.places leaves h.count h.each lawful))
    ∙ ap (λ ps. option_map (byte_at x)
    (find (λ y. covers y.0 y.1.size x) (zip (flat_map (λ (row : List ℕ). row) plan.places) ps)))
    (sym same)

-- ---- the whole

length-numbers : (start n : ℕ) → length (numbers_from start n) ≡ n
length-numbers start zero = refl
length-numbers start (suc n) = ap suc (length-numbers (start + 1) n)

get_or-numbers : (start n k d : ℕ) → k < n → get_or (numbers_from start n) k d ≡ start + k
get_or-numbers start zero k d h = absurd (omega arith)
get_or-numbers start (suc n) zero d h = omega arith
get_or-numbers start (suc n) (suc k) d h =
    let e = get_or-numbers (start + 1) n k d (omega arith) in omega (arith, e)

byte-same : (plan : Plan) (base : ℕ) (slot : Target → ℕ) (leaves : List Entry)
    → SlotsStand plan base slot
    → program_pieces plan.parts ≡ all_pieces leaves → LeavesStand plan.parts plan.places leaves
    → All IsLawful leaves
    → (x : ℕ) → x < bytes_in_file plan.parts
    → unwrap_or (option_or (last_byte plan.places slot base (references plan.parts) x)
    (option_or
    (slots_byte plan.places base plan.slots (slots_begin plan.parts) (length plan.slots) x)
    (first_byte (placed_in plan.places leaves) x))) 0
    ≡ byte_of plan base x
byte-same plan base slot leaves slots same h lawful x lt =
    λ i.
    unwrap_or
    (option_or (last-same plan base slot slots x i)
    (option_or (slots-same plan base x i) (first-same plan leaves x lt same h lawful i))) 0

pub body-bytes : (plan : Plan) (base : ℕ) (slot : Target → ℕ) (leaves : List Entry) (new : List ℕ)
    → SlotsStand plan base slot
    → program_pieces plan.parts ≡ all_pieces leaves → LeavesStand plan.parts plan.places leaves
    → All IsLawful leaves
    → Painted new (λ x.
    option_or (last_byte plan.places slot base (references plan.parts) x)
    (option_or
    (slots_byte plan.places base plan.slots (slots_begin plan.parts) (length plan.slots) x)
    (first_byte (placed_in plan.places leaves) x))) (replicate (bytes_in_file plan.parts) 0)
    → new ≡ map (byte_of plan base) (numbers_from 0 (bytes_in_file plan.parts))
body-bytes plan base slot leaves new slots same h lawful painted =
    let n = bytes_in_file plan.parts in
    let zeros : length (replicate n 0) ≡ n = length-replicate n 0 in
    let numbers = length-numbers 0 n in
    let size = painted.size in
    same_lists new (map (byte_of plan base) (numbers_from 0 n))
    (painted.size ∙ zeros ∙ sym (length-map (numbers_from 0 n) (byte_of plan base) ∙ numbers))
    (λ k d lt.
    let within : k < n = omega (arith, size, zeros) in
    let zero_is : get_or (replicate n 0) k 0 ≡ 0 = get_or-replicate n k 0 0 within in
    get_or_default new k d 0 lt
    ∙ painted.each k (subst (λ (m : ℕ). k < m) (sym zeros) within)
    ∙ (λ i.
    unwrap_or (option_or (last_byte plan.places slot base (references plan.parts) k)
    (option_or
    (slots_byte plan.places base plan.slots (slots_begin plan.parts) (length plan.slots) k)
    (first_byte (placed_in plan.places leaves) k))) (zero_is i))
    ∙ byte-same plan base slot leaves slots same h lawful k within
    ∙ sym (get_or-map (byte_of plan base) (numbers_from 0 n) k 0 d
    (subst (λ (m : ℕ). k < m) (sym numbers) within)
    ∙ ap (byte_of plan base) (get_or-numbers 0 n k 0 within ∙ plus k)))
  where
    plus : (k : ℕ) → 0 + k ≡ k
    plus k = omega arith
