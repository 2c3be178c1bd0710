-- The file that is written is the image.
use Rattle.std.proofs.Common.{◌≡◌, ℕ, ◌+◌, List, ◌++◌, length, take, drop, map, replicate}
use Rattle.std.proofs.Common.{Some, None, Ok, Err, unwrap_or, sym, ap, subst, ◌∙◌, arith}
use Rattle.std.specs.Option.{option_map}
use Rattle.std.proofs.lemmas.List.{drop_at, length-append, length-replicate, take-append-drop}
use Rattle.std.proofs.lemmas.List.{take_at}
use Rattle.omos_base.specs.Fields.{zeros}
use Rattle.omos_model.specs.Numbers.{numbers_from}
use Rattle.omos_model.specs.declared.fragment.Group.TheVariants.{Zeros}
use Rattle.omos_model.specs.declared.refusal.Refusal.{Refusal}
use Rattle.link_model.specs.ImageBytes.{byte_of, entry_address, file_bytes, header_page}
use Rattle.link_model.specs.ImageBytes.{image_bytes, overflow, unless_overflow}
use Rattle.link_model.specs.Module.{Module, Placing}
use Rattle.link_model.specs.Plan.{Plan}
use Rattle.link_model.specs.Program.{references}
use Rattle.link_model.specs.declared.groups.Groups.{Groups}
use Rattle.image_write.specs.inside.Addresses.{slot_in}
use Rattle.image_write.specs.inside.Filled.{IsComplete, filled_byte, first_overflow}
use Rattle.image_write.specs.inside.Groups.{bytes_in_file}
use Rattle.image_write.specs.inside.Headers.{page_in}
use Rattle.image_write.specs.inside.Painted.{Painted}
use Rattle.image_write.specs.inside.Plans.{plan_with}
use Rattle.image_write.specs.inside.Sound.{IsSound}
use Rattle.image_write.specs.inside.Filled.{entry_in}
use Rattle.image_write.proofs.Bytes.{SlotsStand, address-same, body-bytes, overflow-same}
use Rattle.image_write.proofs.HeaderPages.{page-same}

image-ok : (plan : Plan) (base : ℕ) (bytes : List ℕ) → overflow plan base ≡ None
    → bytes ≡ file_bytes plan base
    → image_bytes plan base ≡ Ok bytes
unfolding image_bytes
image-ok plan base bytes none e = λ i. unless_overflow (none i) (sym e i)

image-err : (plan : Plan) (base : ℕ) (x : Refusal) → overflow plan base ≡ Some x
    → image_bytes plan base ≡ Err x
unfolding image_bytes
image-err plan base x some = ap (λ o. unless_overflow o (file_bytes plan base)) some

-- a page, and zeros behind it
pub rest-size : (items page : List ℕ) (head n : ℕ) → items ≡ page ++ zeros n → head ≡ length page
    → length items ≡ head + n
unfolding zeros
rest-size items page head n e h =
    let all = ap length e ∙ length-append page (replicate n 0) in
    omega (arith, all, length-replicate {A = ℕ} n 0)

rest-zeros : (items page : List ℕ) (head n : ℕ) → items ≡ page ++ zeros n → head ≡ length page
    → drop head items ≡ replicate n 0
unfolding zeros
rest-zeros items page head n e h = ap (drop head) e ∙ drop_at page (replicate n 0) head (sym h)

slots-stand : (x : Groups) (m : Module) (l : Placing) (base : ℕ) → IsSound x m l
    → SlotsStand (plan_with m l) base (slot_in l base)
slots-stand x m l base sound t =
    omega (arith, sound.groups.slots, ap (λ (y : Groups). y.slots) sound.own)

entry-same : (plan : Plan) (base : ℕ)
    → entry_in plan.places base plan.entry ≡ entry_address plan base
entry-same plan base = λ i. unwrap_or (option_map (λ t. address-same plan base t i) plan.entry) 0

pub written-ok : (x : Groups) (m : Module) (l : Placing) (base entry head : ℕ)
    (items new page : List ℕ)
    → IsSound x m l
    → entry ≡ entry_in l.places base l.entry → page ≡ page_in x base entry
    → items ≡ page ++ zeros x.begins.zeros → head ≡ length page → take head new ≡ take head items
    → IsComplete (plan_with m l) base (slot_in l base) m.leaves (drop head new) (drop head items)
    → image_bytes (plan_with m l) base ≡ Ok new
unfolding zeros
written-ok x m l base entry head items new page sound en pn bn hn kept filled =
    let plan = plan_with m l in
    let slot = slot_in l base in
    let slots = slots-stand x m l base sound in
    let old : drop head items ≡ replicate (bytes_in_file plan.parts) 0 =
    rest-zeros items page head x.begins.zeros bn hn
    ∙ ap (λ n. replicate n 0) (sound.groups.begins Zeros) in
    let body : drop head new ≡ map (byte_of plan base) (numbers_from 0 (bytes_in_file plan.parts)) =
    body-bytes plan base slot m.leaves (drop head new) slots sound.same sound.stand sound.lawful
    (subst (λ (xs : List ℕ). Painted (drop head new) (filled_byte plan base slot m.leaves) xs) old
    filled.painted) in
    let front : take head new ≡ header_page plan base =
    kept ∙ ap (take head) bn ∙ take_at page (replicate x.begins.zeros 0) head (sym hn) ∙ pn
    ∙ page-same x plan base entry sound.groups (en ∙ entry-same plan base) in
    image-ok plan base new (sym (overflow-same plan base slot slots (references plan.parts))
    ∙ filled.fit)
    (sym (take-append-drop head new) ∙ (λ i. front i ++ body i))

pub written-err : (x : Groups) (m : Module) (l : Placing) (base : ℕ)
    (y : Refusal)
    → IsSound x m l → first_overflow (plan_with m l) base (slot_in l base) m.leaves ≡ Some y
    → image_bytes (plan_with m l) base ≡ Err y
written-err x m l base y sound some =
    let plan = plan_with m l in
    image-err plan base y
    (sym (overflow-same plan base (slot_in l base) (slots-stand x m l base sound)
    (references plan.parts)) ∙ some)
