-- A laid out module is sound.
use Rattle.std.proofs.Common.{◌≡◌, ℕ, ◌^◌, ◌≤◌, List, [], All, length, Option, Some, None, Ok, refl}
use Rattle.std.proofs.Common.{sym, ap, subst, ◌∙◌, arith}
use Rattle.std.specs.Option.{option_or}
use Rattle.std.proofs.lemmas.Bool.Decides.{nat_tests}
use Rattle.std.proofs.lemmas.List.Elements.{All-weaker}
use Rattle.omos_model.specs.declared.fragment.Group.{Group}
use Rattle.omos_model.specs.declared.fragment.Group.TheVariants.{Code, Consts, Vars, Zeros}
use Rattle.omos_model.specs.declared.refusal.Refusal.{Refusal}
use Rattle.link_model.specs.Laws.{BoundsLaw}
use Rattle.link_model.specs.Groups.{groups_of}
use Rattle.link_model.specs.Layout.{all_pages, group_begin, places_of, slots_of}
use Rattle.link_model.specs.Module.{IsModule, plan_of_module, Module, Placing, found}
use Rattle.link_model.specs.Module.{parts_of_module, placing_of, terms_of_module}
use Rattle.link_model.specs.Plan.{Plan, no_start, plan_refusal, planned, too_large, unless_refused}
use Rattle.link_model.specs.Plan.{unresolved}
use Rattle.link_model.specs.Program.{Parts, object_of}
use Rattle.link_layout.proofs.Groups.{begins-of_groups, sizes-of_groups}
use Rattle.link_layout.proofs.Parts.{pieces-parts}
use Rattle.link_layout.proofs.Planned.{as_many}
use Rattle.link_model.specs.declared.groups.Groups.{Groups}
use Rattle.image_write.specs.inside.Groups.{AreGroups}
use Rattle.link_layout.specs.Pieces.{AreBounded, IsLawful, pieces_in}
use Rattle.image_write.specs.inside.Plans.{plan_with}
use Rattle.image_write.specs.inside.Sound.{IsSound}
use Rattle.image_write.specs.Written.{IsLayoutOf}
use Rattle.image_write.specs.inside.Standing.{LeavesStand}
use Rattle.image_write.proofs.Inside.{all-inside, all-low, fields-inside, slots-inside}
use Rattle.image_write.proofs.Lawful.{bounded}
use Rattle.image_write.proofs.Standing.{leaves-stand}

-- ---- the plan

unrefused : (r : Option Refusal) (p q : Plan) → unless_refused r p ≡ Ok q → (r ≡ None) × (p ≡ q)
unrefused None p q h = (refl, cc)
unrefused (Some x) p q h = absurd (cc)

first_none : (a b : Option Refusal) → option_or a b ≡ None → a ≡ None
first_none None b h = refl
first_none (Some x) b h = h

few_pages : (parts : Parts) → too_large parts ≡ None → all_pages parts ≤ 2047
few_pages parts h = grind (arith, nat_tests)

-- the layout is that of the program, and has few pages
abbrev pub program_plan : Module → Plan
program_plan m = planned (parts_of_module m) (found m.names) (terms_of_module m)

pub record IsPlanned (m : Module) (l : Placing) : Type 0 where
  pub plan : plan_of_module m ≡ Ok (program_plan m)
  pub placing : l ≡ placing_of (program_plan m)
  pub pages : all_pages (parts_of_module m) ≤ 2047

pub is-planned : (m : Module) (l : Placing) → IsLayoutOf m l → IsPlanned m l
is-planned m l laid =
    let parts = parts_of_module m in
    let split =
    unrefused (plan_refusal parts (found m.names) m.start) (program_plan m) laid.0 laid.1 in
    record {
      plan = laid.1 ∙ ap Ok (sym split.1);
      placing = laid.2 ∙ ap placing_of (sym split.1);
      pages =
          few_pages parts
          (first_none (too_large parts)
          (option_or (no_start (found m.names) m.start) (unresolved parts)) split.0);
    }

-- ---- groups

near : (g : Group) (parts : Parts) → all_pages parts ≤ 2047 → group_begin g parts ≤ 2 ^ 52
near Code parts few = omega arith
near Consts parts few = omega arith
near Vars parts few = omega arith
near Zeros parts few = omega arith

groups-stand : (x : Groups) (parts : Parts) → x ≡ groups_of parts → AreGroups x parts
groups-stand x parts is =
    record {
      sizes = sizes-of_groups x parts is;
      begins = begins-of_groups x parts is;
      slots = ap (λ (y : Groups). y.slots) is;
    }

-- ---- the module

pub sound : (law : BoundsLaw) (x : Groups) (m : Module) (l : Placing) → IsModule m → IsLayoutOf m l
    → x ≡ l.groups → All IsLawful m.leaves → IsSound x m l
sound law x m l ism laid groups lawful =
    let parts = parts_of_module m in
    let p = is-planned m l laid in
    let placing = p.placing in
    let pages = p.pages in
    let count = as_many m ism in
    let same = pieces-parts m.leaves m.landings count in
    let bounds : All (λ leaf. AreBounded (pieces_in leaf)) m.leaves =
    All-weaker IsLawful (λ leaf. AreBounded (pieces_in leaf)) (λ leaf h. bounded (object_of leaf) h)
    m.leaves lawful in
    let are : AreGroups x parts =
    groups-stand x parts (groups ∙ ap (λ (y : Placing). y.groups) placing) in
    let places : l.places ≡ places_of parts = ap (λ (y : Placing). y.places) placing in
    let slots : l.slots ≡ slots_of parts = ap (λ (y : Placing). y.slots) placing in
    let stand : LeavesStand parts l.places m.leaves =
    subst (λ (ps : List (List ℕ)). LeavesStand parts ps m.leaves) (sym places)
    (leaves-stand parts [] m.leaves m.landings count same bounds) in
    let within = slots-inside parts in
    let many : length l.slots ≡ length (slots_of parts) = ap length slots in
    record {
      own = groups;
      plan = p.plan ∙ ap Ok (sym (ap (plan_with m) placing));
      groups = are;
      near = λ g. subst (λ (n : ℕ). n ≤ 2 ^ 52) (sym (are.begins g)) (near g parts pages);
      small = omega arith;
      leaves = (law m ism).leaves;
      count = count;
      few = omega arith;
      lawful = lawful;
      same = same;
      stand = stand;
      low = all-low parts l.places m.leaves stand pages;
      pieces = all-inside parts l.places m.leaves stand lawful;
      slots = omega arith;
      fields = fields-inside parts l.places m.leaves stand lawful;
    }
