-- The term of an object's path where nothing else is published.
use Rattle.std.proofs.Common.{◌≡◌, ℕ, zero, suc, ◌+◌, ◌≤◌, Bool, true, false, [], ◌∷◌, Option, Some}
use Rattle.std.proofs.Common.{None, Ok, Err}
use Rattle.std.proofs.Common.{refl, sym, ap, ◌∙◌, subst, cond, length, arith}
use Rattle.std.specs.Prelude.{nat_le}
use Rattle.std.specs.List.{cons_option}
use Rattle.std.specs.Option.{option_map}
use Rattle.std.proofs.lemmas.Bool.{and_parts, and_from, leb-true, le-leb}
use Rattle.omos_model.specs.FragmentParts.{FragmentParts, IsFragment, is_in_bounds, are_distinct}
use Rattle.omos_model.specs.Names.{Name}
use Rattle.omos_model.specs.Namespace.{Space, look_up}
use Rattle.omos_model.specs.Term.{Term, Leaf}
use Rattle.omos_model.specs.Expansion.{Source, Object, Visited, add_read, entered, expand}
use Rattle.omos_model.specs.Expansion.{first_visit, leaf, opened, site_of, source, source_of}
use Rattle.omos_model.specs.Expansion.{too_deep, unless_cycle}
use Rattle.omos_model.specs.Footprint.{footprint_of}
use Rattle.omos_model.specs.declared.entry.Entry.{Entry}
use Rattle.omos_model.specs.declared.entry.Entry.TheVariants as entry
use Rattle.omos_model.specs.declared.entry.Stamped.{Stamped}
use Rattle.omos_model.specs.declared.entry.Start.{Start}
use Rattle.omos_model.specs.declared.entry.Start.TheVariants.{Named}
use Rattle.omos_model.specs.declared.refusal.Refusal.TheVariants.{TooLarge}
use Rattle.omos_model.specs.declared.refusal.Site.{Site}
use Rattle.omos_model.specs.Visit.{Visit}
use Rattle.omos_model.proofs.Names.{same_name-refl}
use Rattle.omos_model.proofs.Walk.{after_leaf, has_room}
use Rattle.module_table.specs.Stands.{StandsForLeaf}
use Rattle.module_table.specs.TableParts.{TableParts}
use Rattle.link_model.specs.Module.{IsTermOf, alone, terms_with}
use Rattle.link_model.specs.Program.{Terms, start_name, terms_of}
use Rattle.module_land.specs.Land.{IsTableOf}

abbrev term_of : Name → FragmentParts → Term
term_of p f = Leaf (site_of p 0) 0 f

few_exports : (f : FragmentParts) → IsFragment f → length f.exports ≤ 65535
few_exports f h =
    let bounds = and_parts (is_in_bounds f) (are_distinct f.exports) h in
    let spots = and_parts _ _ bounds.0 in
    let pieces = and_parts _ _ spots.0 in
    let counts = and_parts _ _ pieces.0 in
    let two = and_parts _ _ counts.0 in
    let exports =
    and_parts (nat_le (length f.pieces) 69631) (nat_le (length f.exports) 65535) two.0 in
    leb-true (length f.exports) 65535 exports.1

few_fixups : (f : FragmentParts) → IsFragment f → length f.fixups ≤ 65535
few_fixups f h =
    let bounds = and_parts (is_in_bounds f) (are_distinct f.exports) h in
    let spots = and_parts _ _ bounds.0 in
    let pieces = and_parts _ _ spots.0 in
    let counts = and_parts _ _ pieces.0 in
    let two = and_parts _ (nat_le (length f.fixups) 65535) counts.0 in
    leb-true (length f.fixups) 65535 two.1

first_leaf : (p : Name) (f : FragmentParts) → IsFragment f
    → has_room (add_read p first_visit) f ≡ true
first_leaf p f h =
    let exports : 0 + length f.exports ≤ 524288 = omega (arith, few_exports f h) in
    let fixups : 0 + length f.fixups ≤ 524288 = omega (arith, few_fixups f h) in
    and_from (nat_le (0 + length f.exports) 524288) (nat_le (0 + length f.fixups) 524288)
    (le-leb (0 + length f.exports) 524288 exports) (le-leb (0 + length f.fixups) 524288 fixups)

found_alone : (p : Name) (f : FragmentParts)
    → look_up (alone p (entry.Object f)) p
    ≡ Some (record { path = p; stamp = 1; entry = entry.Object f })
found_alone p f =
    ap (λ b. cond b (Some (record { path = p; stamp = 1; entry = entry.Object f })) None)
    (same_name-refl p p refl)

leaf_is : (f : FragmentParts) (s : Site) (v : Visit) → has_room v f ≡ true
    → leaf f s v ≡ Ok (Leaf s v.leaves f, after_leaf f v)
leaf_is f s v room =
    let fits : Visited Term = Ok (Leaf s v.leaves f, after_leaf f v) in
    let not : Visited Term = Err (TooLarge s) in
    ap (λ (b : Bool). cond b fits not) room

-- a path of an object is its leaf
expand_object : (p : Name) (f : FragmentParts) → has_room (add_read p first_visit) f ≡ true
    → (ns : Name → Option Source) (depth : ℕ) → ns p ≡ Some (Object f)
    → expand ns depth [] false p p first_visit
    ≡ Ok (term_of p f, after_leaf f (add_read p first_visit))
unfolding expand
expand_object p f room ns zero e =
    ap (λ o. entered (λ x. unless_cycle [] p p (too_deep p p)) false p p o first_visit) e
    ∙ leaf_is f (site_of p 0) (add_read p first_visit) room
expand_object p f room ns (suc n) e =
    ap (λ o. entered (λ x. unless_cycle [] p p (opened (expand ns n (p ∷ []) true p) false p p x))
    false p p o first_visit) e
    ∙ leaf_is f (site_of p 0) (add_read p first_visit) room

lone_term : (p : Name) (f : FragmentParts) → IsFragment f
    → IsTermOf p (alone p (entry.Object f)) (terms_of (entry.Object f))
    (term_of p f) (after_leaf f (add_read p first_visit))
lone_term p f h =
    let ns = alone p (entry.Object f) in
    let found = found_alone p f in
    let there : source ns p ≡ Some (Object f) =
    ap (λ (o : Option Stamped). option_map (λ s. source_of s.entry) o) found in
    let expanded = expand_object p f (first_leaf p f h) (source ns) 32 there in
    record {
      expanded = expanded;
      unrefused = refl;
      listed =
          ap (footprint_of ns) expanded
          ∙ ap (λ (o : Option Stamped). Some (cons_option o [])) found;
      terms = ap (λ (o : Option Stamped). option_map (λ s. terms_of s.entry) o) found;
    }

-- what the table of the leaf is
pub is_table_of : (table : TableParts) (p : Name) (ns : Space) (start : Start) (e twin : Entry)
    → (f : FragmentParts) × (e ≡ entry.Object f) × IsFragment f → twin ≡ e
    → StandsForLeaf table 0 twin → ns ≡ alone p e → start ≡ Named start_name
    → IsTableOf table p ns (terms_with start 0x400000 0x40000000)
is_table_of table p ns start e twin h same stands at begins =
    let f = h.0 in
    let made : alone p (entry.Object f) ≡ ns = ap (alone p) (sym h.1) ∙ sym at in
    let term = lone_term p f h.2 in
    let v = after_leaf f (add_read p first_visit) in (
      term_of p f,
      v,
      stands (site_of p 0) f (same ∙ h.1),
      subst (λ (ts : Terms). IsTermOf p ns ts (term_of p f) v)
          (ap (λ (s : Start). terms_with s 0x400000 0x40000000) (sym begins))
          (subst (λ (space : Space). IsTermOf p space (terms_of (entry.Object f)) (term_of p f) v)
          made term),
    )
