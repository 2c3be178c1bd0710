-- What stands under the paths of a footprint decides what its path is.
use Rattle.std.proofs.Common.{◌≡◌, ◌≤◌, Bool, true, false, ◌||◌, List, [], ◌∷◌, Option, Some, None}
use Rattle.std.proofs.Common.{Ok, Err, refl, sym, ap, ◌∙◌, subst, cond, length, map, arith}
use Rattle.std.specs.Prelude.{slice_get}
use Rattle.std.specs.List.{filter_map, cons_option, IsDistinct, AllByRecursion}
use Rattle.std.specs.Option.{option_map}
use Rattle.std.proofs.lemmas.Bool.{true≢false}
use Rattle.std.proofs.lemmas.List.{length-map}
use Rattle.omos_model.specs.Names.{Name, same_name}
use Rattle.omos_model.specs.NameLists.{is_among}
use Rattle.omos_model.specs.Namespace.{Space, look_up}
use Rattle.omos_model.specs.Term.{Term}
use Rattle.omos_model.specs.Expansion.{Visited, expansion, first_visit, source, source_of}
use Rattle.omos_model.specs.Footprint.{footprint, footprint_of}
use Rattle.omos_model.specs.declared.entry.Stamped.{Stamped}
use Rattle.omos_model.specs.Visit.{Visit}
use Rattle.omos_model.proofs.Names.{same_name-true, same_name-swap, same_name-refl}
use Rattle.omos_model.proofs.PathsRead.{footprint_law, found_path}
use Rattle.link_model.specs.Answer.{answer_of_plan}
use Rattle.link_model.specs.Laws.{FrameLaw, OwnFrameLaw, HasEntries, SameLink}
use Rattle.link_model.specs.Plan.{plan_of, plan_of_expansion, terms_at}
use Rattle.link_model.specs.Program.{terms_of}
use Rattle.link_model.proofs.Frame.{Same, expand_same}

-- ---- the entries of paths that are all there

few : (a : Space) (ps : List Name) → length (filter_map (look_up a) ps) ≤ length ps
few a [] = omega arith
few a (p ∷ ps) = go (look_up a p) (few a ps)
  where
    go : (o : Option Stamped) → length (filter_map (look_up a) ps) ≤ length ps
        → length (cons_option o (filter_map (look_up a) ps)) ≤ length (p ∷ ps)
    go None h = omega arith
    go (Some s) h = omega arith

all_same : (a b : Space) (ps : List Name) → length (filter_map (look_up a) ps) ≡ length ps
    → HasEntries b (filter_map (look_up a) ps) → AllByRecursion (λ p. look_up a p ≡ look_up b p) ps
all_same a b [] n h = tt
all_same a b (p ∷ ps) n h = go (look_up a p) refl n h (few a ps) (all_same a b ps)
  where
    rest : List Stamped
    rest = filter_map (look_up a) ps

    go : (o : Option Stamped) → look_up a p ≡ o
        → length (cons_option o (filter_map (look_up a) ps)) ≡ length (p ∷ ps)
        → HasEntries b (cons_option o (filter_map (look_up a) ps))
        → length (filter_map (look_up a) ps) ≤ length ps
        → (length (filter_map (look_up a) ps) ≡ length ps → HasEntries b (filter_map (look_up a) ps)
        → AllByRecursion (λ q. look_up a q ≡ look_up b q) ps)
        → (look_up a p ≡ look_up b p) × AllByRecursion (λ q. look_up a q ≡ look_up b q) ps
    go None e m k l i = absurd (omega arith)
    go (Some s) e m k l i = (
      e ∙ sym k.0 ∙ ap (look_up b) (found_path a p s e),
      i (omega arith) k.1,
    )

entries_same : (a b : Space) (ps : List Name) → AllByRecursion (λ p. look_up a p ≡ look_up b p) ps
    → filter_map (look_up a) ps ≡ filter_map (look_up b) ps
entries_same a b [] h = refl
entries_same a b (p ∷ ps) h = λ i. cons_option (h.0 i) (entries_same a b ps h.1 i)

same_among : (a b : Space) (ps : List Name) → AllByRecursion (λ p. look_up a p ≡ look_up b p) ps
    → (q : Name) → is_among ps q ≡ true → look_up a q ≡ look_up b q
same_among a b [] h q e = absurd (true≢false (sym e))
same_among a b (p ∷ ps) h q e = go (same_name q p) refl e (same_among a b ps h.1 q)
  where
    go : (c : Bool) → same_name q p ≡ c → (c || is_among ps q) ≡ true
        → (is_among ps q ≡ true → look_up a q ≡ look_up b q) → look_up a q ≡ look_up b q
    go true d k i =
        let same : q ≡ p = same_name-true q p d in
        ap (look_up a) same ∙ h.0 ∙ ap (look_up b) (sym same)
    go false d k i = i k

first_among : (ps : List Name) (p : Name) → slice_get ps 0 ≡ Some p → is_among ps p ≡ true
first_among [] p h = cc
first_among (q ∷ qs) p h =
    let same : p ≡ q = cc in
    ap (λ (c : Bool). c || is_among qs p) (same_name-refl p q same)

-- ---- the law

from_same : (a b : Space) (path : Name) (r : Term × Visit) (y : Visited Term)
    → Same (source a) (source b) first_visit (Ok r) y
    → AllByRecursion (λ p. look_up a p ≡ look_up b p) r.1.read
    → y ≡ Ok r
from_same a b path r y h k =
    h.1 (λ q e. ap (option_map (λ (s : Stamped). source_of s.entry))
    (same_among a b r.1.read k q e))

-- where the expansion gave this and its entries stand in b
same_link : (a b : Space) (path : Name) (entries : List Stamped) (t : Term) (v : Visit)
    → expansion a path ≡ Ok (t, v) → footprint a path ≡ Some entries → HasEntries b entries
    → SameLink path a b
same_link a b path entries t v is listed has =
    let law = footprint_law a path t v entries is listed in
    let made : Some (filter_map (look_up a) v.read) ≡ Some entries = sym (ap (footprint_of a) is)
    ∙ listed in
    let same : filter_map (look_up a) v.read ≡ entries = cc in
    let count : length (filter_map (look_up a) v.read) ≡ length v.read =
    ap length same ∙ sym (length-map entries (λ (s : Stamped). s.path)) ∙ ap length law.0 in
    let all = all_same a b v.read count (subst (HasEntries b) (sym same) has) in
    let other : expansion b path ≡ Ok (t, v) =
    from_same a b path (t, v) (expansion b path)
    (subst (λ (x : Visited Term). Same (source a) (source b) first_visit x (expansion b path)) is
    (expand_same (source a) (source b) 32 [] false path path first_visit)) all in
    let expanded : expansion a path ≡ expansion b path = is ∙ sym other in
    let entry = same_among a b v.read all path (first_among v.read path law.1) in
    let planned : plan_of a path ≡ plan_of b path =
    λ i. plan_of_expansion (expanded i)
    (terms_at (option_map (λ (s : Stamped). terms_of s.entry) (entry i))) in
    record {
      expanded = expanded;
      entry = entry;
      listed =
          ap (footprint_of a) is
          ∙ ap Some (entries_same a b v.read all)
          ∙ sym (ap (footprint_of b) other);
      planned = planned;
      answered = λ base i. answer_of_plan (planned i) base;
    }

pub frame_law : FrameLaw
frame_law a b path entries listed has = go (expansion a path) refl listed
  where
    go : (x : Visited Term) → expansion a path ≡ x → footprint_of a x ≡ Some entries
        → SameLink path a b
    go (Ok r) e k = same_link a b path entries r.0 r.1 e listed has
    go (Err x) e k = cc

-- ---- the namespace that a footprint lists

-- an entry in front of others, whose paths are not its own, hides none of them
behind : (x : Stamped) (all xs : List Stamped)
    → AllByRecursion (λ y. same_name x.path y ≡ false) (map (λ s. s.path) xs)
    → AllByRecursion (λ s. look_up all s.path ≡ Some s) xs
    → AllByRecursion (λ s. look_up (x ∷ all) s.path ≡ Some s) xs
behind x all [] h k = tt
behind x all (s ∷ xs) h k = (
  ap (λ (c : Bool). cond c (Some x) (look_up all s.path)) (same_name-swap s.path x.path ∙ h.0)
      ∙ k.0,
  behind x all xs h.1 k.1,
)

own_entries : (xs : List Stamped) → IsDistinct same_name (map (λ s. s.path) xs)
    → HasEntries xs xs
unfolding IsDistinct
own_entries [] h = tt
own_entries (x ∷ xs) h = (
  ap (λ (c : Bool). cond c (Some x) (look_up xs x.path)) (same_name-refl x.path x.path refl),
  behind x xs xs h.0 (own_entries xs h.1),
)

pub own_frame_law : OwnFrameLaw
own_frame_law ns path entries listed = go (expansion ns path) refl listed
  where
    go : (x : Visited Term) → expansion ns path ≡ x → footprint_of ns x ≡ Some entries
        → SameLink path ns entries
    go (Ok r) e k =
        let law = footprint_law ns path r.0 r.1 entries e listed in
        same_link ns entries path entries r.0 r.1 e listed
        (own_entries entries (subst (IsDistinct same_name) (sym law.0) law.2))
    go (Err x) e k = cc
