-- A stamp says which publish an entry came by.
use Rattle.std.proofs.Common.{◌≡◌, ℕ, ◌+◌, ◌-◌, Bool, true, false, List, [], ◌∷◌, ◌++◌}
use Rattle.std.proofs.Common.{Ok, Err, Option, Some, None, refl, sym, ap, ◌∙◌, subst, cond, fold}
use Rattle.std.proofs.Common.{length, take}
use Rattle.std.proofs.Common.{drop, append_assoc, arith}
use Rattle.std.specs.Prelude.{slice_get}
use Rattle.std.specs.List.{filter_map, cons_option, AllByRecursion}
use Rattle.std.specs.Option.{option_map}
use Rattle.std.specs.Ordering.{match_ordering}
use Rattle.std.specs.declared.cmp.Ordering.{Ordering}
use Rattle.std.specs.declared.cmp.Ordering.TheVariants.{Less, Equal, Greater}
use Rattle.std.proofs.lemmas.List.{length_push, take-append-drop}
use Rattle.omos_model.specs.Names.{Name, same_name, name_cmp}
use Rattle.omos_model.specs.Namespace.{Space, look_up, with_entry, stamped_from, namespace_at}
use Rattle.omos_model.specs.Expansion.{Visited, expansion}
use Rattle.omos_model.specs.Term.{Term}
use Rattle.omos_model.specs.Footprint.{footprint_of}
use Rattle.omos_model.specs.declared.entry.Entry.{Entry}
use Rattle.omos_model.specs.declared.entry.Stamped.{Stamped}
use Rattle.link_model.specs.Laws.{HasEntries, IsCurrent, StampLaw, CurrentLaw, stamp_at}
use Rattle.link_model.proofs.Footprints.{frame_law}

abbrev Puts : Type 0
Puts = List (Name × Entry)

-- the publish that the stamp numbers put the entry under the path
abbrev IsPut : Puts → Stamped → Type 0
IsPut puts s = slice_get puts (s.stamp - 1) ≡ Some (s.path, s.entry)

seam : (before : Puts) (x : Name × Entry) (after : Puts)
    → slice_get (before ++ x ∷ after) (length before) ≡ Some x
seam [] x after = refl
seam (y ∷ ys) x after = seam ys x after

stamped_are_put : (all before puts after : Puts) → all ≡ before ++ (puts ++ after)
    → AllByRecursion (IsPut all) (stamped_from (length before + 1) puts)
stamped_are_put all before [] after h = tt
stamped_are_put all before (x ∷ xs) after h = (
  ap (slice_get all) (omega arith)
      ∙ ap (λ l. slice_get l (length before)) h
      ∙ seam before x (xs ++ after),
  subst (λ n. AllByRecursion (IsPut all) (stamped_from (n + 1) xs)) (length_push before x)
      (stamped_are_put all (before ++ x ∷ []) xs after
      (h ∙ sym (append_assoc before (x ∷ []) (xs ++ after)))),
)

-- ---- what holds of all publishes holds of each entry

with_entry-all : (P : Stamped → Type 0) (ns : Space) (s : Stamped) → AllByRecursion P ns → P s
    → AllByRecursion P (with_entry ns s)
with_entry-all P [] s h p = (p, tt)
with_entry-all P (x ∷ xs) s h p = go (name_cmp s.path x.path) (with_entry-all P xs s h.1 p)
  where
    go : (o : Ordering) → AllByRecursion P (with_entry xs s)
        → AllByRecursion P (match_ordering o (s ∷ x ∷ xs) (s ∷ xs) (x ∷ with_entry xs s))
    go Less i = (p, h)
    go Equal i = (p, h.1)
    go Greater i = (h.0, i)

fold-all : (P : Stamped → Type 0) (ns : Space) (ss : List Stamped) → AllByRecursion P ns
    → AllByRecursion P ss → AllByRecursion P (fold with_entry ns ss)
fold-all P ns [] h k = h
fold-all P ns (s ∷ ss) h k = fold-all P (with_entry ns s) ss (with_entry-all P ns s h k.0) k.1

look_up-all : (P : Stamped → Type 0) (ns : Space) (p : Name) (s : Stamped) → AllByRecursion P ns
    → look_up ns p ≡ Some s → P s
look_up-all P [] p s h e = cc
look_up-all P (x ∷ xs) p s h e = go (same_name p x.path) e (look_up-all P xs p s h.1)
  where
    go : (c : Bool) → cond c (Some x) (look_up xs p) ≡ Some s → (look_up xs p ≡ Some s → P s) → P s
    go true k i = let same : x ≡ s = cc in subst P same h.0
    go false k i = i k

version_is_put : (puts : Puts) (v : ℕ) → AllByRecursion (IsPut puts) (namespace_at puts v)
version_is_put puts v =
    fold-all (IsPut puts) [] (stamped_from 1 (take v puts)) tt
    (stamped_are_put puts [] (take v puts) (drop v puts) (sym (take-append-drop v puts)))

-- ---- one stamp, one entry

same_parts : (x y : Stamped) (a b : Name × Entry) → Some a ≡ Some b → x.path ≡ a.0 → x.entry ≡ a.1
    → y.path ≡ b.0 → y.entry ≡ b.1 → x.stamp ≡ y.stamp → x ≡ y
same_parts x y a b h xp xe yp ye e =
    let same : a ≡ b = cc in
    let path : x.path ≡ y.path = xp ∙ ap (λ (s : Name × Entry). s.0) same ∙ sym yp in
    let entry : x.entry ≡ y.entry = xe ∙ ap (λ (s : Name × Entry). s.1) same ∙ sym ye in
    λ i. record { path = path i; stamp = e i; entry = entry i }

same_put : (puts : Puts) (x y : Stamped) → IsPut puts x → IsPut puts y → x.stamp ≡ y.stamp → x ≡ y
same_put puts x y h k e =
    same_parts x y (x.path, x.entry) (y.path, y.entry)
    (sym h ∙ ap (λ n. slice_get puts (n - 1)) e ∙ k) refl refl refl refl e

pub stamp_law : StampLaw
stamp_law puts v w p q x y h k e =
    same_put puts x y
    (look_up-all (IsPut puts) (namespace_at puts v) p x (version_is_put puts v) h)
    (look_up-all (IsPut puts) (namespace_at puts w) q y (version_is_put puts w) k) e

-- ---- a footprint whose stamps are still the stamps there

stamped_same : (puts : Puts) (ns : Space) (s : Stamped) → AllByRecursion (IsPut puts) ns
    → IsPut puts s → stamp_at ns s.path ≡ Some s.stamp → look_up ns s.path ≡ Some s
stamped_same puts ns s all put h = go (look_up ns s.path) refl h
  where
    go : (o : Option Stamped) → look_up ns s.path ≡ o
        → option_map (λ (t : Stamped). t.stamp) o ≡ Some s.stamp → o ≡ Some s
    go None e k = cc
    go (Some t) e k =
        let same : t.stamp ≡ s.stamp = cc in
        ap Some (same_put puts t s (look_up-all (IsPut puts) ns s.path t all e) put same)

current_entries : (puts : Puts) (ns : Space) (entries : List Stamped)
    → AllByRecursion (IsPut puts) ns → AllByRecursion (IsPut puts) entries → IsCurrent ns entries
    → HasEntries ns entries
current_entries puts ns [] all h k = tt
current_entries puts ns (s ∷ ss) all h k =
    (stamped_same puts ns s all h.0 k.0, current_entries puts ns ss all h.1 k.1)

found-all : (P : Stamped → Type 0) (ns : Space) (ps : List Name) → AllByRecursion P ns
    → AllByRecursion P (filter_map (look_up ns) ps)
found-all P ns [] h = tt
found-all P ns (p ∷ ps) h = go (look_up ns p) refl (found-all P ns ps h)
  where
    go : (o : Option Stamped) → look_up ns p ≡ o → AllByRecursion P (filter_map (look_up ns) ps)
        → AllByRecursion P (cons_option o (filter_map (look_up ns) ps))
    go None e i = i
    go (Some s) e i = (look_up-all P ns p s h e, i)

footprint-all : (P : Stamped → Type 0) (ns : Space) (x : Visited Term) (entries : List Stamped)
    → AllByRecursion P ns → footprint_of ns x ≡ Some entries → AllByRecursion P entries
footprint-all P ns (Ok r) entries h e =
    let same : filter_map (look_up ns) r.1.read ≡ entries = cc in
    subst (AllByRecursion P) same (found-all P ns r.1.read h)
footprint-all P ns (Err x) entries h e = cc

pub current_law : CurrentLaw
current_law puts v w path entries listed current =
    let there = namespace_at puts w in
    frame_law (namespace_at puts v) there path entries listed
    (current_entries puts there entries (version_is_put puts w)
    (footprint-all (IsPut puts) (namespace_at puts v) (expansion (namespace_at puts v) path) entries
    (version_is_put puts v) listed)
    current)
