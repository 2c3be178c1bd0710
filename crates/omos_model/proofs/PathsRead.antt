-- The paths that an expansion reads.
use Rattle.std.proofs.Common.{◌≡◌, ℕ, zero, suc, Bool, true, false, List, [], ◌∷◌}
use Rattle.std.proofs.Common.{◌++◌, Option, Some, None, Err, refl, sym, ap, ◌∙◌, subst, cond}
use Rattle.std.proofs.Common.{map}
use Rattle.std.specs.Prelude.{slice_get, is_some}
use Rattle.std.specs.List.{filter_map, cons_option, IsDistinct, AllByRecursion}
use Rattle.std.specs.Option.{option_map}
use Rattle.std.proofs.lemmas.Bool.{or_parts, true≢false}
use Rattle.omos_model.specs.Names.{Name, same_name}
use Rattle.omos_model.specs.NameLists.{is_among}
use Rattle.omos_model.specs.Namespace.{Space, look_up}
use Rattle.omos_model.specs.Laws.{FootprintLaw}
use Rattle.omos_model.specs.Term.{Term}
use Rattle.omos_model.specs.declared.refusal.Refusal.TheVariants.{NoEntry}
use Rattle.omos_model.specs.Expansion.{Source}
use Rattle.omos_model.specs.Expansion.{here, add_read}
use Rattle.omos_model.specs.Expansion.{expand, first_visit}
use Rattle.omos_model.specs.Expansion.{source, source_of}
use Rattle.omos_model.specs.Footprint.{footprint_of}
use Rattle.omos_model.specs.declared.entry.Stamped.{Stamped}
use Rattle.omos_model.specs.Visit.{Visit}
use Rattle.omos_model.proofs.Names.{same_name-true, same_name-swap}
use Rattle.omos_model.proofs.Walk.{Lasts, Holds, expand_holds_then}

-- ---- the paths read are there, each once, the requested one first

abbrev AreThere : Space → List Name → Type 0
AreThere ns ps = AllByRecursion (λ p. is_some (look_up ns p) ≡ true) ps

pub record WereRead (ns : Space) (path : Name) (ps : List Name) : Type 0 where
  pub first : slice_get ps 0 ≡ Some path
  pub there : AreThere ns ps
  pub once : IsDistinct same_name ps

there-append : (ns : Space) (ps : List Name) (p : Name) → AreThere ns ps
    → is_some (look_up ns p) ≡ true → AreThere ns (ps ++ p ∷ [])
there-append ns [] p h e = (e, tt)
there-append ns (q ∷ qs) p h e = (h.0, there-append ns qs p h.1 e)

unlike-append : (q p : Name) (ps : List Name) → AllByRecursion (λ r. same_name q r ≡ false) ps
    → same_name q p ≡ false
    → AllByRecursion (λ r. same_name q r ≡ false) (ps ++ p ∷ [])
unlike-append q p [] h e = (e, tt)
unlike-append q p (r ∷ rs) h e = (h.0, unlike-append q p rs h.1 e)

once-append : (ps : List Name) (p : Name) → IsDistinct same_name ps → is_among ps p ≡ false
    → IsDistinct same_name (ps ++ p ∷ [])
unfolding IsDistinct
once-append [] p h e = (tt, tt)
once-append (q ∷ qs) p h e =
    let parts = or_parts (same_name p q) (is_among qs p) e in
    (unlike-append q p qs h.0 (same_name-swap q p ∙ parts.0), once-append qs p h.1 parts.1)

first-append : (ps : List Name) (p path : Name) → slice_get ps 0 ≡ Some path
    → slice_get (ps ++ p ∷ []) 0 ≡ Some path
first-append [] p path h = cc
first-append (q ∷ qs) p path h = h

is_there : (ns : Space) (p : Name) (s : Source) → source ns p ≡ Some s
    → is_some (look_up ns p) ≡ true
is_there ns p s h = go (look_up ns p) h
  where
    go : (o : Option Stamped) → option_map (λ e. source_of e.entry) o ≡ Some s → is_some o ≡ true
    go None e = cc
    go (Some x) e = refl

read_more : (ns : Space) (path p : Name) (s : Source) → source ns p ≡ Some s → (v : Visit)
    → WereRead ns path v.read → WereRead ns path (add_read p v).read
read_more ns path p s e v h = go (is_among v.read p) refl
  where
    go : (b : Bool) → is_among v.read p ≡ b
        → WereRead ns path (cond b v (record v { read = v.read ++ p ∷ [] })).read
    go true d = h
    go false d = record {
      first = first-append v.read p path h.first;
      there = there-append ns v.read p h.there (is_there ns p s e);
      once = once-append v.read p h.once d;
    }

first_read : (ns : Space) (path : Name) (s : Source) → source ns path ≡ Some s
    → WereRead ns path (path ∷ [])
unfolding IsDistinct
first_read ns path s e =
    record { first = refl; there = (is_there ns path s e, tt); once = (tt, tt) }

-- ---- the entries of the paths read

pub found_path : (ns : Space) (p : Name) (s : Stamped) → look_up ns p ≡ Some s → s.path ≡ p
found_path [] p s h = cc
found_path (x ∷ xs) p s h = go (same_name p x.path) refl h (found_path xs p s)
  where
    go : (b : Bool) → same_name p x.path ≡ b → cond b (Some x) (look_up xs p) ≡ Some s
        → (look_up xs p ≡ Some s → s.path ≡ p) → s.path ≡ p
    go true d e k = let same : x ≡ s = cc in ap (λ y. y.path) (sym same)
        ∙ sym (same_name-true p x.path d)
    go false d e k = k e

entries_of : (ns : Space) (ps : List Name) → AreThere ns ps
    → map (λ s. s.path) (filter_map (look_up ns) ps) ≡ ps
entries_of ns [] h = refl
entries_of ns (p ∷ ps) h = go (look_up ns p) refl h.0 (entries_of ns ps h.1)
  where
    go : (o : Option Stamped) → look_up ns p ≡ o → is_some o ≡ true
        → map (λ s. s.path) (filter_map (look_up ns) ps) ≡ ps
        → map (λ s. s.path) (cons_option o (filter_map (look_up ns) ps)) ≡ p ∷ ps
    go None e k i = absurd (true≢false (sym k))
    go (Some s) e k i =
        ap (λ q. q ∷ map (λ x. x.path) (filter_map (look_up ns) ps)) (found_path ns p s e)
        ∙ ap (λ qs. p ∷ qs) i

-- what holds of the paths read before a part holds after it
abbrev Reads : Space → Name → Visit → Term → Visit → Type 0
Reads ns path v t w = WereRead ns path v.read → WereRead ns path w.read

reads_last : (ns : Space) (path : Name) → Lasts (Reads ns path)
reads_last ns path = record {
  leaf = λ v f s room h. h;
  merge = λ s v w x t u h k r. k (h r);
  override = λ s v w x t u h k r. k (h r);
  apply = λ s op v w t h. h;
  begun = λ v w t n m h. h;
  nested = λ v w t n m h. h;
}

absent : (ns : Name → Option Source) (room : ℕ) (above : List Name) (counts : Bool) (at p : Name)
    (v : Visit) → ns p ≡ None
    → expand ns room above counts at p v ≡ Err (NoEntry (here at v) p)
unfolding expand
absent ns zero above counts at p v e = rw e refl
absent ns (suc room) above counts at p v e = rw e refl

pub footprint_law : FootprintLaw
footprint_law ns path t v entries is listed =
    let more =
    λ (p : Name) (s : Source) (e : source ns p ≡ Some s) (a w : Visit) (u : Term)
    (h : Reads ns path (add_read p a) u w) (r : WereRead ns path a.read).
    h (read_more ns path p s e a r) in
    let after = subst (Holds (Reads ns path) (add_read path first_visit)) is
    (expand_holds_then (Reads ns path) (reads_last ns path) (source ns) more 32 [] false path path
    first_visit) in
    let read : WereRead ns path v.read = go (source ns path) refl after in
    let made : Some (filter_map (look_up ns) v.read) ≡ Some entries = sym (ap (footprint_of ns) is)
    ∙ listed in
    let same : filter_map (look_up ns) v.read ≡ entries = cc in
    (ap (map (λ s. s.path)) (sym same) ∙ entries_of ns v.read read.there, read.first, read.once)
  where
    go : (o : Option Source) → source ns path ≡ o
        → (WereRead ns path (path ∷ []) → WereRead ns path v.read) → WereRead ns path v.read
    go None e h = let gone = sym (absent (source ns) 32 [] false path path first_visit e) ∙ is in cc
    go (Some s) e h = h (first_read ns path s e)
