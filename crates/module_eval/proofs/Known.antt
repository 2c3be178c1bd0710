-- What is known of the blueprints that were read, as they are opened and closed.
use Rattle.std.proofs.Common.{◌≡◌, ◌∙◌, ◌+◌, ◌≤◌, Bool, true, false, List, [], ◌∷◌, ◌++◌, Option}
use Rattle.std.proofs.Common.{Some, None, refl, sym, ap, subst, arith, true≢false}
use Rattle.std.specs.Borrow.{Bor}
use Rattle.std.specs.Map.{keys_of}
use Rattle.std.proofs.lemmas.Bool.{and_from, and_parts}
use Rattle.omos_model.specs.Expansion.{Source, Object, Blueprint, source}
use Rattle.omos_model.specs.FragmentParts.{FragmentParts}
use Rattle.omos_model.specs.Names.{Name, same_name}
use Rattle.omos_model.specs.NameLists.{is_among}
use Rattle.omos_model.specs.Namespace.{Space}
use Rattle.omos_model.specs.Tree.{Tree}
use Rattle.omos_model.specs.declared.entry.Stamped.{Stamped}
use Rattle.omos_model.proofs.Names.{same_name-true}
use Rattle.module_share.specs.Places.{AllNamed}
use Rattle.module_share.proofs.Named.{WasOpened, named_so}
use Rattle.module_eval.specs.Costs.{IsBuiltAlone, IsRead, IsReadAlone, StayBuilt, StayRead}
use Rattle.module_eval.specs.Costs.{is_built, operators, read_of}
use Rattle.module_eval.specs.inside.Known.{AreKnown, is_closed, is_closed_in, is_done}
use Rattle.module_eval.specs.declared.memo.Kept.{Kept}
use Rattle.module_eval.proofs.Opened.{beyond, inside, outside}

-- ---- what is done with

done_more : (ns : Space) (old new : List (Name × Bor Stamped)) (all : List (Name × Kept)) (q : Name)
    → StayRead old new → is_done ns (keys_of old) all q ≡ true
    → is_done ns (keys_of new) all q ≡ true
done_more ns old new all q stay h =
    let parts = and_parts (is_among (keys_of old) q) (is_closed_in ns all q) h in
    and_from (is_among (keys_of new) q) (is_closed_in ns all q) (stay q parts.0) parts.1

closed_still : (o : Option Source) (b c : Bool) → (b ≡ true → c ≡ true) → is_closed o b ≡ true
    → is_closed o c ≡ true
closed_still None b c f h = h
closed_still (Some (Object g)) b c f h = refl
closed_still (Some (Blueprint x)) b c f h = f h

open_still : (o : Option Source) (b c : Bool) → (c ≡ true → b ≡ true) → is_closed o b ≡ false
    → is_closed o c ≡ false
open_still None b c f h = refl
open_still (Some (Object g)) b c f h = h
open_still (Some (Blueprint x)) b true f h = absurd (true≢false (sym (f refl) ∙ h))
open_still (Some (Blueprint x)) b false f h = refl

done_kept : (ns : Space) (read : List Name) (old new : List (Name × Kept)) (q : Name)
    → StayBuilt old new → is_done ns read old q ≡ true → is_done ns read new q ≡ true
done_kept ns read old new q stay h =
    let parts = and_parts (is_among read q) (is_closed_in ns old q) h in
    and_from (is_among read q) (is_closed_in ns new q) parts.0
    (closed_still (source ns q) (is_built old q) (is_built new q) (stay q) parts.1)

-- what is under a path of another source
other_source : (f : FragmentParts) (x : Tree) → Some (Object f) ≡ Some (Blueprint x) → ⊥
other_source f x h = cc

pub same_tree : (x y : Tree) → Some (Blueprint x) ≡ Some (Blueprint y) → x ≡ y
same_tree x y h = cc

-- ---- what is known, as blueprints are opened and closed

module _ (ns : Space) (above more : List Name) (old new : List (Name × Bor Stamped)) (apart : Bool)
    (all : List (Name × Kept)) (p : Name) where
  still_closed : StayRead old new → AreKnown ns above old apart all → (q : Name) (x : Tree)
      → source ns q ≡ Some (Blueprint x) → is_built all q ≡ true
      → AllNamed (λ r. is_done ns (keys_of new) all r ≡ true) x
  still_closed stay known q x there built =
      named_so (λ r. is_done ns (keys_of old) all r ≡ true)
      (λ r. is_done ns (keys_of new) all r ≡ true)
      (λ r. done_more ns old new all r stay) x (known.closed q x there built)

  -- a blueprint is read and opened for the first time
  pub known_opened : (x : Tree) → more ≡ above ++ p ∷ [] → IsReadAlone old new p → StayRead old new
      → source ns p ≡ Some (Blueprint x) → is_built all p ≡ false
      → AreKnown ns above old apart all → AreKnown ns more new apart all
  known_opened x is alone stay there fresh known =
      record { each = each; closed = still_closed stay known; unkept = unkept }
    where
      each : (q : Name) (y : Tree) → source ns q ≡ Some (Blueprint y) → IsRead new q
          → is_among more q ≡ false → is_built all q ≡ true
      each q y here read out =
          let parts = outside above more p q is out in
          known.each q y here (alone q parts.1 read) parts.0

      unkept : apart ≡ true → (q : Name) → is_among more q ≡ true
          → is_closed_in ns all q ≡ false
      unkept a q h = go (same_name q p) (is_among above q) refl refl
        where
          go : (b c : Bool) → same_name q p ≡ b → is_among above q ≡ c
              → is_closed_in ns all q ≡ false
          go true c e f =
              ap (is_closed_in ns all) (same_name-true q p e)
              ∙ ap (λ o. is_closed o (is_built all p)) there
              ∙ fresh
          go false true e f = known.unkept a q f
          go false false e f = absurd (true≢false (sym h ∙ beyond above more p q is f e))

  -- one that is kept is read again
  pub known_again : IsReadAlone old new p → StayRead old new → is_built all p ≡ true
      → AreKnown ns above old apart all → AreKnown ns above new apart all
  known_again alone stay built known =
      record { each = each; closed = still_closed stay known; unkept = known.unkept }
    where
      each : (q : Name) (x : Tree) → source ns q ≡ Some (Blueprint x) → IsRead new q
          → is_among above q ≡ false → is_built all q ≡ true
      each q x there read out = go (same_name q p) refl
        where
          go : (b : Bool) → same_name q p ≡ b → is_built all q ≡ true
          go true e = ap (is_built all) (same_name-true q p e) ∙ built
          go false e = known.each q x there (alone q e read) out

  -- an object is read
  pub known_object : (f : FragmentParts) → source ns p ≡ Some (Object f) → IsReadAlone old new p
      → StayRead old new → AreKnown ns above old apart all → AreKnown ns above new apart all
  known_object f there alone stay known =
      record { each = each; closed = still_closed stay known; unkept = known.unkept }
    where
      each : (q : Name) (x : Tree) → source ns q ≡ Some (Blueprint x) → IsRead new q
          → is_among above q ≡ false → is_built all q ≡ true
      each q x other read out = go (same_name q p) refl
        where
          go : (b : Bool) → same_name q p ≡ b → is_built all q ≡ true
          go true e =
              absurd (other_source f x (sym there ∙ ap (source ns) (sym (same_name-true q p e))
              ∙ other))
          go false e = known.each q x other (alone q e read) out

module _ (ns : Space) (above more : List Name) (read : List (Name × Bor Stamped)) (p : Name)
    (is : more ≡ above ++ p ∷ []) where
  -- one that is kept is opened again
  pub known_reopened : (apart : Bool) (all : List (Name × Kept)) → AreKnown ns above read apart all
      → AreKnown ns more read false all
  known_reopened apart all known = record {
    each = λ q x there h out. known.each q x there h (outside above more p q is out).0;
    closed = known.closed;
    unkept = λ a. absurd (true≢false (sym a));
  }

  -- and closed again
  pub known_popped : (apart : Bool) (all : List (Name × Kept)) → is_built all p ≡ true
      → AreKnown ns more read apart all → AreKnown ns above read apart all
  known_popped apart all built known = record {
    each = each;
    closed = known.closed;
    unkept = λ a q h. known.unkept a q (inside above more p q is h);
  }
    where
      each : (q : Name) (x : Tree) → source ns q ≡ Some (Blueprint x) → IsRead read q
          → is_among above q ≡ false → is_built all q ≡ true
      each q x there h out = go (same_name q p) refl
        where
          go : (b : Bool) → same_name q p ≡ b → is_built all q ≡ true
          go true e = ap (is_built all) (same_name-true q p e) ∙ built
          go false e = known.each q x there h (beyond above more p q is out e)

  -- one is closed for the first time, and kept
  pub known_closed : (apart : Bool) (old new : List (Name × Kept)) (x : Tree)
      → is_among above p ≡ false → source ns p ≡ Some (Blueprint x)
      → IsBuiltAlone old new p
      → StayBuilt old new → is_built new p ≡ true
      → AllNamed (WasOpened (source ns) (above ++ p ∷ []) (keys_of read)) x
      → AreKnown ns more read apart old → AreKnown ns above read apart new
  known_closed apart old new x out there alone stay built named known =
      record { each = each; closed = closed; unkept = unkept }
    where
      each : (q : Name) (y : Tree) → source ns q ≡ Some (Blueprint y) → IsRead read q
          → is_among above q ≡ false → is_built new q ≡ true
      each q y here h free = go (same_name q p) refl
        where
          go : (b : Bool) → same_name q p ≡ b → is_built new q ≡ true
          go true e = ap (is_built new) (same_name-true q p e) ∙ built
          go false e = stay q (known.each q y here h (beyond above more p q is free e))

      done : (r : Name) → WasOpened (source ns) (above ++ p ∷ []) (keys_of read) r
          → is_done ns (keys_of read) new r ≡ true
      done r h =
          and_from (is_among (keys_of read) r) (is_closed_in ns new r) h.read
          (go (source ns r) refl)
        where
          go : (o : Option Source) → source ns r ≡ o → is_closed o (is_built new r) ≡ true
          go None e = absurd (h.there e)
          go (Some (Object f)) e = refl
          go (Some (Blueprint y)) e =
              stay r (known.each r y e h.read (ap (λ ps. is_among ps r) is ∙ h.free y e))

      closed : (q : Name) (y : Tree) → source ns q ≡ Some (Blueprint y)
          → is_built new q ≡ true
          → AllNamed (λ r. is_done ns (keys_of read) new r ≡ true) y
      closed q y here h = go (same_name q p) refl
        where
          go : (b : Bool) → same_name q p ≡ b
              → AllNamed (λ r. is_done ns (keys_of read) new r ≡ true) y
          go true e =
              let same : x ≡ y =
              same_tree x y (sym there ∙ ap (source ns) (sym (same_name-true q p e)) ∙ here) in
              subst (AllNamed (λ r. is_done ns (keys_of read) new r ≡ true)) same
              (named_so (WasOpened (source ns) (above ++ p ∷ []) (keys_of read))
              (λ r. is_done ns (keys_of read) new r ≡ true) done x named)
          go false e =
              named_so (λ r. is_done ns (keys_of read) old r ≡ true)
              (λ r. is_done ns (keys_of read) new r ≡ true)
              (λ r. done_kept ns (keys_of read) old new r stay) y
              (known.closed q y here (alone q e h))

      unkept : apart ≡ true → (q : Name) → is_among above q ≡ true
          → is_closed_in ns new q ≡ false
      unkept a q h = go (same_name q p) refl
        where
          go : (b : Bool) → same_name q p ≡ b → is_closed_in ns new q ≡ false
          go true e =
              absurd (true≢false (sym h ∙ ap (is_among above) (same_name-true q p e) ∙ out))
          go false e =
              open_still (source ns q) (is_built old q) (is_built new q) (alone q e)
              (known.unkept a q (inside above more p q is h))

-- nothing was read yet
pub known_first : (ns : Space) (read : List (Name × Bor Stamped)) (apart : Bool)
    (all : List (Name × Kept)) → keys_of read ≡ [] → all ≡ [] → AreKnown ns [] read apart all
known_first ns read apart all none empty = record {
  each = λ q x there h out. absurd (true≢false (sym h ∙ ap (λ ps. is_among ps q) none));
  closed = λ q x there built. absurd (true≢false (sym built ∙ ap (λ es. is_built es q) empty));
  unkept = λ a q h. absurd (true≢false (sym h));
}

-- a blueprint that is neither open nor kept wasn't read
pub not_read : (ns : Space) (above : List Name) (old : List (Name × Bor Stamped)) (apart : Bool)
    (all : List (Name × Kept)) (p : Name) (x : Tree) → AreKnown ns above old apart all
    → source ns p ≡ Some (Blueprint x)
    → is_among above p ≡ false → is_built all p ≡ false → is_among (keys_of old) p ≡ false
not_read ns above old apart all p x known there out unbuilt =
    go (is_among (keys_of old) p) refl
  where
    go : (c : Bool) → is_among (keys_of old) p ≡ c → is_among (keys_of old) p ≡ false
    go true e = absurd (true≢false (sym (known.each p x there e out) ∙ unbuilt))
    go false e = e

-- the first use of a blueprint is charged to the path that is read for the first time
pub charged : (ns : Space) (above : List Name) (old new : List (Name × Bor Stamped)) (apart : Bool)
    (all : List (Name × Kept)) (p : Name) (x : Tree) → AreKnown ns above old apart all
    → source ns p ≡ Some (Blueprint x)
    → is_among above p ≡ false → is_built all p ≡ false
    → (is_among (keys_of old) p ≡ false → read_of ns old + operators x ≡ read_of ns new)
    → read_of ns old + operators x ≤ read_of ns new
charged ns above old new apart all p x known there out unbuilt fresh =
    let once = fresh (not_read ns above old apart all p x known there out unbuilt) in
    omega (arith, once)
