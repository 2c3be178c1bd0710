-- A walk that has come back goes on.
use Rattle.std.proofs.Common.{◌≡◌, ◌∙◌, ◌≤◌, ◌++◌, ◌∷◌, ℕ, Bool, true, false, List, []}
use Rattle.std.proofs.Common.{Option, Some, length, Result, Ok, Err, refl, sym, ap, subst, arith}
use Rattle.std.specs.Prelude.{MatchOption, OnOk, max}
use Rattle.omos_model.specs.Names.{Name}
use Rattle.omos_model.specs.Expansion.{Object, source}
use Rattle.omos_model.specs.FragmentParts.{FragmentParts}
use Rattle.omos_model.specs.Namespace.{Space, look_up}
use Rattle.omos_model.specs.declared.entry.Stamped.{Stamped}
use Rattle.module_eval.specs.Costs.{IsReadAlone, StayRead, is_built}
use Rattle.module_eval.specs.inside.Found.{AreFound}
use Rattle.module_eval.specs.inside.Known.{AreKnown}
use Rattle.module_eval.specs.inside.Plans.{AreSpent}
use Rattle.module_eval.specs.inside.Walks.{ComesBack, CountOn, MayGoOn}
use Rattle.module_eval.specs.declared.counts.Counts.{Counts}
use Rattle.module_eval.specs.declared.memo.Memo.{Memo}
use Rattle.module_eval.specs.declared.walk.Walk.{Walk}
use Rattle.module_eval.proofs.Known.{known_object, known_popped}
use Rattle.module_eval.proofs.Opened.{popped_so}

pub count_on : (a b d : Counts) → CountOn a b → CountOn b d → CountOn a d
count_on a b d h k = record { counted = k.counted; least = omega (arith, h.least, k.least) }

pub back_on : (ns : Space) (counted : Bool) (a b d : Walk) → ComesBack ns true a b
    → ComesBack ns counted b d → ComesBack ns counted a d
back_on ns counted a b d h k = record {
  above = k.above ∙ h.above;
  found = λ f. k.found (h.found f);
  kept = k.kept;
  stays = λ q built. k.stays q (h.stays q built);
  deepens =
      record { deeper = omega (arith, h.deepens.deeper, k.deepens.deeper); low = k.deepens.low };
  known = k.known;
  away = k.away;
}

pub ready_again : (ns : Space) (a b : Walk) → MayGoOn ns a → CountOn a.counts b.counts
    → ComesBack ns true a b → MayGoOn ns b
ready_again ns a b h n k = record {
  counted = n.counted;
  room = subst (λ (ps : List Name). length ps ≤ 32) (sym k.above) h.room;
  low = k.deepens.low;
  kept = k.kept;
  known = k.known refl;
  away = k.away;
}

-- up to there it only began nodes
pub back_from : (ns : Space) (counted : Bool) (a b d : Walk) → b.above ≡ a.above → b.memo ≡ a.memo
    → b.counts.read.entries ≡ a.counts.read.entries → ComesBack ns counted b d
    → ComesBack ns counted a d
back_from ns counted a b d above memo read k =
    let deepest = ap (λ (m : Memo). m.deepest) memo in
    record {
      above = k.above ∙ above;
      found = λ f. k.found (subst (AreFound ns) (sym read) f);
      kept = k.kept;
      stays = λ q h. k.stays q
          (subst (λ (m : Memo). is_built m.kept.entries q ≡ true) (sym memo) h);
      deepens = record { deeper = omega (arith, deepest, k.deepens.deeper); low = k.deepens.low };
      known = k.known;
      away = k.away;
    }

-- a blueprint that is kept was gone through again, and is closed
pub back_again : {opened closed : List Name} {entered : Counts} {deepest : ℕ} (ns : Space)
    (counted : Bool) (a b : Walk) (p : Name) (last : Option Name)
    → is_built a.memo.kept.entries p ≡ true
    → (AreFound ns a.counts.read.entries → AreFound ns entered.read.entries)
    → a.memo.deepest ≤ deepest → opened ≡ a.above ++ p ∷ []
    → MatchOption last ((b.above ≡ []) × (closed ≡ [])) (λ q. b.above ≡ closed ++ q ∷ [])
    → ComesBack ns true
    (record a {
      above = opened;
      memo = record a.memo { apart = false; deepest = deepest };
      counts = entered;
    }) b
    → ComesBack ns counted a (record b { above = closed })
back_again {opened} {closed} ns counted a b p last built found deeper is popped k =
    let whole = k.above ∙ is in
    let all = b.memo.kept.entries in
    let reads = b.counts.read.entries in
    let same = popped_so last b.above closed a.above p whole popped in
    record {
      above = same;
      found = λ f. k.found (found f);
      kept = k.kept;
      stays = k.stays;
      deepens =
          record { deeper = omega (arith, deeper, k.deepens.deeper); low = k.deepens.low };
      known = λ counted. subst (λ ps. AreKnown ns ps reads b.memo.apart all) (sym same)
          (known_popped ns a.above b.above reads p whole b.memo.apart all (k.stays p built)
          (k.known refl));
      away = k.away;
    }

-- a path was read, at which nothing is opened
pub back_object : {X E : Type 0} (ns : Space) (counted : Bool) (a : Walk) (new : Counts) (p : Name)
    (e : Stamped) (f : FragmentParts) (r : Result X E) → MayGoOn ns a → look_up ns p ≡ Some e
    → source ns p ≡ Some (Object f)
    → OnOk r ((ms : Space) → look_up ms p ≡ Some e → AreFound ms a.counts.read.entries
    → AreFound ms new.read.entries)
    → OnOk r (IsReadAlone a.counts.read.entries new.read.entries p)
    → OnOk r (StayRead a.counts.read.entries new.read.entries)
    → OnOk r (AreSpent ns a.plan new.read.entries a.memo.kept.entries)
    → OnOk r (ComesBack ns counted a (record a { counts = new }))
back_object ns counted a new p e f (Ok x) h there is found alone stay away = record {
  above = refl;
  found = found ns there;
  kept = h.kept;
  stays = λ q built. built;
  deepens = record { deeper = omega arith; low = h.low };
  known = λ c.
      known_object ns a.above a.above a.counts.read.entries new.read.entries a.memo.apart
      a.memo.kept.entries p f is alone stay h.known;
  away = away;
}
back_object ns counted a new p e f (Err x) h there is found alone stay away = tt

pub max_low : (a b : ℕ) → a ≤ 32 → b ≤ 32 → max a b ≤ 32
max_low a b h k = omega (arith, h, k)
