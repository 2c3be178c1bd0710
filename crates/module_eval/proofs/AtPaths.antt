-- The walk to a path, by what stands under it.
use Rattle.std.proofs.Common.{◌≡◌, ℕ, zero, suc, Bool, true, false, List, [], ◌∷◌, ◌++◌, Option}
use Rattle.std.proofs.Common.{Some, None, Ok, Err}
use Rattle.std.proofs.Common.{◌-◌, ◌<◌, ◌≤◌, length, length-append, cond, refl, sym, ap, ◌∙◌, arith}
use Rattle.std.specs.Option.{option_map}
use Rattle.std.specs.Prelude.{Result}
use Rattle.omos_base.specs.declared.fault.Fault.{Fault}
use Rattle.omos_base.specs.declared.fault.Fault.TheVariants.{Refused, NoMemory}
use Rattle.omos_model.specs.FragmentParts.{FragmentParts}
use Rattle.omos_model.specs.Names.{Name}
use Rattle.omos_model.specs.NameLists.{is_among}
use Rattle.omos_model.specs.Namespace.{Space, look_up}
use Rattle.omos_model.specs.Term.{Term}
use Rattle.omos_model.specs.Tree.{Tree}
use Rattle.omos_model.specs.Expansion.{Source, Object, Blueprint, add_read, here, source, source_of}
use Rattle.module_share.specs.Trails.{Trail, Trailer, and_on, begin_path_on, expand_on, leaf_on}
use Rattle.module_share.specs.Trails.{nested_on, visit_on}
use Rattle.omos_model.specs.declared.entry.Entry.{Entry}
use Rattle.omos_model.specs.declared.entry.Stamped.{Stamped}
use Rattle.omos_model.specs.declared.refusal.Refusal.{Refusal}
use Rattle.omos_model.specs.declared.refusal.Refusal.TheVariants.{NoEntry, Cycle, TooDeep}
use Rattle.omos_model.specs.Visit.{Visit}
use Rattle.omos_model.specs.declared.refusal.Site.{Site}
use Rattle.module_table.specs.Faults.{Tells}
use Rattle.module_eval.specs.inside.Counted.{StepsToNode, visit_of}
use Rattle.module_eval.specs.inside.Walked.{Walked, Bars, path_in, tree_in}
use Rattle.module_eval.specs.declared.counts.Counts.{Counts}
use Rattle.module_eval.specs.declared.part.Part.{Part}

module _ (ns : Name → Option Source) (above : List Name) (counted : Bool) (at p : Name)
    (v : Visit) where
  pub none_at : (room : ℕ) → ns p ≡ None
      → expand_on ns room above counted at p v ≡ Err (NoEntry (here at v) p, v)
  unfolding expand_on
  none_at zero h = rw h refl
  none_at (suc room) h = rw h refl

  pub object_at : (room : ℕ) (f : FragmentParts) → ns p ≡ Some (Object f)
      → expand_on ns room above counted at p v
      ≡ and_on (begin_path_on counted at (add_read p v)) (leaf_on f)
  unfolding expand_on
  object_at zero f h = rw h refl
  object_at (suc room) f h = rw h refl

  pub cycle_at : (room : ℕ) (x : Tree) → ns p ≡ Some (Blueprint x) → is_among above p ≡ true
      → expand_on ns room above counted at p v ≡ Err (Cycle (here at v) p, v)
  unfolding expand_on
  cycle_at zero x h e = rw (h, e) refl
  cycle_at (suc room) x h e = rw (h, e) refl

  pub deep_at : (room : ℕ) (x : Tree) → ns p ≡ Some (Blueprint x) → is_among above p ≡ false
      → room ≡ 0 → expand_on ns room above counted at p v ≡ Err (TooDeep (here at v) p, v)
  unfolding expand_on
  deep_at zero x h e z = rw (h, e) refl
  deep_at (suc room) x h e z = absurd (omega arith)

  pub opened_at : (room left : ℕ) (x : Tree) → ns p ≡ Some (Blueprint x)
      → is_among above p ≡ false → room ≡ suc left
      → expand_on ns room above counted at p v
      ≡ and_on (begin_path_on counted at (add_read p v))
      (λ s. nested_on (visit_on p (expand_on ns left (above ++ p ∷ []) true p) x))
  unfolding expand_on
  opened_at room left x h e r = rw (r, h, e) refl

-- what the code found
pub source_at : (ns : Space) (p : Name) (e : Stamped) (x : Entry) → Some e ≡ look_up ns p
    → e.entry ≡ x → source ns p ≡ Some (source_of x)
source_at ns p e x found is =
    sym (ap (option_map (λ (s : Stamped). source_of s.entry)) found)
    ∙ ap (λ (y : Entry). Some (source_of y)) is

pub source_none : (ns : Space) (p : Name) → None ≡ look_up ns p → source ns p ≡ None
source_none ns p h = sym (ap (option_map (λ (s : Stamped). source_of s.entry)) h)

-- a refusal on the way is the walk's
pub err_on_step : (f : Fault Refusal) (at : Name) (walk : Trail Site)
    (more : Site → Trailer Term) (counting : Bool) (w : Counts) → StepsToNode (Err f) at walk w
    → Walked counting (Err f) (and_on walk more) w
err_on_step (Refused x) at walk more counting w h = rw h refl
err_on_step NoMemory at walk more counting w h = tt

-- what is told is what the walk is refused for
pub told : (counting : Bool) (f : Fault Refusal) (x : Refusal) (walk : Trail Term) (w : Counts)
    → Tells f x → walk ≡ Err (x, visit_of w) → Walked counting (Err f) walk w
told counting (Refused y) x walk w h k = k ∙ ap (λ z. Err (z, visit_of w)) (sym h)
told counting NoMemory x walk w h k = tt

pub err_on_walk : (f : Fault Refusal) (walk : Trail Term) (more : Term → Trailer Term)
    (counting : Bool) (w : Counts) → Walked counting (Err f) walk w
    → Walked counting (Err f) (and_on walk more) w
err_on_walk (Refused x) walk more counting w h = rw h refl
err_on_walk NoMemory walk more counting w h = tt

-- ---- a blueprint

-- it is refused for what bars it
pub barred : (ns : Name → Option Source) (above : List Name) (counted : Bool) (at p : Name)
    (t : Tree) (f : Fault Refusal) (counting : Bool) (w : Counts) → ns p ≡ Some (Blueprint t)
    → Bars (Some f) above at p (visit_of w).node
    → Walked counting (Err f) (expand_on ns (32 - length above) above counted at p (visit_of w)) w
barred ns above counted at p t f counting w there h = go (is_among above p) refl h.0 h.1
  where
    v : Visit
    v = visit_of w

    go : (c : Bool) → is_among above p ≡ c
        → Tells f (cond c (Cycle (here at v) p) (TooDeep (here at v) p))
        → (is_among above p ≡ false → 32 ≤ length above)
        → Walked counting (Err f) (expand_on ns (32 - length above) above counted at p v) w
    go true e d far =
        told counting f (Cycle (here at v) p) _ w d
        (cycle_at ns above counted at p v (32 - length above) t there e)
    go false e d far =
        let deep = far e in
        told counting f (TooDeep (here at v) p) _ w d
        (deep_at ns above counted at p v (32 - length above) t there e (omega (arith, deep)))

module _ (ns : Space) (limit : ℕ) (above : List Name) (counted : Bool) (at p : Name) (v : Visit)
    (x : Tree)
    (there : source ns p ≡ Some (Blueprint x)) (out : is_among above p ≡ false)
    (few : length above < limit) where
  pub opened : path_in ns limit above counted at p v
      ≡ and_on (begin_path_on counted at (add_read p v))
      (λ s. nested_on (tree_in ns limit (above ++ p ∷ []) p x))
  opened =
      opened_at (source ns) above counted at p v (limit - length above)
      (limit - length (above ++ p ∷ [])) x there out
      (omega (arith, few, length-append above (p ∷ [])))

  pub walked_inside : (counting : Bool) (r : Result Part (Fault Refusal)) (s : Site) (w y : Counts)
      → begin_path_on counted at (add_read p v) ≡ Ok (s, visit_of w)
      → Walked counting r (nested_on (tree_in ns limit (above ++ p ∷ []) p x) (visit_of w)) y
      → Walked counting r (path_in ns limit above counted at p v) y
  walked_inside counting r s w y begun h = rw (opened, begun) h

  -- it isn't begun
  pub not_opened : (counting : Bool) (f : Fault Refusal) (w : Counts)
      → StepsToNode (Err f) at (begin_path_on counted at (add_read p v)) w
      → Walked counting (Err f) (path_in ns limit above counted at p v) w
  not_opened counting f w h =
      rw opened
      (err_on_step f at (begin_path_on counted at (add_read p v))
      (λ s. nested_on (tree_in ns limit (above ++ p ∷ []) p x)) counting w h)

-- nodes with numbers of their own
pub walked_nested : (counting : Bool) (part : Part) (x : Trailer Term) (v : Visit) (y : Counts)
    → Walked counting (Ok part) (x (record v { node = 0 })) y
    → Walked counting (Ok part) (nested_on x v) (record y { node = v.node })
walked_nested counting part x v y h = (h.0, rw h.1 refl, h.2)

-- a walk that counts is refused as one that doesn't
pub refused_any : (one other : Bool) (f : Fault Refusal) (walk : Trail Term) (w : Counts)
    → Walked one (Err f) walk w → Walked other (Err f) walk w
refused_any one other (Refused x) walk w h = h
refused_any one other NoMemory walk w h = tt
