-- Lists of links that were given back.
use Rattle.std.proofs.Common.{◌≡◌, ℕ, ◌+◌, ◌≤◌, List, [], ◌∷◌, ◌++◌, length, refl, ap, ◌∙◌, arith}
use Rattle.std.proofs.Common.{Some, subst, reverse, length-append}
use Rattle.std.proofs.lemmas.List.{reverse-append}
use Rattle.std.specs.List.{AllByRecursion}
use Rattle.omos_outside.specs.Links.{IsFresh, after_done}
use Rattle.omos_outside.specs.Scripted.{ScriptedSource, ScriptedSink}
use Rattle.omos_outside.specs.ScriptedDoor.{ScriptedDoor, IsDoor, IsFreshPair, given_back}
use Rattle.omos_outside.specs.ScriptedDoor.{scripted_link, state_of}

pub length-given_back : (xs : List ScriptedSource) (ys : List ScriptedSink) → length xs ≡ length ys
    → length (given_back xs ys) ≡ length xs
length-given_back [] ys e = refl
length-given_back (x ∷ xs) [] e = absurd (omega (arith, e))
length-given_back (x ∷ xs) (y ∷ ys) e =
    let h = length-given_back xs ys (omega (arith, e)) in
    omega (arith, h)

pub given_back-push : (xs : List ScriptedSource) (ys : List ScriptedSink) (x : ScriptedSource)
    (y : ScriptedSink) → length xs ≡ length ys
    → given_back (xs ++ x ∷ []) (ys ++ y ∷ []) ≡ given_back xs ys ++ scripted_link x y ∷ []
given_back-push [] [] x y e = refl
given_back-push [] (b ∷ ys) x y e = absurd (omega (arith, e))
given_back-push (a ∷ xs) [] x y e = absurd (omega (arith, e))
given_back-push (a ∷ xs) (b ∷ ys) x y e =
    ap (λ l. scripted_link a b ∷ l) (given_back-push xs ys x y (omega (arith, e)))

-- no more were given back than were handed out
pub never_ahead : (xs : List ScriptedSource) (ys : List ScriptedSink) (links : ℕ)
    → length xs ≡ length ys → length xs ≤ links → length (given_back xs ys) + 0 ≤ links
never_ahead xs ys links e le = let h = length-given_back xs ys e in omega (arith, h, le)

-- the next link, of those that are kept last first
pub next_is : (before after : List (ScriptedSource × ScriptedSink))
    (p : ScriptedSource × ScriptedSink) → before ≡ after ++ p ∷ []
    → reverse before ≡ p ∷ reverse after
next_is before after p e = ap reverse e ∙ reverse-append after (p ∷ [])

pub next_fresh : (before after : List (ScriptedSource × ScriptedSink))
    (p : ScriptedSource × ScriptedSink) → before ≡ after ++ p ∷ []
    → AllByRecursion IsFreshPair (reverse before)
    → IsFreshPair p × AllByRecursion IsFreshPair (reverse after)
next_fresh before after p e h = subst (AllByRecursion IsFreshPair) (next_is before after p e) h

pub fresh_link : (d : ScriptedDoor) (p : ScriptedSource × ScriptedSink) → IsFreshPair p
    → IsFresh (state_of d).back (Some p.0.stream) (Some p.1.held) p.0.faults p.1.faults
fresh_link d p h = record {
  source = h.source;
  sink = h.sink;
  given = h.given;
  held = h.held;
  source_tells = refl;
  sink_tells = refl;
}

-- one more link was given back
pub has_more : (waiting : List (ScriptedSource × ScriptedSink)) (links : ℕ)
    (xs xs' : List ScriptedSource) (ys ys' : List ScriptedSink) (x : ScriptedSource)
    (y : ScriptedSink) (m n m' n' : ℕ)
    → IsDoor waiting links (length xs) (length ys) m n → length (given_back xs ys) + 1 ≤ links
    → xs' ≡ xs ++ x ∷ [] → ys' ≡ ys ++ y ∷ [] → m ≤ m' → n ≤ n'
    → IsDoor waiting links (length xs') (length ys') m' n'
has_more waiting links xs xs' ys ys' x y m n m' n' d out is is' le le' =
    let a = ap length is in
    let b = ap length is' in
    let same = d.same in
    let len = length-given_back xs ys d.same in
    let p = d.source_room in
    let q = d.sink_room in
    let ax = length-append xs (x ∷ []) in
    let by = length-append ys (y ∷ []) in
    record {
      fresh = d.fresh;
      same = omega (arith, a, b, same, ax, by);
      back = omega (arith, a, ax, len, out);
      source_room = omega (arith, p, le);
      sink_room = omega (arith, q, le');
    }

pub state_after : (d : ScriptedDoor) (xs : List ScriptedSource) (ys : List ScriptedSink)
    (x : ScriptedSource) (y : ScriptedSink) → xs ≡ d.sources ++ x ∷ [] → ys ≡ d.sinks ++ y ∷ []
    → length d.sources ≡ length d.sinks
    → state_of (record d { sources = xs; sinks = ys }) ≡ after_done (scripted_link x y) (state_of d)
state_after d xs ys x y is is' e =
    ap (λ l. record (state_of d) { back = Some l })
    ((λ i. given_back (is i) (is' i)) ∙ given_back-push d.sources d.sinks x y e)
