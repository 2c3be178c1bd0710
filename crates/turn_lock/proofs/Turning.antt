-- The steps of a turn keep the rule: drawing, looking, noting, fetching and leaving.
use Rattle.std.proofs.Common.{◌≡◌, ◌≢◌, ℕ, ◌+◌, ◌%◌, ◌^◌, ◌<◌, ◌≤◌, List, [], ◌∷◌, ◌++◌, length}
use Rattle.std.proofs.Common.{set, get_or, Option, Some, None, true, false, refl, sym, ap, ◌∙◌}
use Rattle.std.proofs.Common.{subst, inl, inr, ⊎_elim, arith, length-append, length-set}
use Rattle.std.proofs.Common.{mod-eq_of_lt}
use mathlib.Core.Option.{Option as Maybe, none, some}
use mathlib.Core.Logic.{dite}
use native.Mathlib.Decide.{ℕ_discrete}
use lib.ListN.{get_elem?}
use Rattle.atomic_table.specs.Table.{State, Me, step, keeps, takes, gives, stepped, Allows}
use Rattle.atomic_table.proofs.Lists.{set_here, at_longer, at_last}
use Rattle.turn_lock.specs.declared.rule.View.{View}
use Rattle.turn_lock.specs.declared.rule.Stage.{Stage}
use Rattle.turn_lock.specs.declared.rule.Stage.TheVariants.{Free, Waiting, Open, Turn}
use Rattle.turn_lock.specs.Steps.{AllBy, GoesOn, Adds}
use Rattle.turn_lock.specs.Views.{is_spent, is_busy, tickets_of, ticket_of, drawn_by, view_numbers}
use Rattle.turn_lock.specs.Views.{tickets, drawn, in_stage, called, gone, Gone}
use Rattle.turn_lock.specs.inside.Rule.{World, Home, Kept}
use Rattle.turn_lock.specs.inside.Rule.{StandsAtStage}
use Rattle.turn_lock.specs.Tells.{drew, looked, rested, fetched, left_turn}
use Rattle.turn_lock.proofs.Lists.{inside, same_some, not_both}
use Rattle.turn_lock.proofs.Seats.{AllBelow-append, AllBy-below, goes_nowhere, goes_further}
use Rattle.turn_lock.proofs.Stages.{busy_live, busy_one, busy_drawn, gone_set, one_owner, stays}
use Rattle.turn_lock.proofs.Stages.{stands_on, busy_first, others_wait}
use Rattle.turn_lock.proofs.Moves.{before, after, moved, still, home_set, word0, word1, same_words}
use Rattle.turn_lock.proofs.Moves.{not_many}

module _ {T X : Type 0} (steps : T → List X) (seat_of : X → ℕ) (first second : T → ℕ)
    (opening : T) where
  abbrev V : Type 0
  V = View X

  abbrev St : Type 0
  St = State (Option T) V

  abbrev M : Type 0
  M = Me (Option T) V

  abbrev W : Type 0
  W = World T X

  abbrev Rule : St → Type 0
  Rule = Kept steps seat_of first second opening

  abbrev At : W → Type 0
  At = Home steps seat_of first second

  pub draws : (slots id : ℕ) (me : M) → me.0.stage ≡ Free → length me.0.turns < 1099511627776
      → Allows Rule slots id me 0 (λ n. (n + 1) % 2 ^ 64) (drew (step slots 0 1 0 none) me)
  draws slots id me free few s r _ at small =
      let x : ℕ = get_or s.words 0 0 in
      let w : V = in_stage me.0 (Waiting x) in
      let is : x ≡ length r.owners = word0 steps seat_of first second opening s r in
      let many = not_many steps seat_of first second opening s r in
      let live : is_spent me.0.stage ≡ false = ap is_spent free in
      let fits : x + 1 < 2 ^ 64 = omega (arith, is, many) in
      let up : (x + 1) % 2 ^ 64 ≡ x + 1 = mod-eq_of_lt fits in
      let owners : List ℕ = r.owners ++ id ∷ [] in
      let one_more : length owners ≡ length r.owners + 1 = length-append r.owners (id ∷ []) in
      let next : (x + 1) % 2 ^ 64 ≡ length owners = up ∙ omega (arith, is, one_more) in
      let none_out : tickets me.0 ≡ 0 = ap tickets_of free in
      let so_far : drawn me.0 ≡ length me.0.turns =
      ap (λ (st : Stage). drawn_by st (length me.0.turns)) free in
      let goes : (n : ℕ) → Gone s.views n
      → Gone (set s.views id w) n = λ n g. (gone_set s.views id me.0 w at live n g).1 in
      let same = length-set s.views id w in
      let first_out : r.left ≤ x = let out = r.out in omega (arith, out, is) in
      let z : W = before steps seat_of first second opening s r in
      let z' : W = after steps seat_of first second opening s.homes
      (set s.views id w) r.log r.left owners in (
        w,
        keeps,
        tt,
        moved steps seat_of first second opening s r id me.0 w
            (set s.words 0 ((x + 1) % 2 ^ 64)) s.homes r.log r.left owners at
            (ap (λ (ws : List ℕ). set ws 0 ((x + 1) % 2 ^ 64)) r.words
            ∙ ap (λ (n : ℕ). n ∷ r.left ∷ []) next)
            (omega (arith, none_out, one_more)) (omega (arith, so_far, one_more))
            (omega (arith, few)) r.below
            (λ j u apart e alive k. stays seat_of z z' j u u.stage (λ g. g) (λ g. g)
            (stands_on z z' j u.seen u.stage refl
            (λ t o. at_longer r.owners (id ∷ []) t j o) refl refl k.stands) goes same refl refl
            k)
            (stays seat_of z z' id me.0 (Waiting x) (λ g. g) (λ g. g)
            (first_out, at_last r.owners id x (sym is)) goes same refl refl
            (r.each id me.0 at live))
            (home_set steps seat_of first second opening s r id me.0 w owners at (ap is_busy free)),
        (refl, refl),
      )

  -- the turn that word 1 counts is this pass's
  pub calls : (slots id t : ℕ) (me : M) → me.0.stage ≡ Waiting t → (s : St) (r : Rule s)
      → get_elem? s.views id ≡ some me.0 → get_or s.words 1 0 ≡ t
      → (x : T) × (s.homes ≡ some (Some x) ∷ [])
      × Rule (stepped s 1 (get_or s.words 1 0) id me.1 (called me.0 (steps x))
      (takes 0 (Some x)))
      × GoesOn seat_of (view_numbers me.0) me.0.seen (steps x) × (first x ≡ me.0.first)
      × (second x ≡ me.0.second)
  calls slots id t me waits s r at found =
      let live : is_spent me.0.stage ≡ false = ap is_spent waits in
      let l = r.each id me.0 at live in
      let z : W = before steps seat_of first second opening s r in
      let mine = subst (StandsAtStage z id me.0.seen) waits l.stands in
      let now : t ≡ r.left = sym found ∙ word1 steps seat_of first second opening s r in
      let owner : get_elem? r.owners r.left ≡ some id =
      subst (λ (k : ℕ). get_elem? r.owners k ≡ some id) now mine.1 in
      ⊎_elim
      (λ (h : (x : T) × (s.homes ≡ some (Some x) ∷ []) × (steps x ≡ r.log)
      × (first x ≡ first opening) × (second x ≡ second opening)).
      let w : V = called me.0 (steps h.0) in
      let ticket : ticket_of me.0.stage ≡ r.left = ap ticket_of waits ∙ now in
      let one_out : tickets me.0 ≡ 1 = ap tickets_of waits in
      let so_far : drawn me.0 ≡ length me.0.turns + 1 =
      ap (λ (st : Stage). drawn_by st (length me.0.turns)) waits in
      let was_light : drawn me.0 ≤ 1099511627776 = r.light id me.0 at in
      let now_turns : length w.turns ≡ length me.0.turns + 1 =
      length-append me.0.turns (length (steps h.0) ∷ []) in
      let z' : W = after steps seat_of first second opening (none ∷ [])
      (set s.views id w) r.log r.left r.owners in
      let goes : (n : ℕ) → Gone s.views n
      → Gone (set s.views id w) n = λ n g. (gone_set s.views id me.0 w at live n g).1 in
      let same = length-set s.views id w in
      let made = l.made in (
        h.0,
        h.1,
        subst (λ (hs : List (Maybe (Option T))). Rule
            record {
              words = set s.words 1 (get_or s.words 1 0);
              homes = hs;
              views =
                  set s.views id w;
            }) (sym (ap (λ (hs : List (Maybe (Option T))). set hs 0 none) h.1))
            (moved steps seat_of first second opening s r id me.0 w
            (set s.words 1 (get_or s.words 1 0))
            (none ∷ []) r.log r.left r.owners
            at (same_words steps seat_of first second opening s r 1)
            (omega (arith, one_out)) (omega (arith, so_far, now_turns))
            (omega (arith, so_far, was_light, now_turns)) r.below
            (λ j u apart e alive k. stays seat_of z z' j u u.stage (λ g. g) (λ g. g)
            (others_wait z z' j id u.seen u.stage owner apart refl (λ _ le _. le) k.stands) goes
            same refl refl k)
            record {
              number = l.number;
              joined = λ n p. goes n (l.joined n p);
              late = λ n p. goes n (l.late n p);
              seen = goes_nowhere seat_of (view_numbers me.0) (steps h.0) r.log h.2;
              late_seen = l.late_seen;
              made = omega (arith, made, same);
              all = λ p. l.all p ∙ sym same;
              late_all = λ p. l.late_all p ∙ sym same;
              first = l.first;
              second = l.second;
              stands = (
                ticket,
                subst (λ (k : ℕ). get_elem? r.owners k ≡ some id)
                    (sym ticket) owner,
                refl,
                h.2,
              );
            }
            (inr (id, w, set_here s.views id w (inside s.views id me.0 at), refl))),
        subst (GoesOn seat_of (view_numbers me.0) me.0.seen) (sym h.2) l.seen,
        h.3 ∙ sym l.first,
        h.4 ∙ sym l.second,
      ))
      (λ (h : (i : ℕ) × (u : V) × (get_elem? s.views i ≡ some u) × (is_busy u.stage ≡ true)).
      let theirs = busy_first z h.0 h.1.seen h.1.stage h.3
      (r.each h.0 h.1 h.2 (busy_live h.1.stage h.3)).stands in
      let one : h.0 ≡ id = one_owner r.owners r.left h.0 id theirs.0 owner in
      let same : h.1 ≡ me.0 = same_some (get_elem? s.views id) h.1 me.0
      (subst (λ (k : ℕ). get_elem? s.views k ≡ some h.1) one h.2) at in
      absurd (not_both (is_busy h.1.stage) h.3
      (ap (λ (u : V). is_busy u.stage) same ∙ ap is_busy waits)))
      r.home

  pub looks : (slots id t : ℕ) (me : M) → me.0.stage ≡ Waiting t
      → Allows Rule slots id me 1 (λ n. n)
      (looked steps seat_of first second (step slots 1 0 0 none) me)
  looks slots id t me waits s r _ at small =
      dite (ℕ_discrete (get_or s.words 1 0) (ticket_of me.0.stage))
      (λ hit. let c = calls slots id t me waits s r at (hit ∙ ap ticket_of waits) in (
        called me.0 (steps c.0),
        takes 0 (Some c.0),
        ap (λ (hs : List (Maybe (Option T))). get_elem? hs 0) c.1,
        c.2,
        ((λ _. (c.0, refl, refl, c.3, c.4, c.5)), λ miss. absurd (miss hit)),
      ))
      (λ miss. (
        me.0,
        keeps,
        tt,
        still steps seat_of first second opening s r 1 id me at,
        ((λ hit. absurd (miss hit)), λ _. refl),
      ))

  -- a pass that has its turn goes on with it, and the empty slot goes out or home
  pub holds_on : (s : St) (r : Rule s) (id : ℕ) (v : V) (st : Stage)
      (homes : List (Maybe (Option T))) → get_elem? s.views id ≡ some v → is_busy v.stage ≡ true
      → is_busy st ≡ true
      → StandsAtStage (after steps seat_of first second opening homes
      (set s.views id (in_stage v st)) r.log r.left r.owners) id v.seen st
      → Rule record {
        words = set s.words 1 (get_or s.words 1 0);
        homes = homes;
        views = set s.views id (in_stage v st);
      }
  holds_on s r id v st homes at was is stands =
      let w : V = in_stage v st in
      let live = busy_live v.stage was in
      let l = r.each id v at live in
      let z : W = before steps seat_of first second opening s r in
      let z' : W = after steps seat_of first second opening homes
      (set s.views id w) r.log r.left r.owners in
      let first_out = (busy_first z id v.seen v.stage was l.stands).0 in
      let goes : (n : ℕ) → Gone s.views n
      → Gone (set s.views id w) n = λ n g. (gone_set s.views id v w at live n g).1 in
      let same = length-set s.views id w in
      let a = busy_one v.stage was in
      let b = busy_one st is in
      let c = busy_drawn v.stage (length v.turns) was in
      let d = busy_drawn st (length v.turns) is in
      let light = r.light id v at in
      moved steps seat_of first second opening s r id v w
      (set s.words 1 (get_or s.words 1 0)) homes r.log r.left r.owners
      at (same_words steps seat_of first second opening s r 1)
      (omega (arith, a, b)) (omega (arith, c, d)) (omega (arith, c, d, light)) r.below
      (λ j u apart e alive k. stays seat_of z z' j u u.stage (λ g. g) (λ g. g)
      (others_wait z z' j id u.seen u.stage first_out apart refl (λ _ le _. le) k.stands) goes
      same refl refl k)
      (stays seat_of z z' id v st (λ g. g) (λ g. g) stands goes same refl refl l)
      (inr (id, w, set_here s.views id w (inside s.views id v at), is))

  pub rests : (slots id t : ℕ) (v : V) → v.stage ≡ Open t
      → Allows Rule slots id (v, (0, None) ∷ []) 1 (λ n. n)
      (rested (step slots 1 0 0 none) (v, (0, None) ∷ []))
  rests slots id t v open_at s r _ at small =
      let l = r.each id v at (ap is_spent open_at) in
      let mine = subst (StandsAtStage (before steps seat_of first second opening s r) id v.seen)
      open_at l.stands in
      let ticket : ticket_of v.stage ≡ t = ap ticket_of open_at in (
        in_stage v (Turn (ticket_of v.stage)),
        gives,
        tt,
        holds_on s r id v (Turn (ticket_of v.stage))
            (set s.homes 0 (some None)) at (ap is_busy open_at) refl (
              ticket ∙ mine.0,
              subst (λ (k : ℕ). get_elem? r.owners k ≡ some id) (sym ticket) mine.1,
              ap (λ (hs : List (Maybe (Option T))). set hs 0 (some None)) mine.2,
              mine.3,
            ),
        (refl, refl),
      )

  pub fetches : (slots id t : ℕ) (v : V) → v.stage ≡ Turn t
      → Allows Rule slots id (v, []) 1 (λ n. n) (fetched (step slots 1 0 0 none) (v, []))
  fetches slots id t v turn_at s r _ at small =
      let l = r.each id v at (ap is_spent turn_at) in
      let mine = subst (StandsAtStage (before steps seat_of first second opening s r) id v.seen)
      turn_at l.stands in
      let ticket : ticket_of v.stage ≡ t = ap ticket_of turn_at in (
        in_stage v (Open (ticket_of v.stage)),
        takes 0 None,
        ap (λ (hs : List (Maybe (Option T))). get_elem? hs 0) mine.2,
        holds_on s r id v (Open (ticket_of v.stage))
            (set s.homes 0 none) at (ap is_busy turn_at) refl (
              ticket ∙ mine.0,
              subst (λ (k : ℕ). get_elem? r.owners k ≡ some id) (sym ticket) mine.1,
              ap (λ (hs : List (Maybe (Option T))). set hs 0 none) mine.2,
              mine.3,
            ),
        (refl, refl),
      )

  pub leaves : (slots id t : ℕ) (v : V) (y : T) (news : List X) → v.stage ≡ Open t
      → steps y ≡ v.seen ++ news → AllBy seat_of v.number news → first y ≡ v.first
      → second y ≡ v.second
      → Allows Rule slots id (v, (0, Some y) ∷ []) 1 (λ n. (n + 1) % 2 ^ 64)
      (left_turn steps (step slots 1 1 0 none) (v, (0, Some y) ∷ []))
  leaves slots id t v y news open_at adds own one two s r _ at small =
      let w : V = gone v (steps y) in
      let live : is_spent v.stage ≡ false = ap is_spent open_at in
      let l = r.each id v at live in
      let z : W = before steps seat_of first second opening s r in
      let mine = subst (StandsAtStage z id v.seen) open_at l.stands in
      let x : ℕ = get_or s.words 1 0 in
      let is : x ≡ r.left = word1 steps seat_of first second opening s r in
      let many = not_many steps seat_of first second opening s r in
      let out = r.out in
      let fits : x + 1 < 2 ^ 64 = omega (arith, is, many, out) in
      let next : (x + 1) % 2 ^ 64 ≡ r.left + 1 = mod-eq_of_lt fits ∙ ap (λ (n : ℕ). n + 1) is in
      let log : List X = r.log ++ news in
      let whole : steps y ≡ log = adds ∙ ap (λ k. k ++ news) mine.3 in
      let own' : AllBy seat_of id news = subst (λ (n : ℕ). AllBy seat_of n news) l.number own in
      let owner : get_elem? r.owners r.left ≡ some id =
      subst (λ (k : ℕ). get_elem? r.owners k ≡ some id) mine.0 mine.1 in
      let homes : List (Maybe (Option T)) = set s.homes 0 (some (Some y)) in
      let z' : W = after steps seat_of first second opening homes (set s.views id w) log
      (r.left + 1) r.owners in
      let goes : (n : ℕ) → Gone s.views n
      → (n ≢ id) × Gone (set s.views id w) n = λ n g. gone_set s.views id v w at live n g in
      let same = length-set s.views id w in
      let a : tickets v ≡ 1 = ap tickets_of open_at in
      let b : drawn v ≡ length v.turns =
      ap (λ (st : Stage). drawn_by st (length v.turns)) open_at in
      let light = r.light id v at in
      let made = l.made in (
        w,
        gives,
        tt,
        moved steps seat_of first second opening s r id v w
            (set s.words 1 ((x + 1) % 2 ^ 64)) homes log (r.left + 1) r.owners at
            (ap (λ (ws : List ℕ). set ws 1 ((x + 1) % 2 ^ 64)) r.words
            ∙ ap (λ (n : ℕ). length r.owners ∷ n ∷ []) next)
            (omega (arith, a)) (omega (arith, b)) (omega (arith, b, light))
            (AllBelow-append seat_of (length s.views) r.log news r.below
            (AllBy-below seat_of id (length s.views) news (inside s.views id v at) own'))
            (λ j u apart e alive k. stays seat_of z z' j u u.stage
            (goes_further seat_of id (view_numbers u) u.seen r.log news
            (λ n p. ⊎_elim (λ (q : u.number ≡ n). λ (h : n ≡ id). apart
            (sym k.number ∙ (q ∙ h))) (λ q. (goes n (k.joined n q)).0) p) own')
            (goes_further seat_of id u.late u.late_seen r.log news
            (λ n p. (goes n (k.late n p)).0) own')
            (others_wait z z' j id u.seen u.stage owner apart refl
            (λ t le ne. omega (arith, le, ne)) k.stands) (λ n g. (goes n g).1) same refl refl k)
            record {
              number = l.number;
              joined = λ n p. (goes n (l.joined n p)).1;
              late = λ n p. (goes n (l.late n p)).1;
              seen = goes_nowhere seat_of (view_numbers v) (steps y) log whole;
              late_seen = goes_further seat_of id v.late v.late_seen r.log news
                  (λ n p. (goes n (l.late n p)).0) own' l.late_seen;
              made = omega (arith, made, same);
              all = λ p. l.all p ∙ sym same;
              late_all = λ p. l.late_all p ∙ sym same;
              first = l.first;
              second = l.second;
              stands = tt;
            }
            (inl (
              y,
              ap (λ (hs : List (Maybe (Option T))). set hs 0 (some (Some y))) mine.2,
              whole,
              one ∙ l.first,
              two ∙ l.second,
            )),
        (refl, refl),
      )

  -- the same at a seat that is known to be so
  pub rests_as : (slots id t : ℕ) (me : M) → me.0.stage ≡ Open t → me.1 ≡ (0, None) ∷ []
      → Allows Rule slots id me 1 (λ n. n) (rested (step slots 1 0 0 none) me)
  rests_as slots id t me is e = subst
      (λ (c : List (ℕ × Option T)). Allows Rule slots id (me.0, c) 1 (λ n. n)
      (rested (step slots 1 0 0 none) (me.0, c))) (sym e) (rests slots id t me.0 is)

  pub fetches_as : (slots id t : ℕ) (me : M) → me.0.stage ≡ Turn t → me.1 ≡ []
      → Allows Rule slots id me 1 (λ n. n) (fetched (step slots 1 0 0 none) me)
  fetches_as slots id t me is e = subst
      (λ (c : List (ℕ × Option T)). Allows Rule slots id (me.0, c) 1 (λ n. n)
      (fetched (step slots 1 0 0 none) (me.0, c))) (sym e) (fetches slots id t me.0 is)

  pub leaves_as : (slots id t : ℕ) (me : M) (v : V) (y : T) → me ≡ (v, (0, Some y) ∷ [])
      → v.stage ≡ Open t → Adds seat_of v.number v.seen (steps y) → first y ≡ v.first
      → second y ≡ v.second
      → Allows Rule slots id me 1 (λ n. (n + 1) % 2 ^ 64)
      (left_turn steps (step slots 1 1 0 none) me)
  leaves_as slots id t me v y e is adds one two =
      subst (λ (m : M). Allows Rule slots id m 1 (λ n. (n + 1) % 2 ^ 64)
      (left_turn steps (step slots 1 1 0 none) m)) (sym e)
      (leaves slots id t v y adds.news is adds.whole adds.own one two)
