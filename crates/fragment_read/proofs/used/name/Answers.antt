use Rattle.std.proofs.Common.{◌≡◌, ℕ, List, ◌∷◌, ◌++◌, [], suc, get_or, ap, ◌∙◌, arith}
use Rattle.fragment_read.specs.declared.used.Used.{Used}
use Rattle.fragment_read.proofs.UsedMore.{named_again, named_first, read_at}
use Rattle.fragment_read.proofs.used.name.Goals as goal
use Rattle.fragment_read.proofs.used.name.Goals.{then-next-eq0+in_ok-place, else-next-eq0}

pub returns : goal.returns
returns c =
    let old = c.args.used.now in
    let read =
    read_at old.places.items c.args.k c.index-next.result.now c.requires.there
    c.index-next.ensures in
    elim c.if-next-eq0.branch [
      | then-next-eq0+in_ok-place w ↦
          let keys =
          c.in_ok-push.ensures.added
          ∙ ap (λ (u : Used). u.keys ++ c.if-next-eq0.place ∷ []) w.used-is
          ∙ ap (λ (ks : List ℕ). ks ++ c.if-next-eq0.place ∷ []) w.in_ok-place.ensures.keys
          ∙ ap (λ (p : ℕ). old.keys ++ p ∷ []) (w.place-is ∙ w.in_ok-place.ensures.place) in
          named_first old _ c.args.k c.requires.used c.requires.there (read ∙ w.if-next-eq0.true)
          (ap (λ (u : Used). u.places.items) w.used-is ∙ w.in_ok-place.ensures.places)
          (ap (λ (u : Used). u.symbols) w.used-is ∙ w.in_ok-place.ensures.symbols) keys
      | else-next-eq0 w ↦
          let there : get_or old.places.items c.args.k 0 ≡ suc c.if-next-eq0.place =
          read ∙ omega (arith, w.place-is, w.if-next-eq0.false) in
          named_again old _ c.args.k c.if-next-eq0.place c.requires.used there
          (ap (λ (u : Used). record u { keys = c.push.new.self }) w.used-is
          ∙ ap (λ (ks : List ℕ). record old { keys = ks })
          (c.in_ok-push.ensures.added
          ∙ ap (λ (u : Used). u.keys ++ c.if-next-eq0.place ∷ []) w.used-is))
    ]
