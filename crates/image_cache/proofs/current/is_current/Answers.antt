use Rattle.std.proofs.Common.{◌≡◌, ◌∙◌, ap, sym, arith, length, drop}
use Rattle.std.specs.List.{list_all}
use Rattle.std.proofs.lemmas.Bool.Decides.{nat_tests}
use Rattle.omos_model.specs.declared.entry.Stamped.{Stamped}
use Rattle.std.proofs.Common.{not, ◌||◌, List, ℕ}
use Rattle.link_model.specs.Laws.{stamp_at}
use Rattle.place_book.specs.Keys.{is_listed}
use Rattle.image_cache.proofs.Known.{stay_is_stand, nothing_since}
use Rattle.image_cache.proofs.current.is_current.Goals as goal
use Rattle.image_cache.specs.Items.{has_stamp}

pub returns-then-is_empty : goal.returns-then-is_empty
returns-then-is_empty c =
    let since = drop c.args.item.now.current_at c.args.published.now in
    let len = ap length c.keys_since-since.ensures in
    let none : length since ≡ 0 = grind (arith, nat_tests, c.if-is_empty.ensures, len) in
    sym (nothing_since since c.args.snap.now.entries c.args.item.now.image.footprint none
    c.requires)

pub returns : goal.returns
returns c =
    let since = drop c.args.item.now.current_at c.args.published.now in
    c.all_stay.ensures
    ∙ ap (λ (ks : List ℕ). list_all (λ (s : Stamped). not (is_listed ks s.path)
    || has_stamp (stamp_at c.args.snap.now.entries s.path) s.stamp)
    c.args.item.now.image.footprint) c.keys_since-since.ensures
    ∙ stay_is_stand since c.args.snap.now.entries c.args.item.now.image.footprint c.requires
