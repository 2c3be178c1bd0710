use Rattle.std.proofs.Common.{◌≡◌, ◌+◌, ◌%◌, ◌<◌, Bool, true, false, not, ap, refl, sym, ◌∙◌}
use Rattle.std.proofs.Common.{subst, length, arith, get_or}
use Rattle.std.proofs.Math.ListN.{set}
use Rattle.std.proofs.Math.Nat.{mod-lt}
use Rattle.std.proofs.lemmas.Grind.{get_or_default_zero}
use Rattle.std.specs.BTreeSet.{contains}
use Rattle.omos_model.specs.ElfFields.{name_of}
use Rattle.omos_model.specs.Names.{same_name}
use Rattle.omos_model.proofs.Names.{same_name-swap}
use Rattle.elf_object.specs.inside.Seen.{HaveSeen, digest, symbol_in_place, name_order}
use Rattle.elf_object.proofs.SeenNames.{again_other, free_new, seen_more, seen_put}
use Rattle.elf_object.proofs.seen.is_new.Goals as goal

twice_not : (b : Bool) → b ≡ not (not b)
twice_not true = refl
twice_not false = refl

pub returns-then-other-eq0 : goal.returns-then-other-eq0
returns-then-other-eq0 c =
    let file = c.args.file.now in
    let k = c.args.k in
    let places = c.args.places.now.items in
    let others = contains name_order c.args.others.now in
    let name = c.name-bytes.result.now in
    let r = c.requires in
    let at = c.digest-number.result % c.len.result in
    let count : c.len.result ≡ length places = omega arith in
    let here : at ≡ digest name % length places =
    ap (λ n. n % c.len.result) c.digest-number.ensures ∙ ap (λ n. digest name % n) count in
    let inside : at < length places = rw here (mod-lt (digest name) r.seen.some) in
    let free : symbol_in_place places name ≡ 0 =
    sym (ap (λ n. get_or places n 0) here)
    ∙ sym (get_or_default_zero places at c.index-other.result.now inside)
    ∙ sym c.index-other.ensures ∙ c.if-other-eq0.true in (
      free_new file k places others name r.export c.name-bytes.ensures r.seen free,
      λ _. subst (λ n. HaveSeen file (k + 1) (set places n k) others) (sym here)
          (seen_put file k places others name r.counted r.export c.name-bytes.ensures r.seen free),
    )

pub returns : goal.returns
returns c =
    let file = c.args.file.now in
    let k = c.args.k in
    let places = c.args.places.now.items in
    let others = contains name_order c.args.others.now in
    let name = c.name-bytes.result.now in
    let r = c.requires in
    let at = c.digest-number.result % c.len.result in
    let count : c.len.result ≡ length places = omega arith in
    let here : at ≡ digest name % length places =
    ap (λ n. n % c.len.result) c.digest-number.ensures ∙ ap (λ n. digest name % n) count in
    let inside : at < length places = rw here (mod-lt (digest name) r.seen.some) in
    let is : c.index-other.result.now ≡ symbol_in_place places name =
    c.index-other.ensures ∙ get_or_default_zero places at c.index-other.result.now inside
    ∙ ap (λ n. get_or places n 0) here in
    let apart : same_name name (name_of file (symbol_in_place places name)) ≡ false =
    same_name-swap name (name_of file (symbol_in_place places name))
    ∙ ap (λ n. same_name (name_of file n) name) (sym is)
    ∙ ap (λ n. same_name n name) (sym c.name.ensures)
    ∙ sym c.eq.ensures ∙ c.if-eq.false in
    let old : others name ≡ not c.in_ok-insert.field-0 =
    twice_not (others name) ∙ ap not (sym c.in_ok-insert.ensures.added) in (
      again_other file k places others name r.counted r.export c.name-bytes.ensures r.seen apart
          (not c.in_ok-insert.field-0) old,
      λ _. seen_more file k places others name r.counted r.export c.name-bytes.ensures r.seen
          (λ free. c.if-other-eq0.false (is ∙ free)) (contains name_order c.insert.new.self)
          c.in_ok-insert.ensures.updates.0,
    )
