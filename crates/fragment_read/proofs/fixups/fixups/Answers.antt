use Rattle.std.proofs.Common.{List, length, map, ap, sym, ◌∙◌}
use Rattle.std.proofs.lemmas.List.{length-map}
use Rattle.dict_row.proofs.Decoded.{keys_of_mapped}
use Rattle.omos_model.specs.FixupParts.{fixups_of}
use Rattle.omos_model.specs.FragmentOf.{aim_of}
use Rattle.omos_model.specs.declared.fixups.Field.{Field}
use Rattle.fragment_read.specs.inside.Used.{named_symbols}
use Rattle.fragment_read.proofs.Gathering.{aimed_at}
use Rattle.fragment_read.proofs.fixups.fixups.Goals as goal

pub push_all-requires-clause-none : goal.push_all-requires-clause-none
unfolding fixups_of
push_all-requires-clause-none c =
    let aims = map (aim_of c.args.tables.now) (named_symbols c.in_ok-used.used) in
    ap (λ (fs : List Field). fixups_of fs aims)
    (c.from_vec-fields.ensures ∙ c.in_ok-with_capacity.ensures.items)

pub of-requires-2 : goal.of-requires-2
of-requires-2 c =
    let used = c.push_all.new.used in
    let aimed = aim_of c.args.tables.now in
    rw (c.in_ok-of.ensures, c.in_ok-aims.ensures, c.as_slice.ensures)
    (keys_of_mapped aimed used.symbols used.keys c.in_ok-push_all.ensures.right.used.keys)

pub of-requires-3 : goal.of-requires-3
of-requires-3 c =
    let used = c.push_all.new.used in
    let aimed = aim_of c.args.tables.now in
    let list =
    aimed_at c.args.tables.now used c.in_ok-of.field-0 c.in_ok-aims.aims c.in_ok-of.ensures
    (c.in_ok-aims.ensures ∙ ap (map aimed) c.as_slice.ensures) in
    ap length (c.of-2.ensures ∙ list) ∙ length-map (named_symbols used) aimed
    ∙ c.in_ok-push_all.ensures.right.count ∙ sym (ap length c.fields-2.view_is)

pub returns : goal.returns
returns c =
    let used = c.push_all.new.used in
    let aimed = aim_of c.args.tables.now in
    let list =
    aimed_at c.args.tables.now used c.in_ok-of.field-0 c.in_ok-aims.aims c.in_ok-of.ensures
    (c.in_ok-aims.ensures ∙ ap (map aimed) c.as_slice.ensures) in
    c.of-3.ensures
    ∙ ap (λ (fs : List Field). fixups_of fs c.of-2.result) c.fields-2.view_is
    ∙ ap (fixups_of c.push_all.new.fields) (c.of-2.ensures ∙ list)
    ∙ c.in_ok-push_all.ensures.all
