use Rattle.std.proofs.Common.{ap, length, arith}
use Rattle.dict_row.proofs.Decoded.{place_below, key_below, value_at}
use Rattle.dict_row.proofs.dict.DictRow.get.Goals as goal

pub offset_bounds-as_slice-place : goal.offset_bounds-as_slice-place
offset_bounds-as_slice-place g c =
    let within =
    place_below c.self.inside.values.items c.self.inside.keys c.args.self.now c.args.place
    c.self.invariant c.self.view_is c.requires in
    let known = c.as_slice.type_inv in
    let lent = ap length (c.as_slice.ensures) in
    let got = ap length (c.get.ensures) in
    omega (arith, within, known.0, known.1, lent, got)

pub bounds-as_slice-place : goal.bounds-as_slice-place
bounds-as_slice-place g c =
    rw (c.as_slice.ensures, c.get.ensures)
    (place_below c.self.inside.values.items c.self.inside.keys c.args.self.now c.args.place
    c.self.invariant c.self.view_is c.requires)

pub bounds-as_slice-key : goal.bounds-as_slice-key
bounds-as_slice-key g c =
    rw (c.as_slice.ensures, c.get.ensures, c.as_slice-2.ensures.value)
    (key_below c.self.inside.values.items c.self.inside.keys c.args.self.now c.args.place
    c.self.invariant c.self.view_is c.requires)

pub returns : goal.returns
returns g c =
    value_at c.self.inside.values.items c.self.inside.keys c.args.self.now c.args.place
    c.index-as_slice-key.result c.self.invariant c.self.view_is c.requires
    (rw (← c.as_slice-2.ensures.value, ← c.get.ensures, ← c.as_slice.ensures)
    c.index-as_slice-key.is)
