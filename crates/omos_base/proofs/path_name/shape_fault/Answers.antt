use Rattle.std.proofs.Common.{rules, arith}
use Rattle.omos_base.proofs.PathBeginnings.{stops_at_once, stops_at_slash, stops_at_byte}
use Rattle.omos_base.proofs.PathBeginnings.{ends_early}
use Rattle.omos_base.proofs.PathBeginnings.{is_path, stands_begun, stands_more_slash}
use Rattle.omos_base.proofs.PathBeginnings.{stands_more_byte}
use Rattle.omos_base.proofs.path_name.shape_fault.Goals as goal
use Rattle.omos_base.proofs.path_name.shape_fault.Goals.{then-byte-eq47+else-size-eq0+else-parts-eq16+else-place-eq254}
use Rattle.omos_base.proofs.path_name.shape_fault.Goals.{else-byte-eq47+else-size-eq64+else-not-is_part_byte}

pub returns-then-not-starts_with : goal.returns-then-not-starts_with
returns-then-not-starts_with c = stops_at_once c.args.bytes.now c.requires (search rules)

pub loop-place-init : goal.loop-place-init
loop-place-init c = stands_begun c.args.bytes.now (search rules) (search rules)

pub returns-then-size-eq0 : goal.returns-then-size-eq0
returns-then-size-eq0 c =
    stops_at_slash c.args.bytes.now c.loop-place.place _ _ c.loop-place-test.true c.requires
    c.if-byte-eq47.true c.loop-place.invariant (search rules)

pub returns-then-size-eq64 : goal.returns-then-size-eq64
returns-then-size-eq64 c =
    stops_at_byte c.args.bytes.now c.loop-place.place _ _ c.loop-place-test.true c.requires
    c.if-byte-eq47.false c.loop-place.invariant (search rules)

pub loop-place-preserved : goal.loop-place-preserved
loop-place-preserved c =
    let bytes = c.args.bytes.now in
    let place = c.loop-place.place in
    let s = c.loop-place.invariant in
    elim c.if-byte-eq47.branch [
      | then-byte-eq47+else-size-eq0+else-parts-eq16+else-place-eq254 w ↦
          rw (w.parts-is, w.size-is) (stands_more_slash bytes place _ _ c.loop-place-test.true
          w.if-byte-eq47.true s (omega arith) (omega arith) (omega arith))
      | else-byte-eq47+else-size-eq64+else-not-is_part_byte w ↦
          rw (w.parts-is, w.size-is) (stands_more_byte bytes place _ _ c.loop-place-test.true
          (w.is_part_byte.ensures.0 w.if-not-is_part_byte.false) s (omega arith))
    ]

pub returns-then-size-eq0-2 : goal.returns-then-size-eq0-2
returns-then-size-eq0-2 c =
    ends_early c.args.bytes.now c.loop-place.place _ _ (omega arith) c.requires
    c.loop-place.invariant c.if-size-eq0-2.true

pub returns-else-size-eq0-2 : goal.returns-else-size-eq0-2
returns-else-size-eq0-2 c =
    is_path c.args.bytes.now c.loop-place.place _ _ (omega arith) c.requires
    c.loop-place.invariant (omega arith)
