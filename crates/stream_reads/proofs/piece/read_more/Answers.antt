use Rattle.std.proofs.Common.{◌≡◌, ℕ, ◌+◌, ◌≤◌, List, length, take, ap, ◌∙◌, sym, arith}
use Rattle.std.proofs.lemmas.List.{take_all, with_items_is}
use Rattle.std.proofs.Math.Seq.{take-append_seam}
use Rattle.stream_reads.proofs.Grown.{more_by_piece}
use Rattle.stream_reads.proofs.piece.read_more.Goals as goal

pub returns-in-Bytes-clause-read : goal.returns-in-Bytes-clause-read
returns-in-Bytes-clause-read g c =
    let held : List ℕ = c.args.bytes.now.items in
    let bytes : List ℕ = c.read_behind-got.new.bytes in
    let place : c.len-place.result ≡ length held = c.len-place.ensures ∙ c.args.bytes.now.ok.0 in
    let resized = c.in_ok-resize.ensures.items in
    let filled = rw (take_all (c.len-place.result + c.args.room) held (omega arith)) at resized in
    let kept =
    rw (c.deref_mut.ensures.value, filled, place, take-append_seam) at
    c.read_behind-got.ensures.kept in
    let whole : length bytes ≡ length c.resize.new.self.items =
    c.read_behind-got.auto.bytes ∙ ap length c.deref_mut.ensures.value in
    let sized : length bytes ≡ length held + c.args.room =
    whole ∙ sym c.resize.new.self.ok.0 ∙ c.in_ok-resize.ensures.len
    ∙ ap (λ n. n + c.args.room) place in
    let cut = c.truncate.ensures.items
    ∙ ap (take (c.len-place.result + c.in-Bytes.count))
    (with_items_is c.resize.new.self bytes (whole ∙ sym c.resize.new.self.ok.0)) in
    let room : c.in-Bytes.count ≤ c.args.room =
    omega (arith, c.in-Bytes.ensures.room.1, place, sized, c.read_behind-got.auto.bytes) in
    more_by_piece _ _ held bytes c.truncate.new.self.items c.args.room c.in-Bytes.count
    kept sized (rw place at cut) c.in-Bytes.ensures.room.0 room
    (rw place at c.in-Bytes.ensures.told)
