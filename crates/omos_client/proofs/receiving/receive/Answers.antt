use Rattle.std.proofs.Common.{◌≡◌, ℕ, List, ap, sym, subst, ◌∙◌, arith}
use Rattle.omos_base.specs.Fields.{number_at}
use Rattle.omos_outside.specs.Stream.{Gives}
use Rattle.omos_client.proofs.Received.{no_length, no_reply, short_second}
use Rattle.omos_client.proofs.receiving.receive.Goals as goal

pub returns-then-size-eq0-clause-received : goal.returns-then-size-eq0-clause-received
returns-then-size-eq0-clause-received g c =
    let bytes : List ℕ = c.read_exactly.new.bytes.items in
    let filled = rw c.new-frame.ensures.items at c.in_default.ensures.filled in
    let size : c.u32_at-size.result ≡ number_at 4 0 bytes =
    c.u32_at-size.ensures ∙ ap (number_at 4 0) c.deref.ensures.value in (
      bytes,
      subst (Gives (g.S.Source.told c.args.source.now) (g.S.Source.told c.read_exactly.new.source))
          (sym filled.0.added) filled.0.given,
      no_length bytes filled.1 (λ some few. omega (arith, size, some, few, c.then-size-eq0.either)),
    )

pub returns-in-Err-read_exactly-clause-received : goal.returns-in-Err-read_exactly-clause-received
returns-in-Err-read_exactly-clause-received g c =
    let bytes : List ℕ = c.read_exactly.new.bytes.items in
    let filled = rw c.new-frame.ensures.items at c.in_default.ensures.filled in
    let size : c.u32_at-size.result ≡ number_at 4 0 bytes =
    c.u32_at-size.ensures ∙ ap (number_at 4 0) c.deref.ensures.value in
    rw c.cause_of-in-Err-read_exactly.ensures
    (short_second c.in-Err-read_exactly.unread _ _ _ bytes c.read_exactly-2.new.bytes.items filled.1
    filled.0 (rw size at c.in-Err-read_exactly.ensures.filled))

pub returns-in-Err-Refused-clause-received : goal.returns-in-Err-Refused-clause-received
returns-in-Err-Refused-clause-received g c =
    let bytes : List ℕ = c.read_exactly.new.bytes.items in
    let filled = rw c.new-frame.ensures.items at c.in_default.ensures.filled in
    let size : c.u32_at-size.result ≡ number_at 4 0 bytes =
    c.u32_at-size.ensures ∙ ap (number_at 4 0) c.deref.ensures.value in
    let whole = c.in_default-read_exactly.ensures.filled in
    let none =
    rw (c.in-Err-Refused.field-0-is, c.deref-2.ensures.value) at c.in-Err-Refused.ensures in
    no_reply _ _ _ bytes c.read_exactly-2.new.bytes.items filled.1 filled.0 whole.0
    (rw size at whole.1) none
