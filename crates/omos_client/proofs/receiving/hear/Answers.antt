use Rattle.std.proofs.Common.{◌++◌, refl, sym}
use Rattle.omos_outside.proofs.Known.{Gives-then}
use Rattle.omos_wire.specs.Read.{answer_in}
use Rattle.omos_client.proofs.Received.{then_unheard}
use Rattle.omos_client.proofs.receiving.hear.Goals as goal

pub returns-in-Ok-receive_bye-clause-heard : goal.returns-in-Ok-receive_bye-clause-heard
returns-in-Ok-receive_bye-clause-heard g c =
    let one = c.in-Ok.ensures.received in
    let two = c.in-Ok-receive_bye.ensures.received in (
      one.0 ++ two.0,
      Gives-then _ _ _ one.0 two.0 one.1 two.1,
      (
        two.0,
        record { first = one.0; whole = refl; frame = one.2; may = sym c.if-not-may_have.ensures },
        two.2,
      ),
    )

pub returns-in-Err-receive_bye-clause-heard : goal.returns-in-Err-receive_bye-clause-heard
returns-in-Err-receive_bye-clause-heard g c =
    let one = c.in-Ok.ensures.received in
    then_unheard c.in-Err-receive_bye.unheard c.args.command (answer_in c.in-Ok.reply) _ _ _ one.0
    one.1 one.2
    (sym c.if-not-may_have.ensures) c.in-Err-receive_bye.ensures.received
