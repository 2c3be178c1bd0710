use Rattle.std.proofs.Common.{subst}
use Rattle.std.proofs.lemmas.List.Elements.{All-more}
use Rattle.omos_base.specs.SymNames.{IsSymName}
use Rattle.bp_tree.proofs.NamedForms.{seen_all}
use Rattle.bp_tree.proofs.named.see_names.Goals as goal

pub names-preserved : goal.names-preserved
names-preserved c =
    All-more IsSymName c.args.names.now c.names.name-index c.name-item.result c.names-test.true
    c.names.invariant (subst IsSymName c.name-item.is c.as_bytes.ensures.name)

pub returns : goal.returns
returns c =
    seen_all IsSymName c.args.names.now c.names.name-index c.names-test.false c.names.invariant
