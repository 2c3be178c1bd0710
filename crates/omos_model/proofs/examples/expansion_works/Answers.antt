-- Each example computes.
use Rattle.std.proofs.Common.{refl}
use Rattle.omos_model.specs.Expansion.{expand}
use Rattle.omos_model.proofs.examples.expansion_works.Goals as goal

pub returns : goal.returns
unfolding expand
returns c = record {
  no_entry = refl;
  no_request = refl;
  own = refl;
  own_call = refl;
  cycle = refl;
  chain_of_32 = refl;
  chain_of_33 = refl;
  deep_first = refl;
  leaves_256 = refl;
  leaves_512 = refl;
  leaf_256 = refl;
  leaf_257 = refl;
  node_4096 = refl;
  node_4097 = refl;
  node_4098 = refl;
  exports_524288 = refl;
  exports_524289 = refl;
  fixups_524288 = refl;
  fixups_524289 = refl;
}
