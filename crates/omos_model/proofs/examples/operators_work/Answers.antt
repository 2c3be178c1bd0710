-- Each example computes.
use Rattle.std.proofs.Common.{refl}
use Rattle.omos_model.specs.Expansion.{expand}
use Rattle.omos_model.proofs.examples.operators_work.Goals as goal

pub returns : goal.returns
unfolding expand
returns c = record {
  conflict = refl;
  swapped = refl;
  third = refl;
  nodes_after = refl;
  override = refl;
  frozen = refl;
  wrapped_call = refl;
  wrapper_call = refl;
  wrapper_hides = refl;
  renamed = refl;
  renamed_open = refl;
  renamed_away = refl;
  taken = refl;
  no_name = refl;
  same = refl;
  same_defines = refl;
  copied = refl;
  copied_itself = refl;
  not_defined = refl;
  shown = refl;
  shown_open = refl;
  not_shown = refl;
  shown_none = refl;
  none_defined = refl;
  all_bound = refl;
  inner_first = refl;
}
