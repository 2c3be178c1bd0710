-- Each example computes.
use Rattle.std.proofs.Common.{refl}
use Rattle.omos_base.specs.Fields.{number_at}
use Rattle.omos_model.specs.ElfFaults.{object_fault}
use Rattle.omos_model.specs.FragmentOf.{fragment_of}
use Rattle.omos_model.proofs.examples.objects_work.Goals as goal

pub returns : goal.returns
unfolding number_at object_fault fragment_of
returns c = record {
  whole = refl;
  weak = refl;
  local = refl;
  common = refl;
  none = refl;
  length = refl;
  not_elf = refl;
  kind = refl;
  headers = refl;
  section = refl;
  unsupported = refl;
  symbols = refl;
  symbol = refl;
  value = refl;
  unended = refl;
  twice = refl;
  relas = refl;
  rela = refl;
  no_symbol = refl;
  field = refl;
  first = refl;
}
