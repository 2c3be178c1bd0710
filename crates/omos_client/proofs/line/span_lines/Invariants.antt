use Rattle.std.proofs.Common.{◌≡◌, take}
use Rattle.std.specs.List.{flat_map}
use Rattle.omos_client.specs.Lines.{span_line}
use Rattle.omos_client.proofs.line.span_lines.Given as goal

abbrev pub invariant-spans : goal.invariant-spans
invariant-spans l = l.lines ≡ flat_map span_line (take l.span-index l.spans)
