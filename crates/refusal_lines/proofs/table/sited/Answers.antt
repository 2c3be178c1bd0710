use Rattle.refusal_lines.proofs.table.sited.Goals as goal

pub returns-clause-fits : goal.returns-clause-fits
returns-clause-fits c = record {
  name = c.requires.name;
  fields = (
    rw c.as_bytes.ensures.bytes c.as_bytes.ensures.path,
    (c.fits_u32.ensures, (c.requires.value, tt)),
  );
}
