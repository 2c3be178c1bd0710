use Rattle.refusal_lines.proofs.table.only_site.Goals as goal

pub returns-clause-fits : goal.returns-clause-fits
returns-clause-fits c = record {
  name = c.requires;
  fields = (rw c.as_bytes.ensures.bytes c.as_bytes.ensures.path, (c.fits_u32.ensures, tt));
}
