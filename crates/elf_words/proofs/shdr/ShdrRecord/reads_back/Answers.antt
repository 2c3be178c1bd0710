use Rattle.elf_words.proofs.Back.{shdr_back}
use Rattle.elf_words.proofs.shdr.ShdrRecord.reads_back.Goals as goal

pub returns : goal.returns
returns c =
    shdr_back c.args.self.now c.args.rest.now c.fits_u32.ensures c.fits_u32-2.ensures
    c.fits_u64.ensures c.fits_u64-2.ensures c.fits_u64-3.ensures c.fits_u64-4.ensures
    c.fits_u32-3.ensures c.fits_u32-4.ensures c.fits_u64-5.ensures c.fits_u64-6.ensures
