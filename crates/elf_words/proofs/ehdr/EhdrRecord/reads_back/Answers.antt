use Rattle.std.proofs.Common.{◌≡◌, length, rules}
use Rattle.elf_words.proofs.Back.{ehdr_back}
use Rattle.elf_words.proofs.ehdr.EhdrRecord.reads_back.Goals as goal

pub returns : goal.returns
returns c =
    let sixteen : length c.args.self.now.e_ident ≡ 16 = search rules in
    ehdr_back c.args.self.now c.args.rest.now sixteen c.fits_u16.ensures c.fits_u16-2.ensures
    c.fits_u32.ensures c.fits_u64.ensures c.fits_u64-2.ensures c.fits_u64-3.ensures
    c.fits_u32-2.ensures c.fits_u16-3.ensures c.fits_u16-4.ensures c.fits_u16-5.ensures
    c.fits_u16-6.ensures c.fits_u16-7.ensures c.fits_u16-8.ensures
