use Rattle.std.proofs.Common.{◌≡◌, [], ◌∷◌, ap, sym, ◌∙◌, true}
use Rattle.std.specs.Option.{option_to_list}
use Rattle.omos_model.specs.ElfFields.{symtabs}
use Rattle.omos_model.specs.ElfFaults.{is_right_symtab}
use Rattle.elf_object.proofs.Symtabs.{the_table, symbols_of_table, right_one}
use Rattle.elf_object.proofs.symtab.symbols_of.Goals as goal

pub is_right_symtab-requires-clause-there : goal.is_right_symtab-requires-clause-there
is_right_symtab-requires-clause-there c =
    (the_table c.args.file.now c.in-Some.table
    (c.in_ok-table.ensures ∙ ap option_to_list c.in-Some.is)).there

pub lend-requires-clause-there : goal.lend-requires-clause-there
lend-requires-clause-there c =
    (the_table c.args.file.now c.in-Some.table
    (c.in_ok-table.ensures ∙ ap option_to_list c.in-Some.is)).there

pub returns-then-is_right_symtab : goal.returns-then-is_right_symtab
returns-then-is_right_symtab c =
    let file = c.args.file.now in
    let table = c.in-Some.table in
    let e : symtabs file ≡ table ∷ [] = c.in_ok-table.ensures ∙ ap option_to_list c.in-Some.is in
    let right : is_right_symtab file table ≡ true = sym c.is_right_symtab.ensures ∙
    c.if-is_right_symtab.true in (
      rw (c.lend.ensures.count, c.lend.ensures.at, c.lend.ensures.strings)
          (symbols_of_table file table e right),
      right_one file table e right,
      c.lend.ensures.stand,
    )
