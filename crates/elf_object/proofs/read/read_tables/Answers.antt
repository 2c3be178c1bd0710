use Rattle.std.proofs.Common.{◌∙◌, sym}
use Rattle.elf_object.specs.Stages.{section_fault, symbol_fault}
use Rattle.elf_object.proofs.Whole.{header_is, whole, stop, pass, table_fault, table_right}
use Rattle.elf_object.proofs.Whole.{table_wrong}
use Rattle.elf_object.proofs.read.read_tables.Goals as goal

pub returns-in-Some : goal.returns-in-Some
returns-in-Some c = record { tables = header_is c.args.file.now c.in-Some.fault c.in-Some.ensures }

pub returns-in-Some-section_fault : goal.returns-in-Some-section_fault
returns-in-Some-section_fault c =
    record {
      tables = whole c.args.file.now c.in_default.ensures ∙ stop
          (section_fault c.args.file.now) _ c.in-Some-section_fault.fault
          c.in-Some-section_fault.ensures;
    }

pub returns-in-Err : goal.returns-in-Err
returns-in-Err c =
    let file = c.args.file.now in
    record {
      tables =
          whole file c.in_default.ensures
          ∙ pass (section_fault file) _ c.in_default-section_fault.ensures
          ∙ stop (table_fault file) _ c.in-Err.fault
          (table_wrong file c.in-Err.fault c.in-Err.ensures);
    }

pub returns-in-Some-2 : goal.returns-in-Some-2
returns-in-Some-2 c =
    let file = c.args.file.now in
    record {
      tables =
          whole file c.in_default.ensures
          ∙ pass (section_fault file) _ c.in_default-section_fault.ensures
          ∙ pass (table_fault file) _ (table_right file c.in-Ok.ensures.1)
          ∙ stop (symbol_fault file) _ c.in-Some-2.fault
          (sym c.in-Some-2.is ∙ c.in_ok-fault.ensures);
    }

pub returns-in-Some-rela_fault : goal.returns-in-Some-rela_fault
returns-in-Some-rela_fault c =
    let file = c.args.file.now in
    record {
      tables =
          whole file c.in_default.ensures
          ∙ pass (section_fault file) _ c.in_default-section_fault.ensures
          ∙ pass (table_fault file) _ (table_right file c.in-Ok.ensures.1)
          ∙ pass (symbol_fault file) _ (sym c.in_default-2.is ∙ c.in_ok-fault.ensures)
          ∙ sym c.in-Some-rela_fault.ensures;
    }

pub of-requires : goal.of-requires
of-requires c =
    let file = c.args.file.now in
    record {
      right =
          whole file c.in_default.ensures
          ∙ pass (section_fault file) _ c.in_default-section_fault.ensures
          ∙ pass (table_fault file) _ (table_right file c.in-Ok.ensures.1)
          ∙ pass (symbol_fault file) _ (sym c.in_default-2.is ∙ c.in_ok-fault.ensures)
          ∙ sym c.in_default-rela_fault.ensures;
      headers = c.in_default.ensures;
      sections = c.in_ok-kept.ensures;
      symbols = c.in-Ok.ensures.0;
      stand = c.in-Ok.ensures.2;
    }
