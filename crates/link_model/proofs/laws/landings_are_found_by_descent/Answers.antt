use Rattle.link_model.proofs.Descents.{module_landings_law, program_landings_law, references_law}
use Rattle.link_model.proofs.laws.landings_are_found_by_descent.Goals as goal

pub returns : goal.returns
returns c =
    record {
      in_module = module_landings_law;
      in_program = program_landings_law;
      references = references_law;
    }
