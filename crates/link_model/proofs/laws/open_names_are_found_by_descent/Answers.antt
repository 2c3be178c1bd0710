use Rattle.link_model.proofs.Descents.{leaves_apart_law, open_law}
use Rattle.link_model.proofs.laws.open_names_are_found_by_descent.Goals as goal

pub returns : goal.returns
returns c =
    record { apart = leaves_apart_law; opened = open_law }
