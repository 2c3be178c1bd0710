-- A list of names with their targets, made from definitions.
use Rattle.std.proofs.Common.{◌≡◌, Bool, true, false, cond, List, [], ◌∷◌, Some, map, refl}
use Rattle.std.specs.List.{find}
use Rattle.std.specs.Option.{option_map}
use Rattle.omos_model.specs.Names.{Name, same_name}
use Rattle.omos_model.specs.declared.mark.Target.{Target}
use Rattle.module_table.specs.TableParts.{meaning_in}
use Rattle.link_model.specs.Module.{found}
use Rattle.link_model.specs.declared.evaluated.Found.{Found}

abbrev pub found_of : Name × Target → Found
found_of e = record { name = e.0; target = e.1 }

-- what is found is what is held
pub found_held : (es : List (Name × Target)) (n : Name)
    → found (map found_of es) n ≡ meaning_in es n
found_held [] n = refl
found_held (e ∷ es) n = go (same_name n e.0) (found_held es n)
  where
    go : (b : Bool) → found (map found_of es) n ≡ meaning_in es n
        → option_map (λ (x : Found). x.target)
        (cond b (Some (found_of e)) (find (λ x. same_name n x.name) (map found_of es)))
        ≡ cond b (Some e.1) (meaning_in es n)
    go true h = refl
    go false h = h
