-- What is published.
use Rattle.std.specs.Prelude.{◌≡◌, ◌≤◌, ℕ, List, [], ◌∷◌, length, Ok}
use Rattle.omos_model.specs.FragmentOf.{fragment_of}
use Rattle.omos_model.specs.FragmentParts.{FragmentParts}
use Rattle.omos_model.specs.ImageParts.{ImageParts}
use Rattle.omos_model.specs.Names.{Name}
use Rattle.omos_model.specs.Namespace.{Space, namespace_at}
use Rattle.omos_model.specs.declared.entry.Entry.{Entry}
use Rattle.omos_model.specs.declared.entry.Entry.TheVariants.{Object, Blueprint}
use Rattle.bp_tree.specs.Texts.{IsText}

-- the object of a file
abbrev pub IsObjectOf : List ℕ → Entry → Type 0
IsObjectOf file entry = (f : FragmentParts) × (fragment_of file ≡ Ok f) × (entry ≡ Object f)

-- the image that a text says
abbrev pub IsBlueprint : List ℕ → Entry → Type 0
IsBlueprint text entry =
    (i : ImageParts) × IsText text i × (length text ≤ 65536) × (entry ≡ Blueprint i)

-- the version of the namespace after three publishes
abbrev pub namespace_of : Name × Entry → Name × Entry → Name × Entry → Space
namespace_of a b c = namespace_at (a ∷ b ∷ c ∷ []) 3
