-- Laws of texts.
use Rattle.std.specs.Prelude.{◌≡◌, ◌≤◌, ℕ, List, length}
use Rattle.omos_model.specs.ImageParts.{ImageParts, IsImage}
use Rattle.omos_model.specs.declared.refusal.BpFault.{BpFault}
use Rattle.bp_tree.specs.Tokens.{tokens_of}
use Rattle.bp_tree.specs.Texts.{IsText}
use Rattle.bp_tree.specs.TextFaults.{images, HasTokenFault, IsTextFault}
use Rattle.bp_tree.specs.Canonical.{canonical_text}
use Rattle.bp_tree.specs.Named.{IsNamed}

-- a text that says an image has no fault at a token and doesn't end early
abbrev pub ImageLaw : Type 0
ImageLaw =
    (text : List ℕ) (image : ImageParts) (fault : BpFault) → IsText text image
    → HasTokenFault images (tokens_of text) (length text) fault → ⊥

-- the canonical text of a blueprint says that blueprint
abbrev pub RoundTripLaw : Type 0
RoundTripLaw =
    (image : ImageParts) → IsImage image → IsNamed image → IsText (canonical_text image) image

-- a text says at most one image
abbrev pub OneImageLaw : Type 0
OneImageLaw = (text : List ℕ) (a b : ImageParts) → IsText text a → IsText text b → a ≡ b

-- a text has at most one fault
abbrev pub OneFaultLaw : Type 0
OneFaultLaw =
    (text : List ℕ) (f g : BpFault) → IsTextFault text f → IsTextFault text g → f ≡ g

-- a text that says an image and isn't too long has no fault
abbrev pub NotBothLaw : Type 0
NotBothLaw =
    (text : List ℕ) (image : ImageParts) (fault : BpFault) → IsText text image
    → length text ≤ 65536 → IsTextFault text fault → ⊥

-- no text lacks both an image that it says and a fault
abbrev pub NotNeitherLaw : Type 0
NotNeitherLaw =
    (text : List ℕ) → ¬ ((image : ImageParts) × IsText text image)
    → ¬ ((fault : BpFault) × IsTextFault text fault) → ⊥
