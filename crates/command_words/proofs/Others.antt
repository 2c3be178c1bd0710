-- Command lines of another number of words than six.
use Rattle.std.proofs.Common.{◌≡◌, ℕ, List, [], ◌∷◌, length, None, refl}
use Rattle.command_words.specs.Words.{socket_words}

pub socket_other : (words : List (List ℕ)) → (length words ≡ 6 → ⊥) → None ≡ socket_words words
socket_other [] other = refl
socket_other (a ∷ []) other = refl
socket_other (a ∷ b ∷ []) other = refl
socket_other (a ∷ b ∷ c ∷ []) other = refl
socket_other (a ∷ b ∷ c ∷ d ∷ []) other = refl
socket_other (a ∷ b ∷ c ∷ d ∷ e ∷ []) other = refl
socket_other (a ∷ b ∷ c ∷ d ∷ e ∷ f ∷ []) other = absurd (other refl)
socket_other (a ∷ b ∷ c ∷ d ∷ e ∷ f ∷ g ∷ words) other = refl
