-- One step more in what a record keeps.
use Rattle.std.proofs.Common.{◌≡◌, ℕ, ◌+◌, ◌≤◌, List, [], ◌∷◌, ◌++◌, length, take, drop, refl}
use Rattle.std.proofs.Common.{ap, ◌∙◌, arith}
use Rattle.std.proofs.lemmas.List.Sums.{sum_by-cons}
use Rattle.std.proofs.lemmas.List.{take_all, take-append-le, drop-append-le, length-drop}
use Rattle.omos_model.specs.Names.{Name}
use Rattle.history_book.specs.Briefs.{step_of, len_of, paths_len, steps_in}
use Rattle.history_book.specs.Tallied.{tally_with}
use Rattle.history_book.specs.declared.brief.Brief.{Brief}
use Rattle.history_book.specs.declared.brief.Brief.TheVariants as brief
use Rattle.history_book.specs.declared.tally.Tally.{Tally}

pub steps_push : (bs : List Brief) (bytes : List ℕ) (b : Brief) (path : Name)
    → length bytes ≡ paths_len bs → len_of b ≡ length path
    → steps_in (bs ++ b ∷ []) (bytes ++ path) ≡ steps_in bs bytes ++ step_of b path ∷ []
steps_push [] [] b path e l =
    ap (λ p. step_of b p ∷ []) (take_all (len_of b) path (omega (arith, l)))
steps_push [] (x ∷ bytes) b path e l = absurd (omega (arith, e))
steps_push (c ∷ bs) bytes b path e l =
    let total : paths_len (c ∷ bs) ≡ len_of c + paths_len bs = sum_by-cons len_of c bs in
    let short : len_of c ≤ length bytes = omega (arith, e, total) in
    let left = length-drop (len_of c) bytes in
    ap (λ p. step_of c p ∷ steps_in (bs ++ b ∷ []) (drop (len_of c) (bytes ++ path)))
    (take-append-le (len_of c) bytes path short)
    ∙ ap (λ more. step_of c (take (len_of c) bytes) ∷ steps_in (bs ++ b ∷ []) more)
    (drop-append-le (len_of c) bytes path short)
    ∙ ap (λ steps. step_of c (take (len_of c) bytes) ∷ steps)
    (steps_push bs (drop (len_of c) bytes) b path (omega (arith, left, e, total)) l)

-- a step's path is none of its counts
pub same_tally : (t : Tally) (b : Brief) (p q : Name)
    → tally_with t (step_of b p) ≡ tally_with t (step_of b q)
same_tally t (brief.Put seat number entry size len) p q = refl
same_tally t (brief.Missed seat number) p q = refl
same_tally t (brief.LookedPlaces seat number len) p q = refl
same_tally t (brief.LookedStats seat number) p q = refl
same_tally t (brief.Asked seat number version hit len) p q = refl
same_tally t (brief.Placed seat number base pages len) p q = refl
same_tally t (brief.Answered seat number note) p q = refl
same_tally t (brief.Evicted seat number len) p q = refl
same_tally t (brief.Stored seat number version len) p q = refl
same_tally t (brief.Flushed seat number held len) p q = refl
