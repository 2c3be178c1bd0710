-- Three slices that follow one another: what they are of a list with an entry.
use Rattle.std.proofs.Common.{ℕ, suc, ◌-◌, ◌==◌, length, get_or, arith, ◌≡◌}
use Rattle.std.proofs.Common.{List, [], ◌∷◌, ◌++◌, append_assoc, sym, ap, ◌∙◌, take, drop}
use Rattle.std.proofs.Common.{take_all}
use Rattle.std.proofs.Common.{cond, map}
use Rattle.std.proofs.lemmas.List.{length-drop}
use Rattle.omos_model.specs.Namespace.{Space, with_entry}
use Rattle.omos_model.specs.declared.entry.Stamped.{Stamped}
use Rattle.name_tree.specs.Order.{place}
use Rattle.name_tree.specs.Tree.{joined_pages, part_at, parted, pages_with, branches_with}
use Rattle.name_tree.proofs.Places.{with_entry-drop}

module _ {X : Type 0} where
  pub parted-two : (xs : List X) → length xs ≡ 65 → take 32 (drop 0 xs) ∷ take 33 (drop 32 xs) ∷ []
      ≡ parted xs
  parted-two xs e =
      let d : length (drop 32 xs) ≡ length xs - 32 = length-drop 32 xs in
      let whole : take 33 (drop 32 xs) ≡ drop 32 xs =
      take_all 33 (drop 32 xs) (omega (arith, d, e)) in
      ap (λ l. take 32 xs ∷ l ∷ []) whole
      ∙ sym (ap (λ n. cond (n == 65) (take 32 xs ∷ drop 32 xs ∷ []) (xs ∷ [])) e)

  pub around : (f n b : List X) (f' n' b' : List X) → f ≡ f' → n ≡ n' → b ≡ b'
      → f ++ n ++ b ≡ f' ++ n' ++ b'
  around f n b f' n' b' hf hn hb = ap (λ l. l ++ n ++ b) hf ∙ ap (λ l. f' ++ l ++ b) hn
      ∙ ap (λ l. f' ++ n' ++ l) hb

pub entries-around : (list below rest above : Space) (s : Stamped)
    → below ≡ take (place list s.path) list → rest ≡ drop (place list s.path) list
    → with_entry rest s ≡ s ∷ above → below ++ s ∷ [] ++ above ≡ with_entry list s
entries-around list below rest above s hb hr hw =
    append_assoc below (s ∷ []) above
    ∙ ap (λ l. below ++ l) (sym hw)
    ∙ ap (λ l. l ++ with_entry rest s) hb
    ∙ ap (λ l. take (place list s.path) list ++ with_entry l s) hr
    ∙ sym (with_entry-drop list s)

pub pages-around : (ps : List Space) (s : Stamped) (k : ℕ) (f n b : List Space)
    → k ≡ part_at ps s.path
    → f ≡ take k ps → n ≡ parted (with_entry (get_or ps k []) s) → b ≡ drop (suc k) ps
    → f ++ n ++ b ≡ pages_with ps s
pages-around ps s k f n b hk hf hn hb =
    around f n b (take k ps) (parted (with_entry (get_or ps k []) s)) (drop (suc k) ps) hf hn hb
    ∙ ap (λ k. take k ps ++ parted (with_entry (get_or ps k []) s) ++ drop (suc k) ps) hk

pub branches-around : (bs : List (List Space)) (s : Stamped) (k : ℕ) (f n b : List (List Space))
    → k ≡ part_at (map joined_pages bs) s.path
    → f ≡ take k bs → n ≡ parted (pages_with (get_or bs k []) s) → b ≡ drop (suc k) bs
    → f ++ n ++ b ≡ branches_with bs s
branches-around bs s k f n b hk hf hn hb =
    around f n b (take k bs) (parted (pages_with (get_or bs k []) s)) (drop (suc k) bs) hf hn hb
    ∙ ap (λ k. take k bs ++ parted (pages_with (get_or bs k []) s) ++ drop (suc k) bs) hk
