-- By a section's number whether it is kept, as the table grows and is read.
use Rattle.std.proofs.Common.{◌≡◌, ℕ, ◌+◌, ◌<◌, ◌≤◌, Bool, true, false, ◌&&◌}
use Rattle.std.proofs.Common.{List, [], ◌∷◌, ◌++◌, length, refl, sym, ap, ◌∙◌, get_or, arith}
use borrow.Author.Count.{below_more}
use Rattle.std.proofs.Math.ListN.{get_or-append}
use Rattle.std.proofs.Math.Seq.{get_or-append_seam}
use Rattle.std.specs.Prelude.{nat_lt}
use Rattle.std.proofs.lemmas.Bool.{ltb-false, ltb-true}
use Rattle.std.proofs.lemmas.List.{get_or_past}
use Rattle.omos_model.specs.ElfFields.{e_shnum}
use Rattle.omos_model.specs.ElfFaults.{is_kept}
use Rattle.elf_object.specs.TablesOf.{AreKeptSections}

-- each value of a list that grows by what the next index has
pub each_more : {X : Type 0} (d : X) (f : ℕ → X) (xs : List X) (i : ℕ) (x : X) → length xs ≡ i
    → ((k : ℕ) → k < i → get_or xs k d ≡ f k) → x ≡ f i
    → (k : ℕ) → k < i + 1 → get_or (xs ++ x ∷ []) k d ≡ f k
each_more d f xs i x same before here =
    below_more (λ k. get_or (xs ++ x ∷ []) k d ≡ f k) i
    (λ k h. get_or-append xs (x ∷ []) d k (omega (arith, h, same)) ∙ before k h)
    (ap (λ n. get_or (xs ++ x ∷ []) n d) (sym same) ∙ get_or-append_seam xs x [] d ∙ here)

second_false : (a b c d : Bool) → b ≡ false → (a && b && c && d) ≡ false
second_false true true c d h = cc
second_false true false c d h = refl
second_false false b c d h = refl

-- a table of all sections says that none is kept behind the last
pub all_kept : (file : List ℕ) (kept : List Bool) → length kept ≡ e_shnum file
    → ((k : ℕ) → k < e_shnum file → get_or kept k false ≡ is_kept file k)
    → AreKeptSections file kept
all_kept file kept all each = record { all = all; each = λ i. go i (nat_lt i (e_shnum file)) refl }
  where
    go : (i : ℕ) (b : Bool) → nat_lt i (e_shnum file) ≡ b → get_or kept i false ≡ is_kept file i
    go i true e = each i (ltb-true i (e_shnum file) e)
    go i false e =
        let past : e_shnum file ≤ i = ltb-false i (e_shnum file) e in
        get_or_past kept i false (omega (arith, all, past))
        ∙ sym (second_false (nat_lt 0 i) (nat_lt i (e_shnum file)) _ _ e)

pub kept_past : (file : List ℕ) (kept : List Bool) (i : ℕ) → AreKeptSections file kept
    → length kept ≤ i
    → is_kept file i ≡ false
kept_past file kept i are past = sym (are.each i) ∙ get_or_past kept i false past
