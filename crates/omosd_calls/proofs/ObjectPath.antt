-- The path under which an object stands alone is a path.
use Rattle.std.proofs.Common.{ℕ, ◌+◌, ◌≤◌, List, [], ◌∷◌, length, drop, inl, inr}
use Rattle.std.proofs.Common.{refl, sym, subst, arith}
use Rattle.std.specs.List.{All}
use Rattle.std.proofs.lemmas.List.{take-append-drop}
use Rattle.std.proofs.lemmas.List.Elements.{All-cons}
use Rattle.omos_base.specs.Paths.{IsPart, IsPartByte, IsPath, HasPathFault}
use Rattle.omos_base.specs.declared.path_name.PathFault.{PathFault}
use Rattle.omos_base.specs.declared.path_name.PathFault.TheVariants.{Long, Shape}
use Rattle.omosd_calls.specs.Lone.{lone_path}

-- a path has no fault
pub no_fault : (bytes : List ℕ) (x : PathFault) → IsPath bytes → HasPathFault bytes x → ⊥
no_fault bytes Long path h = let short : length bytes ≤ 255 = path.3 in omega arith
no_fault bytes (Shape place) path h =
    elim h.1 [
      | inl stops ↦ stops.1
          (drop (place + 1) bytes, subst IsPath (sym (take-append-drop (place + 1) bytes)) path)
      | inr ends ↦ ends.2 path
    ]

letter : IsPartByte 111
letter = inl (inr (omega arith, omega arith))

nothing : {X : Type 0} (P : X → Type 0) → All P []
nothing P k d h = absurd (omega arith)

one_part : IsPart (111 ∷ [])
one_part = (omega arith, omega arith, All-cons IsPartByte 111 [] letter (nothing IsPartByte))

pub lone_path_is : IsPath lone_path
lone_path_is = (
  (111 ∷ []) ∷ [],
  (omega arith, omega arith, All-cons IsPart (111 ∷ []) [] one_part (nothing IsPart)),
  refl,
  omega arith,
)
