-- Bytes that stand in place where they are few, and apart where they are many.
use Rattle.std.specs.Prelude.{ℕ, List, [], ◌∷◌}

-- the many, where there are any, or else the few
abbrev pub packed : List ℕ → List ℕ → List ℕ
packed few [] = few
packed few (byte ∷ bytes) = byte ∷ bytes
