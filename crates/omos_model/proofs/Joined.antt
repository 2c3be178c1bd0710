-- Tests that are joined, and options of which the first that is there counts.
use Rattle.std.proofs.Common.{◌≡◌, Bool, true, false, not, ◌&&◌, ◌||◌, Option, Some, None, refl, ap}
use Rattle.std.specs.Prelude.{is_some}
use Rattle.std.specs.Option.{option_or}
use Rattle.std.proofs.lemmas.Bool.{or_left, or_right}

pub rest_false : (a b : Bool) → (a && b) ≡ false → a ≡ true → b ≡ false
rest_false true b h e = h
rest_false false b h e = cc

pub rest_true : (a b : Bool) → (a || b) ≡ true → a ≡ false → b ≡ true
rest_true true b h e = cc
rest_true false b h e = h

pub fourth : (a b c d : Bool) → (a || b || c || d) ≡ true → a ≡ false → b ≡ false → c ≡ false
    → d ≡ true
fourth true b c d h x y z = cc
fourth false true c d h x y z = cc
fourth false false true d h x y z = cc
fourth false false false d h x y z = h

pub not_not : (a b : Bool) → not a ≡ b → a ≡ not b
not_not true b h = ap not h
not_not false b h = ap not h

pub option_or_None : {X : Type 0} (o : Option X) → option_or o None ≡ o
option_or_None None = refl
option_or_None (Some x) = refl

pub option_or_assoc : {X : Type 0} (a b c : Option X)
    → option_or (option_or a b) c ≡ option_or a (option_or b c)
option_or_assoc None b c = refl
option_or_assoc (Some x) b c = refl

pub or_some : {X : Type 0} (a b : Option X) (p q : Bool) → (is_some a ≡ true → p ≡ true)
    → (is_some b ≡ true → q ≡ true) → is_some (option_or a b) ≡ true → (p || q) ≡ true
or_some None b p q h k e = or_right p q (k e)
or_some (Some x) b p q h k e = or_left p q (h refl)
