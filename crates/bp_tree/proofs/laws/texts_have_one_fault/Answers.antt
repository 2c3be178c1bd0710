use Rattle.std.proofs.Common.{◌≡◌, ◌≤◌, ◌<◌, ℕ, List, [], ◌∷◌, ◌++◌, append_assoc, All, length}
use Rattle.std.proofs.Common.{refl, ap, subst, ◌∙◌, sym, inl, inr, arith}
use Rattle.omos_model.specs.declared.refusal.BpFault.{BpFault}
use Rattle.omos_model.specs.declared.refusal.BpFault.TheVariants.{Long, Byte, Shape, Deep, Number}
use Rattle.omos_model.specs.declared.refusal.BpFault.TheVariants.{Range}
use Rattle.bp_tree.specs.Tokens.{Barred, Placed, tokens_of}
use Rattle.bp_tree.specs.TextFaults.{StandsInTexts, IsBarredAt, IsShaped, IsTextFault}
use Rattle.bp_tree.specs.TextFaults.{images}
use Rattle.bp_tree.specs.Laws.{OneFaultLaw}
use Rattle.bp_tree.proofs.SoleFaults.{in_order, not_allowed, one_fault}
use Rattle.bp_tree.proofs.laws.texts_have_one_fault.Goals as goal

-- the three kinds of faults
data IsKind (text : List ℕ) (f : BpFault) : Type 0 where
  TooLong : f ≡ Long → 65536 < length text → IsKind text f
  AtByte : (place : ℕ) → f ≡ Byte place → length text ≤ 65536
      → IsBarredAt (tokens_of text) place → IsKind text f
  AtToken : IsShaped text f → IsKind text f

kind_of : (text : List ℕ) (f : BpFault) → IsTextFault text f → IsKind text f
kind_of text Long h = TooLong refl h
kind_of text (Byte p) h = AtByte p refl h.0 h.1
kind_of text (Shape p) h = AtToken h
kind_of text (Deep p) h = AtToken h
kind_of text (Number p) h = AtToken h
kind_of text (Range p) h = AtToken h

not_shaped : (ts : List Placed) (place : ℕ) → IsBarredAt ts place → All StandsInTexts ts → ⊥
not_shaped ts place b all = not_allowed b.0 b.2 b.1 place (subst (All StandsInTexts) b.3 all)

barred_behind : (xs ys more : List Placed) (byte place : ℕ)
    → ys ≡ (xs ++ record { token = Barred byte; place = place } ∷ []) ++ more → All StandsInTexts ys
    → ⊥
barred_behind xs ys more byte place e all =
    not_allowed xs more byte place
    (subst (All StandsInTexts) (e ∙ append_assoc xs
    (record { token = Barred byte; place = place } ∷ []) more) all)

one_byte : (ts : List Placed) (p q : ℕ) → IsBarredAt ts p → IsBarredAt ts q → p ≡ q
one_byte ts p q b c =
    elim (in_order b.0 c.0 (record { token = Barred b.1; place = p })
    (record { token = Barred c.1; place = q }) b.2 c.2 (sym b.3 ∙ c.3)) [
      | inl same ↦ ap (λ t. t.place) same.1
      | inr (inl m) ↦ absurd (barred_behind b.0 c.0 m.0 b.1 p m.1 c.4)
      | inr (inr m) ↦ absurd (barred_behind c.0 b.0 m.0 c.1 q m.1 b.4)
    ]

of_kinds : (text : List ℕ) (f g : BpFault) → IsKind text f → IsKind text g → f ≡ g
of_kinds text f g (TooLong e h) (TooLong d k) = e ∙ sym d
of_kinds text f g (TooLong e h) (AtByte q d short c) = absurd (omega arith)
of_kinds text f g (TooLong e h) (AtToken k) = absurd (omega (arith, k.0))
of_kinds text f g (AtByte p e short b) (TooLong d k) = absurd (omega arith)
of_kinds text f g (AtByte p e short b) (AtByte q d short' c) =
    e ∙ ap Byte (one_byte (tokens_of text) p q b c) ∙ sym d
of_kinds text f g (AtByte p e short b) (AtToken k) = absurd (not_shaped (tokens_of text) p b k.1)
of_kinds text f g (AtToken h) (TooLong d k) = absurd (omega (arith, h.0))
of_kinds text f g (AtToken h) (AtByte q d short c) = absurd (not_shaped (tokens_of text) q c h.1)
of_kinds text f g (AtToken h) (AtToken k) =
    one_fault images (tokens_of text) (length text) f g h.2 k.2

law : OneFaultLaw
law text f g h k = of_kinds text f g (kind_of text f h) (kind_of text g k)

pub returns : goal.returns
returns c = law
