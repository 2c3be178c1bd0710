-- How a legal record goes on.
use Rattle.std.proofs.Common.{◌≡◌, ℕ, List, [], ◌∷◌, ◌++◌, reverse, refl, ap, sym, ◌∙◌, subst}
use Rattle.std.proofs.Common.{Some, None, append_assoc, append-nil}
use Rattle.std.proofs.lemmas.List.{reverse-append}
use Rattle.history_book.specs.Due.{due, due_behind, dues, dues_from, one_due}
use Rattle.history_book.specs.Legal.{Runs, Follows, FollowsDue, IsAllowed, IsLegal}
use Rattle.history_book.specs.Laws.{CutLaw}
use Rattle.history_book.specs.declared.step.Step.{Step}

-- ---- what is due

pub due_push : (c : ℕ) (P : List Step) (s : Step)
    → due c (P ++ s ∷ []) ≡ due_behind c (P ++ s ∷ []) (s ∷ reverse P)
unfolding due
due_push c P s = ap (due_behind c (P ++ s ∷ [])) (reverse-append P (s ∷ []))

pub due_push_two : (c : ℕ) (P : List Step) (s t : Step)
    → due c ((P ++ s ∷ []) ++ t ∷ []) ≡ due_behind c ((P ++ s ∷ []) ++ t ∷ []) (t ∷ s ∷ reverse P)
due_push_two c P s t =
    due_push c (P ++ s ∷ []) t
    ∙ ap (λ before. due_behind c ((P ++ s ∷ []) ++ t ∷ []) (t ∷ before)) (reverse-append P (s ∷ []))

pub due_nothing : (c : ℕ) → due c [] ≡ None
unfolding due
due_nothing c = refl

pub dues_none : (c : ℕ) (P : List Step) → due c P ≡ None → dues c P ≡ []
dues_none c P e = ap (dues_from c P) e

pub dues_one : (c : ℕ) (P : List Step) (s : Step) → due c P ≡ Some s → due c (P ++ s ∷ []) ≡ None
    → dues c P ≡ s ∷ []
dues_one c P s e none = ap (dues_from c P) e ∙ ap (λ o. s ∷ one_due o) none

pub dues_two : (c : ℕ) (P : List Step) (s t : Step) → due c P ≡ Some s
    → due c (P ++ s ∷ []) ≡ Some t
    → dues c P ≡ s ∷ t ∷ []
dues_two c P s t e next = ap (dues_from c P) e ∙ ap (λ o. s ∷ one_due o) next

-- ---- one step more

pub runs_push : (c r : ℕ) (D P : List Step) (s : Step) → Runs c r D P → Follows c r (D ++ P) s
    → Runs c r D (P ++ s ∷ [])
runs_push c r D [] s runs f = (subst (λ (E : List Step). Follows c r E s) (append-nil D) f, tt)
runs_push c r D (x ∷ P) s runs f = (
  runs.0,
  runs_push c r (D ++ x ∷ []) P s runs.1
      (subst (λ (E : List Step). Follows c r E s) (sym (append_assoc D (x ∷ []) P)) f),
)

-- ---- a record that is cut

runs_apart : (c r : ℕ) (P xs ys : List Step) → Runs c r P (xs ++ ys)
    → Runs c r P xs × Runs c r (P ++ xs) ys
runs_apart c r P [] ys runs =
    (tt, subst (λ (Q : List Step). Runs c r Q ys) (sym (append-nil P)) runs)
runs_apart c r P (x ∷ xs) ys runs =
    let rest = runs_apart c r (P ++ x ∷ []) xs ys runs.1 in
    ((runs.0, rest.0), subst (λ (Q : List Step). Runs c r Q ys) (append_assoc P (x ∷ []) xs) rest.1)

runs_joined : (c r : ℕ) (P xs ys : List Step) → Runs c r P xs → Runs c r (P ++ xs) ys
    → Runs c r P (xs ++ ys)
runs_joined c r P [] ys a b = subst (λ (Q : List Step). Runs c r Q ys) (append-nil P) b
runs_joined c r P (x ∷ xs) ys a b = (
  a.0,
  runs_joined c r (P ++ x ∷ []) xs ys a.1
      (subst (λ (Q : List Step). Runs c r Q ys) (sym (append_assoc P (x ∷ []) xs)) b),
)

pub cut_law : CutLaw
cut_law c r P xs ys = (
  λ runs. runs_apart c r P xs ys runs,
  λ parts. runs_joined c r P xs ys parts.0 parts.1,
)

allowed_follows : (c r : ℕ) (P : List Step) (s : Step) → due c P ≡ None → IsAllowed r P s
    → Follows c r P s
allowed_follows c r P s e a = subst (FollowsDue r P s) (sym e) a

due_follows : (c r : ℕ) (P : List Step) (s : Step) → due c P ≡ Some s → Follows c r P s
due_follows c r P s e = subst (FollowsDue r P s) (sym e) refl

-- a step that may come, after which nothing is due
pub legal_push : (c r : ℕ) (P : List Step) (s : Step) → IsLegal c r P → IsAllowed r P s
    → due c (P ++ s ∷ []) ≡ None → IsLegal c r (P ++ s ∷ [])
legal_push c r P s legal allowed none = record {
  runs = runs_push c r [] P s legal.runs (allowed_follows c r P s legal.done allowed);
  done = none;
}

-- a step that may come, and the one that it makes due
pub legal_push_two : (c r : ℕ) (P : List Step) (s t : Step) → IsLegal c r P → IsAllowed r P s
    → due c (P ++ s ∷ []) ≡ Some t → due c ((P ++ s ∷ []) ++ t ∷ []) ≡ None
    → IsLegal c r ((P ++ s ∷ []) ++ t ∷ [])
legal_push_two c r P s t legal allowed next none = record {
  runs = runs_push c r [] (P ++ s ∷ []) t
      (runs_push c r [] P s legal.runs (allowed_follows c r P s legal.done allowed))
      (due_follows c r (P ++ s ∷ []) t next);
  done = none;
}

-- and the two that it makes due
pub legal_push_three : (c r : ℕ) (P : List Step) (s t u : Step) → IsLegal c r P → IsAllowed r P s
    → due c (P ++ s ∷ []) ≡ Some t → due c ((P ++ s ∷ []) ++ t ∷ []) ≡ Some u
    → due c (((P ++ s ∷ []) ++ t ∷ []) ++ u ∷ []) ≡ None
    → IsLegal c r (((P ++ s ∷ []) ++ t ∷ []) ++ u ∷ [])
legal_push_three c r P s t u legal allowed next after none = record {
  runs = runs_push c r [] ((P ++ s ∷ []) ++ t ∷ []) u
      (runs_push c r [] (P ++ s ∷ []) t
      (runs_push c r [] P s legal.runs (allowed_follows c r P s legal.done allowed))
      (due_follows c r (P ++ s ∷ []) t next))
      (due_follows c r ((P ++ s ∷ []) ++ t ∷ []) u after);
  done = none;
}

pub legal_nothing : (c r : ℕ) → IsLegal c r []
legal_nothing c r = record { runs = tt; done = due_nothing c }
