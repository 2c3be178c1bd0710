-- A file has one output, and a source and a sink that tell their bytes leave one file and one
-- output.
use Rattle.std.proofs.Common.{◌≡◌, ◌≢◌, inl, inr, ℕ, ◌<◌, List, [], length, take, Option, None}
use Rattle.std.proofs.Common.{Some, Ok, Err, refl, sym, ap, subst, ◌∙◌, arith}
use Rattle.std.specs.Io.KnownBytes.{Appends}
use Rattle.std.proofs.lemmas.List.{append_cancel_left, append_cancel_right, append-nil, length-take}
use Rattle.omos_outside.specs.Stream.{Stream}
use Rattle.omosd_calls.specs.declared.cause.Cause.{Cause}
use Rattle.omosd_calls.specs.declared.cause.Cause.TheVariants.{Object, Link}
use Rattle.omosd_calls.proofs.Images.{lone_image-some}
use Rattle.omosd_calls.specs.declared.ending.Ending.{Ending}
use Rattle.omosd_calls.specs.declared.ending.Ending.TheVariants.{Done, Refused, Usage, SourceFailed}
use Rattle.omosd_calls.specs.declared.ending.Ending.TheVariants.{SinkFailed, NoMemory}
use Rattle.omosd_calls.specs.Input.{IsInput, ToldInput}
use Rattle.omosd_calls.specs.Output.{ToldOutput}
use Rattle.omosd_calls.specs.Once.{Answered, IsOutput}
use Rattle.omosd_calls.specs.Lone.{cause_line, IsLoneImage, IsRefusalLine}

-- a file has one answer, so no two outputs
same_image : (file a b : List ℕ) → IsLoneImage file a → IsLoneImage file b → a ≡ b
same_image file a b x y = let both : Ok a ≡ Ok b = sym x ∙ y in cc

image_not_refusal : (file a b : List ℕ) → IsLoneImage file a → IsRefusalLine file b → ⊥
image_not_refusal file a b x y = let both : Ok a ≡ Err y.0 = sym x ∙ y.1 in cc

same_refusal : (file a b : List ℕ) → IsRefusalLine file a → IsRefusalLine file b → a ≡ b
same_refusal file a b x y =
    let both : Err x.0 ≡ Err y.0 = sym x.1 ∙ y.1 in
    let same : x.0 ≡ y.0 = cc in x.2 ∙ ap cause_line same ∙ sym y.2

pub same_output : (file a b : List ℕ) → IsOutput file a → IsOutput file b → a ≡ b
same_output file a b (inl x) (inl y) = same_image file a b x y
same_output file a b (inl x) (inr y) = absurd (image_not_refusal file a b x y)
same_output file a b (inr x) (inl y) = absurd (image_not_refusal file b a y x)
same_output file a b (inr x) (inr y) = same_refusal file a b x y

some_line : (cause : Cause) → cause_line cause ≢ []
some_line (Object x) none = cc
some_line (Link x) none = cc

some_output : (file a : List ℕ) → IsOutput file a → a ≢ []
some_output file a (inl x) none = lone_image-some file a x none
some_output file a (inr x) none = some_line x.0 (sym x.2 ∙ none)

-- what was written at a sink that tells what it holds
told_bytes : (before now : Option (List ℕ)) (a b : List ℕ) → ToldOutput before now a
    → Appends before now b → a ≡ b
told_bytes None now a b told wrote = absurd told
told_bytes (Some old) None a b told wrote = absurd told
told_bytes (Some old) (Some new) a b told wrote = append_cancel_left old a b (sym told ∙ wrote)

nothing_appended : (before : Option (List ℕ)) → Appends before before []
nothing_appended None = tt
nothing_appended (Some old) = sym (append-nil old)

-- a sink that was left alone has no output
pub no_output : (file : List ℕ) (before : Option (List ℕ)) (a : List ℕ) → IsOutput file a
    → ToldOutput before before a → ⊥
no_output file before a out told =
    some_output file a out (told_bytes before before a [] told (nothing_appended before))

not_shorter : (count : ℕ) (a b : List ℕ) → count < length b → a ≡ take count b → a ≡ b → ⊥
not_shorter count a b short part same =
    let size : length a ≡ length b = ap length same in
    let cut = ap length part ∙ length-take count b in
    omega arith

-- all of an output was written, so the run ended with the output's status
pub ended_done : (e : Ending) (file : List ℕ) (before now : Option (List ℕ)) (a : List ℕ)
    → Answered e file before now → IsLoneImage file a → ToldOutput before now a → e ≡ Done
ended_done Done file before now a answer image told = refl
ended_done Refused file before now a answer image told =
    absurd (image_not_refusal file a answer.0 image answer.1)
ended_done Usage file before now a answer image told = absurd answer
ended_done SourceFailed file before now a answer image told = absurd answer
ended_done SinkFailed file before now a answer image told =
    absurd (not_shorter answer.2.0 a answer.0 answer.2.1 (told_bytes before now a _ told answer.2.2)
    (same_output file a answer.0 (inl image) answer.1))
ended_done NoMemory file before now a answer image told =
    absurd (no_output file before a (inl image)
    (subst (λ (t : Option (List ℕ)). ToldOutput before t a) answer told))

pub ended_refused : (e : Ending) (file : List ℕ) (before now : Option (List ℕ)) (a : List ℕ)
    → Answered e file before now → IsRefusalLine file a → ToldOutput before now a → e ≡ Refused
ended_refused Done file before now a answer refusal told =
    absurd (image_not_refusal file answer.0 a answer.1 refusal)
ended_refused Refused file before now a answer refusal told = refl
ended_refused Usage file before now a answer refusal told = absurd answer
ended_refused SourceFailed file before now a answer refusal told = absurd answer
ended_refused SinkFailed file before now a answer refusal told =
    absurd (not_shorter answer.2.0 a answer.0 answer.2.1 (told_bytes before now a _ told answer.2.2)
    (same_output file a answer.0 (inr refusal) answer.1))
ended_refused NoMemory file before now a answer refusal told =
    absurd (no_output file before a (inr refusal)
    (subst (λ (t : Option (List ℕ)). ToldOutput before t a) answer told))

-- a source that tells its bytes gave one file
pub told_file : (before now : Option Stream) (a b : List ℕ) → ToldInput before now a
    → IsInput before now b → a ≡ b
told_file None now a b told read = absurd told
told_file (Some old) None a b told read = absurd told.given
told_file (Some old) (Some new) a b told read =
    append_cancel_right a b new.left (sym told.given.0 ∙ read.given.0)
