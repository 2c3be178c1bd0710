-- The answer for an object alone.
use Rattle.std.proofs.Common.{◌≡◌, ◌≢◌, ℕ, List, [], Option, Some, None, Result, Ok, Err, ap, ◌∙◌}
use Rattle.omos_model.specs.FragmentParts.{FragmentParts}
use Rattle.omos_model.specs.FragmentOf.{fragment_of}
use Rattle.omos_model.specs.declared.entry.Entry.TheVariants as entry
use Rattle.omos_model.specs.declared.refusal.ObjectFault.{ObjectFault}
use Rattle.omos_model.specs.declared.refusal.Refusal.{Refusal}
use Rattle.elf_words.specs.Ehdr.{ehdr_bytes}
use Rattle.link_model.specs.Answer.{answer, answer_of_plan}
use Rattle.link_model.specs.ImageBytes.{image_bytes, overflow, file_bytes, unless_overflow}
use Rattle.link_model.specs.Module.{alone}
use Rattle.link_model.specs.Plan.{Plan, plan_of}
use Rattle.omosd_calls.specs.Lone.{lone_base, lone_path, unless_link, unless_object, IsLoneImage}

-- an image has bytes: those of its header
bytes-some : (plan : Plan) (base : ℕ) (image : List ℕ) → image_bytes plan base ≡ Ok image
    → image ≢ []
unfolding image_bytes ehdr_bytes
bytes-some plan base image e none = go (overflow plan base) e
  where
    go : (o : Option Refusal) → unless_overflow o (file_bytes plan base) ≡ Ok image → ⊥
    go None h = let both : Ok (file_bytes plan base) ≡ Ok [] = h ∙ ap Ok none in cc
    go (Some x) h = cc

answer-some : (p : Result Plan Refusal) (base : ℕ) (image : List ℕ)
    → answer_of_plan p base ≡ Ok image → image ≢ []
answer-some (Ok plan) base image e none = bytes-some plan base image e none
answer-some (Err x) base image e none = cc

linked : (r : Result (List ℕ) Refusal) (image : List ℕ) → unless_link r ≡ Ok image → r ≡ Ok image
linked (Ok bytes) image e = cc
linked (Err x) image e = cc

pub lone_image-some : (file image : List ℕ) → IsLoneImage file image → image ≢ []
lone_image-some file image e none = go (fragment_of file) e
  where
    go : (r : Result FragmentParts ObjectFault) → unless_object r ≡ Ok image → ⊥
    go (Ok f) h =
        let ns = alone lone_path (entry.Object f) in
        answer-some (plan_of ns lone_path) lone_base image
        (linked (answer ns lone_path lone_base) image h) none
    go (Err x) h = cc
