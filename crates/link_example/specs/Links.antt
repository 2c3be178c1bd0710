-- What a blueprint makes of two objects.
use Rattle.std.specs.Prelude.{◌≡◌, ℕ, List, Result, Ok, Err}
use Rattle.omos_model.specs.FragmentOf.{fragment_of}
use Rattle.omos_model.specs.Names.{Name}
use Rattle.omos_model.specs.declared.entry.Entry.{Entry}
use Rattle.omos_model.specs.declared.refusal.Refusal.{Refusal}
use Rattle.bp_tree.specs.TextFaults.{IsTextFault}
use Rattle.link_model.specs.Answer.{answer}
use Rattle.link_model.specs.Module.{LinkedImage}
use Rattle.link_example.specs.Entries.{IsBlueprint, namespace_of}
use Rattle.link_example.specs.Entries.{IsObjectOf}
use Rattle.link_example.specs.declared.failure.Failure.{Failure}
use Rattle.link_example.specs.declared.failure.Failure.TheVariants.{First, Second, Text, Link}
use Rattle.link_example.specs.declared.published.Published.{Published}

-- the entry under the path that was given
abbrev pub put : Published → Entry → Name × Entry
put p entry = (p.path.now, entry)

abbrev pub base : ℕ
base = 4194304

-- what is published is all right, and the answer for the blueprint's path at 0x400000 is this
pub record IsLinkAnswer (a b c : Published) (result : Result (List ℕ) Refusal) : Type 0 where
  pub first : Entry
  pub second : Entry
  pub blueprint : Entry
  pub is_first : IsObjectOf a.content.now first
  pub is_second : IsObjectOf b.content.now second
  pub is_blueprint : IsBlueprint c.content.now blueprint
  pub answered : answer (namespace_of (put a first) (put b second) (put c blueprint)) c.path.now
      base
      ≡ result

-- the image is the answer
abbrev pub IsAnswerImage : Published → Published → Published → LinkedImage → Type 0
IsAnswerImage a b c x = IsLinkAnswer a b c (Ok x.bytes)

-- the first of what is wrong
abbrev pub HasFailure : Published → Published → Published → Failure → Type 0
HasFailure a b c (First x) = fragment_of a.content.now ≡ Err x
HasFailure a b c (Second x) =
    (e : Entry) × IsObjectOf a.content.now e × (fragment_of b.content.now ≡ Err x)
HasFailure a b c (Text x) =
    (d : Entry) × (e : Entry) × IsObjectOf a.content.now d × IsObjectOf b.content.now e
    × IsTextFault c.content.now x
HasFailure a b c (Link x) = IsLinkAnswer a b c (Err x)
