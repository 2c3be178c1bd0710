-- The header page of a plan, from where its groups stand.
use Rattle.std.proofs.Common.{◌≡◌, ℕ, ◌-◌, ◌==◌, not, ◌∷◌, [], ◌++◌, length, map}
use Rattle.std.specs.Prelude.{filter, replicate}
use Rattle.std.specs.List.{flat_map}
use Rattle.omos_base.specs.Fields.{zeros}
use Rattle.elf_words.specs.Ehdr.{ehdr_bytes}
use Rattle.elf_words.specs.Phdr.{phdr_bytes}
use Rattle.link_model.specs.Layout.{page}
use Rattle.link_model.specs.Plan.{Plan}
use Rattle.link_model.specs.ImageBytes.{entry_address, header_page, headers, program_headers, stack}
use Rattle.link_model.specs.declared.groups.Groups.{Groups}
use Rattle.image_write.specs.inside.Groups.{AreGroups}
use Rattle.image_write.specs.inside.Headers.{all_groups, ehdr_with, front_in, headers_in, load_at}
use Rattle.image_write.specs.inside.Headers.{page_in}

headers-same : (groups : Groups) (plan : Plan) (base : ℕ) → AreGroups groups plan.parts
    → headers_in groups base ≡ program_headers plan base
headers-same groups plan base a =
    λ i. map (λ g. load_at base g (a.begins g i) (a.sizes g i))
    (filter (λ g. not (a.sizes g i == 0)) all_groups) ++ stack ∷ []

front-same : (groups : Groups) (plan : Plan) (base entry : ℕ) → AreGroups groups plan.parts
    → entry ≡ entry_address plan base → front_in groups base entry ≡ headers plan base
front-same groups plan base entry a e =
    let hs = headers-same groups plan base a in
    λ i. ehdr_bytes (ehdr_with (e i) (length (hs i))) ++ flat_map phdr_bytes (hs i)

pub page-same : (groups : Groups) (plan : Plan) (base entry : ℕ) → AreGroups groups plan.parts
    → entry ≡ entry_address plan base → page_in groups base entry ≡ header_page plan base
unfolding zeros
page-same groups plan base entry a e =
    let front = front-same groups plan base entry a e in
    λ i. front i ++ replicate (page - length (front i)) 0
