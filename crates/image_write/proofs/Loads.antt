-- Program headers of one group after another.
use Rattle.std.proofs.Common.{◌≡◌, ℕ, ◌+◌, ◌==◌, ◌<◌, List, [], ◌∷◌, ◌++◌, length, map, take}
use Rattle.std.proofs.Common.{get_or, not, sym, ap, ◌∙◌}
use Rattle.std.proofs.lemmas.List.Elements.{filter-append}
use Rattle.std.proofs.lemmas.List.{map-append, take_more}
use Rattle.elf_words.specs.declared.phdr.Phdr.{Phdr}
use Rattle.omos_model.specs.declared.fragment.Group.{Group}
use Rattle.link_model.specs.declared.groups.Groups.{Groups}
use Rattle.link_model.specs.Groups.{bytes_of}
use Rattle.image_write.specs.inside.Headers.{load_in, loads_in}

loads-append : (groups : Groups) (base : ℕ) (xs ys : List Group)
    → loads_in groups base (xs ++ ys) ≡ loads_in groups base xs ++ loads_in groups base ys
loads-append groups base xs ys =
    ap (map (load_in groups base)) (filter-append (λ g. not (bytes_of groups.sizes g == 0)) xs ys)
    ∙ map-append (load_in groups base) _ _

pub loads-more : (groups : Groups) (base : ℕ) (gs : List Group) (i : ℕ) (g : Group) → i < length gs
    → g ≡ get_or gs i g
    → loads_in groups base (take (i + 1) gs) ≡ loads_in groups base (take i gs)
    ++ loads_in groups base (g ∷ [])
loads-more groups base gs i g h e =
    ap (loads_in groups base) (take_more gs i g h ∙ (λ j. take i gs ++ sym e j ∷ []))
    ∙ loads-append groups base (take i gs) (g ∷ [])

pub loads-step : (groups : Groups) (base : ℕ) (gs : List Group) (i : ℕ) (new old : List Phdr)
    (g : Group)
    → new ≡ old ++ loads_in groups base (g ∷ []) → old ≡ loads_in groups base (take i gs)
    → i < length gs → g ≡ get_or gs i g
    → new ≡ loads_in groups base (take (i + 1) gs)
loads-step groups base gs i new old g n o h e =
    n ∙ (λ j. o j ++ loads_in groups base (g ∷ [])) ∙ sym (loads-more groups base gs i g h e)
