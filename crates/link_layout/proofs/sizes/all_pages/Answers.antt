use Rattle.std.proofs.Common.{◌+◌, ◌∙◌}
use Rattle.link_layout.proofs.Groups.{all_pages-from_sizes}
use Rattle.link_layout.proofs.sizes.all_pages.Goals as goal

pub returns : goal.returns
returns c = λ parts h.
    (λ i. c.pages_of.ensures.value i + c.pages_of-2.ensures.value i
    + c.pages_of-3.ensures.value i + c.pages_of-4.ensures.value i)
    ∙ all_pages-from_sizes c.args.sizes.now parts h
