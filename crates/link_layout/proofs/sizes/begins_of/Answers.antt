use Rattle.std.proofs.Common.{◌+◌, ◌*◌, refl}
use Rattle.link_layout.proofs.Groups.{AreBegins-from_sizes}
use Rattle.link_layout.proofs.sizes.begins_of.Goals as goal

pub returns-clause-begins : goal.returns-clause-begins
returns-clause-begins c = λ parts h.
    AreBegins-from_sizes c.args.sizes.now _ parts h refl
    (λ i. 4096 * c.pages_of-consts.ensures.value i)
    (λ i. 4096 * (c.pages_of-consts.ensures.value i + c.pages_of.ensures.value i))
    (λ i. 4096 * (c.pages_of-consts.ensures.value i + c.pages_of.ensures.value i
    + c.pages_of-2.ensures.value i))
