use Rattle.std.proofs.Common.{◌≡◌, ◌∷◌, [], false, ap, ◌∙◌, get_or, length, length-append}
use Rattle.std.proofs.Common.{arith}
use Rattle.omos_model.specs.ElfFields.{e_shnum}
use Rattle.omos_model.specs.ElfFaults.{is_kept}
use Rattle.elf_object.proofs.KeptTable.{all_kept, each_more}
use Rattle.elf_object.proofs.kept.kept_sections.Goals as goal

pub loop-i-preserved : goal.loop-i-preserved
loop-i-preserved c =
    let file = c.args.file.now in
    let h = c.loop-i.invariant in
    let x = c.is_loaded_section.result in
    let grown = ap length c.in_ok-push.ensures.added ∙ length-append c.loop-i.kept (x ∷ []) in
    record {
      all = omega (arith, grown, h.all);
      each = λ k less.
          ap (λ xs. get_or xs k false) c.in_ok-push.ensures.added
          ∙ each_more false (is_kept file) c.loop-i.kept c.loop-i.i x h.all h.each
          c.is_loaded_section.ensures k less;
    }

pub returns : goal.returns
returns c =
    let h = c.loop-i.invariant in
    let end : c.loop-i.i ≡ e_shnum c.args.file.now = omega arith in
    all_kept c.args.file.now c.loop-i.kept (h.all ∙ end)
    (λ k less. h.each k (omega (arith, less, end)))
