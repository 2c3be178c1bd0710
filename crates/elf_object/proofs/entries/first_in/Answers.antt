use Rattle.std.proofs.Common.{◌≡◌, ◌<◌, ◌≤◌, sym, ap, ◌∙◌}
use Rattle.omos_model.specs.ElfFields.{sh_size}
use Rattle.omos_model.specs.ElfFaults.{entry_count, is_wrong_entry}
use Rattle.elf_words.specs.declared.shdr.Shdr.{Shdr}
use Rattle.elf_object.proofs.EntryRuns.{is_wrong_at}
use Rattle.elf_object.proofs.Runs.{find_begin, find_done, find_here, find_next}
use Rattle.elf_object.proofs.entries.first_in.Goals as goal

pub returns-then-is_wrong : goal.returns-then-is_wrong
returns-then-is_wrong c =
    let file = c.args.file.now in
    let i = c.args.i in
    let j = c.loop-j.j in
    let h = c.section-header.result in
    let e : h.sh_size ≡ sh_size file i = ap (λ (s : Shdr). s.sh_size) c.section-header.ensures in
    let there : j < entry_count file i = rw e at c.loop-j-test.true in
    let is = is_wrong_at file i j h c.section-size.result c.read_at-entry.result _
    c.section-header.ensures c.section-size.ensures c.read_at-entry.ensures
    c.is_wrong.ensures in
    sym (c.loop-j.invariant ∙ find_here (λ n. is_wrong_entry file (i, n)) j (entry_count file i)
    there (sym is ∙ c.if-is_wrong.true))

pub loop-j-preserved : goal.loop-j-preserved
loop-j-preserved c =
    let file = c.args.file.now in
    let i = c.args.i in
    let j = c.loop-j.j in
    let h = c.section-header.result in
    let e : h.sh_size ≡ sh_size file i = ap (λ (s : Shdr). s.sh_size) c.section-header.ensures in
    let there : j < entry_count file i = rw e at c.loop-j-test.true in
    let is = is_wrong_at file i j h c.section-size.result c.read_at-entry.result _
    c.section-header.ensures c.section-size.ensures c.read_at-entry.ensures
    c.is_wrong.ensures in
    c.loop-j.invariant ∙ find_next (λ n. is_wrong_entry file (i, n)) j (entry_count file i) there
    (sym is ∙ c.if-is_wrong.false)

pub loop-j-init : goal.loop-j-init
loop-j-init c =
    let file = c.args.file.now in
    let i = c.args.i in
    find_begin (λ n. is_wrong_entry file (i, n)) (entry_count file i)

pub returns : goal.returns
returns c =
    let file = c.args.file.now in
    let i = c.args.i in
    let j = c.loop-j.j in
    let h = c.section-header.result in
    let e : h.sh_size ≡ sh_size file i = ap (λ (s : Shdr). s.sh_size) c.section-header.ensures in
    let done : entry_count file i ≤ j = rw e at c.loop-j-test.false in
    sym (c.loop-j.invariant
    ∙ find_done (λ n. is_wrong_entry file (i, n)) j (entry_count file i) done)
