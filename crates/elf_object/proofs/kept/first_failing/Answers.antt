use Rattle.std.proofs.Common.{◌<◌, sym, ◌∙◌, arith}
use Rattle.omos_model.specs.ElfFields.{e_shnum}
use Rattle.elf_object.specs.inside.Checks.{fails}
use Rattle.elf_object.proofs.Runs.{find_here, find_next}
use Rattle.elf_object.proofs.kept.first_failing.Goals as goal

pub returns-then-fails : goal.returns-then-fails
returns-then-fails c =
    let there : c.loop-i.i < e_shnum c.args.file.now = omega arith in
    sym (c.loop-i.invariant
    ∙ find_here (fails c.args.check c.args.file.now) c.loop-i.i (e_shnum c.args.file.now) there
    (sym c.fails.ensures ∙ c.if-fails.true))

pub loop-i-preserved : goal.loop-i-preserved
loop-i-preserved c =
    let there : c.loop-i.i < e_shnum c.args.file.now = omega arith in
    c.loop-i.invariant
    ∙ find_next (fails c.args.check c.args.file.now) c.loop-i.i (e_shnum c.args.file.now) there
    (sym c.fails.ensures ∙ c.if-fails.false)
