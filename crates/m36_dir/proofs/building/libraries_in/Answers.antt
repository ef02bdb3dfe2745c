use Rattle.std.proofs.Common.{length, ap, ◌∙◌}
use Rattle.m36_dir.proofs.Kept.{libraries_length}
use Rattle.m36_dir.proofs.LineLoops.{libraries_more, libraries_all}
use Rattle.m36_dir.proofs.building.libraries_in.Goals as goal

pub loop-line-preserved : goal.loop-line-preserved
loop-line-preserved c =
    libraries_more c.args.dirs.now c.loop-line.libraries.items c.add_library.new.libraries.items _ c.args.lines.now c.loop-line.line-index c.line-item.result
    c.loop-line-test.true c.line-item.is c.in_ok-add_library.ensures c.loop-line.invariant

pub returns-clause-value : goal.returns-clause-value
returns-clause-value c = libraries_all c.args.dirs.now c.loop-line.libraries.items _ c.args.lines.now c.loop-line.line-index c.loop-line-test.false c.loop-line.invariant

pub returns-clause-count : goal.returns-clause-count
returns-clause-count c =
    ap length (libraries_all c.args.dirs.now c.loop-line.libraries.items _ c.args.lines.now c.loop-line.line-index c.loop-line-test.false c.loop-line.invariant)
    ∙ libraries_length c.args.dirs.now c.args.lines.now
