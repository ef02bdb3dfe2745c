use Rattle.m36_dir.proofs.LineLoops.{directories_more, directories_all}
use Rattle.m36_dir.proofs.DirectoriesOnce.{are_once}
use Rattle.m36_dir.proofs.building.directories_in.Goals as goal

pub loop-line-preserved : goal.loop-line-preserved
loop-line-preserved c =
    directories_more c.loop-line.dirs.items c.add_directory.new.dirs.items _ c.args.lines.now c.loop-line.line-index c.line-item.result
    c.loop-line-test.true c.line-item.is c.in_ok-add_directory.ensures c.loop-line.invariant

pub returns-clause-value : goal.returns-clause-value
returns-clause-value c = directories_all c.loop-line.dirs.items _ c.args.lines.now c.loop-line.line-index c.loop-line-test.false c.loop-line.invariant

pub returns-clause-once : goal.returns-clause-once
returns-clause-once c =
    are_once c.loop-line.dirs.items c.args.lines.now
    (directories_all c.loop-line.dirs.items _ c.args.lines.now c.loop-line.line-index c.loop-line-test.false c.loop-line.invariant)
