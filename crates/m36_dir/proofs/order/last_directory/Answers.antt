use Rattle.m36_dir.proofs.LineLoops.{directory_more, directory_all}
use Rattle.m36_dir.proofs.order.last_directory.Goals as goal

pub loop-line-preserved : goal.loop-line-preserved
loop-line-preserved c =
    directory_more c.loop-line.dir.now _ _ c.args.lines.now c.loop-line.line-index c.line-item.result
    c.loop-line-test.true c.line-item.is c.directory_after-dir.ensures c.loop-line.invariant

pub returns : goal.returns
returns c = directory_all _ _ c.args.lines.now c.loop-line.line-index c.loop-line-test.false c.loop-line.invariant
