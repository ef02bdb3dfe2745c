use Rattle.obj36_read.specs.MapFaults.{shared_fault}
use Rattle.obj36_read.proofs.FaultLoops.{not_shared}
use Rattle.obj36_read.proofs.map.fault_of_sharing.Goals as goal

pub loop-at-preserved : goal.loop-at-preserved
loop-at-preserved c =
    not_shared c.extents_in_map-e.result c.loop-at.at c.index_of_map-at-end.result c.sections_with.result (shared_fault c.args.words.now) c.loop-at-test.true c.if-sections_with-ge2.false c.sections_with.ensures c.loop-at.invariant
