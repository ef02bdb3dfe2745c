use Rattle.std.proofs.Common.{arith}
use Rattle.m36_boot.proofs.LaidCore.{described_more}
use Rattle.m36_boot.proofs.core_words.put_descriptors.Goals as goal

pub put_descriptor-requires-clause-core : goal.put_descriptor-requires-clause-core
put_descriptor-requires-clause-core c =
    let size = c.loop-seg.invariant.size in
    let room = c.requires.core in
    omega (arith, size, room)

pub loop-seg-preserved : goal.loop-seg-preserved
loop-seg-preserved c =
    let size = c.loop-seg.invariant.size in
    let room = c.requires.core in
    let most = c.count-count.ensures.most in
    let test = c.loop-seg-test.true in
    described_more c.args.catalog.now c.args.files.now c.loop-seg.seg _ _ _ c.loop-seg.core _ c.descriptor.result (omega (arith, size, room, most, test))
    c.loop-seg.invariant c.descriptor.ensures.value c.descriptor_pair.ensures.even c.descriptor_pair.ensures.odd c.descriptor.ensures.ordered c.descriptor_pair.ensures.back
    c.put_descriptor.ensures
