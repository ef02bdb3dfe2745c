use Rattle.std.proofs.Common.{◌≡◌, ◌-◌, ◌*◌, ◌+◌, ◌<◌, length, length-set, arith}
use Rattle.m36_walk.specs.Words.{with_pending}
use Rattle.m36_walk.proofs.Blocks.{pair_after, first_pair_lies, rest_lies, block_read_on, block_read_whole}
use Rattle.m36_walk.proofs.words.block_with_pending.Goals as goal

pub pair_with_pending-requires-clause-inside : goal.pair_with_pending-requires-clause-inside
pair_with_pending-requires-clause-inside c = first_pair_lies _ _ (16 - 2 * c.loop-i.i) (omega arith) c.loop-i.invariant.lies

pub loop-i-preserved : goal.loop-i-preserved
loop-i-preserved c =
    let after : c.wrapped_address-next.result ≡ pair_after c.loop-i.next = cc in
    let left : 16 - 2 * c.loop-i.i ≡ (16 - 2 * (c.loop-i.i + 1)) + 2 = omega arith in
    let inside : c.loop-i.i < length c.loop-i.pairs = omega arith in
    record {
      words = rw after (block_read_on (with_pending c.args.core.now c.args.pending.now) _ c.loop-i.next (16 - 2 * c.loop-i.i) (16 - 2 * (c.loop-i.i + 1)) c.loop-i.i c.loop-i.pairs c.pair_with_pending.result inside left c.pair_with_pending.ensures c.loop-i.invariant.words);
      lies = rw after (rest_lies _ c.loop-i.next (16 - 2 * c.loop-i.i) (16 - 2 * (c.loop-i.i + 1)) left c.loop-i.invariant.lies);
      next = c.wrapped_address-next.ensures.bound;
      count = rw length-set c.loop-i.invariant.count;
    }

pub returns : goal.returns
returns c = block_read_whole (with_pending c.args.core.now c.args.pending.now) _ c.loop-i.next (16 - 2 * c.loop-i.i) c.loop-i.i c.loop-i.pairs (omega arith) (omega arith) c.loop-i.invariant.words
