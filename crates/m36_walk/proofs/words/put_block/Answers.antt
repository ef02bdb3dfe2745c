use Rattle.std.proofs.Common.{◌≡◌, ◌-◌, ◌*◌, ◌+◌, ◌<◌, length, get_or, refl, sym, ◌∙◌, arith}
use Rattle.m36_walk.proofs.Blocks.{pair_after, first_pair_lies, rest_lies, block_put_on, block_put_whole, length-words_of_pairs}
use Rattle.m36_walk.proofs.words.put_block.Goals as goal

pub put_pair-requires-clause-inside : goal.put_pair-requires-clause-inside
put_pair-requires-clause-inside c = first_pair_lies _ _ (16 - 2 * c.loop-pair.pair-index) (omega arith) c.loop-pair.invariant.lies

pub loop-pair-preserved : goal.loop-pair-preserved
loop-pair-preserved c =
    let after : c.wrapped_address-next.result ≡ pair_after c.loop-pair.next = cc in
    let left : 16 - 2 * c.loop-pair.pair-index ≡ (16 - 2 * (c.loop-pair.pair-index + 1)) + 2 = omega arith in
    let inside : c.loop-pair.pair-index < length c.args.block.now = omega arith in
    record {
      put = rw after (block_put_on _ c.loop-pair.core c.put_pair.new.core c.loop-pair.next c.loop-pair.pair-index c.args.block.now (get_or c.args.block.now c.loop-pair.pair-index c.pair-item.result) c.pair-item.result inside refl c.put_pair.ensures.put c.loop-pair.invariant.put);
      lies = rw (after, c.put_pair.ensures.len) (rest_lies _ c.loop-pair.next (16 - 2 * c.loop-pair.pair-index) (16 - 2 * (c.loop-pair.pair-index + 1)) left c.loop-pair.invariant.lies);
      next = c.wrapped_address-next.ensures.bound;
      count = c.loop-pair.invariant.count;
      len = c.put_pair.ensures.len ∙ c.loop-pair.invariant.len;
      right = c.put_pair.ensures.right;
    }

pub returns-clause-put : goal.returns-clause-put
returns-clause-put c = sym (c.loop-pair.invariant.put ∙ block_put_whole c.loop-pair.core c.loop-pair.next c.loop-pair.pair-index c.args.block.now (omega arith))

pub returns-clause-words : goal.returns-clause-words
returns-clause-words c = length-words_of_pairs c.args.block.now 8 c.loop-pair.invariant.count
