use Rattle.m36_step.proofs.Writing.{block_is_whole}
use Rattle.m36_step.proofs.writes.write_operand.Goals as goal

pub returns-in-Block-clause-core : goal.returns-in-Block-clause-core
returns-in-Block-clause-core c =
    let whole = block_is_whole c.args.operated.now.part c.in-Block.block (rw c.in-Block.is at c.requires.part) in
    rw (c.in-Block.is, ← whole) c.write_block.ensures.core
