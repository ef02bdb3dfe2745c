use Rattle.std.proofs.Common.{length, arith}
use Rattle.m36_step.proofs.Writing.{block_lies, block_written}
use Rattle.m36_step.proofs.writes.write_block.Goals as goal

pub store_block-requires-clause-inside : goal.store_block-requires-clause-inside
store_block-requires-clause-inside c =
    block_lies (length c.args.walk.now.core) c.args.place c.args.block.now (omega arith) c.requires.inside

pub returns-clause-core : goal.returns-clause-core
returns-clause-core c =
    block_written c.args.walk.now.core c.store_block.new.self.core c.args.place c.args.block.now c.store_block.ensures.core
