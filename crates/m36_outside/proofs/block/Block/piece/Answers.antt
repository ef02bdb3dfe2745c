use Rattle.m36_outside.proofs.Blocks.{piece_order}
use Rattle.m36_outside.proofs.block.Block.piece.Goals as goal

pub between-requires-clause-order : goal.between-requires-clause-order
between-requires-clause-order c =
    piece_order c.args.self.now c.bytes.result.now c.offsets-offsets.result.now c.args.place c.bytes.ensures c.offsets-offsets.ensures c.requires
