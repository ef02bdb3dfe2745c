use Rattle.std.proofs.Common.{sym}
use Rattle.m36_outside.proofs.Blocks.{block_more}
use Rattle.m36_outside.proofs.block.Block.push.Goals as goal

pub invariant_of-self : goal.invariant_of-self
invariant_of-self c =
    let s = c.self.inside in
    let copied = c.append_piece-self-inside in
    let marked = c.add_offset-self-inside in
    block_more s.bytes s.offsets copied.new.bytes marked.new.offsets s.len s.count copied.result marked.result s.pieces.entries c.note.new.self.entries c.args.piece.now c.self.invariant (sym c.if-not-is_room.ensures) copied.ensures.end marked.ensures.count copied.ensures.bytes marked.ensures.offsets c.note.ensures
