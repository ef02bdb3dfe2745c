use Rattle.std.proofs.Common.{sym}
use Rattle.m36_outside.proofs.Blocks.{block_more, room_less}
use Rattle.m36_outside.proofs.block.Block.push_line.Goals as goal

pub invariant_of-self : goal.invariant_of-self
invariant_of-self g c =
    let s = c.self.inside in
    let spelled = c.append_spelled-self-inside in
    let marked = c.add_offset-self-inside in
    let text = g.L.Spelled.text c.args.line.now in
    block_more s.bytes s.offsets spelled.new.bytes marked.new.offsets s.len s.count spelled.result marked.result s.pieces.entries c.note.new.self.entries text c.self.invariant (room_less s.len s.count _ 112 (sym c.if-not-is_room.ensures) spelled.ensures.short) spelled.ensures.end marked.ensures.count spelled.ensures.bytes marked.ensures.offsets c.note.ensures
