-- The mark is set among those that are written.
use Rattle.std.proofs.Common.{◌+◌, ◌≡◌, ◌≤◌, length, set, refl, ap, ◌∙◌, arith}
use Rattle.m36_word.proofs.ZerosAfter.{filled, length-filled, set-filled}
use Rattle.m36_audit.proofs.tables.Marks.put.Goals as goal

pub returns : goal.returns
returns c =
    let marks = c.self.inside.written.items in
    let more = c.write_up_to.new.written.items in
    let count = c.self.inside.size in
    let size : length (filled marks count) ≡ length c.args.self.now = ap length c.self.view_is in
    let all = length-filled marks count c.self.invariant.0 in
    let inside = c.requires in
    let room : c.args.a + 1 ≤ count = omega (arith, size, all, inside) in
    set-filled marks more (set more c.args.a c.args.mark) (c.args.a + 1) count c.args.a c.args.mark c.self.invariant.0 room
    c.write_up_to.ensures.items (omega arith) refl
    ∙ ap (λ l. set l c.args.a c.args.mark) c.self.view_is
