-- The word is set in the written words.
use Rattle.std.proofs.Common.{◌+◌, ◌≡◌, ◌≤◌, ◌<◌, length, set, refl, ap, ◌∙◌, arith}
use Rattle.m36_word.proofs.ZerosAfter.{filled, length-filled, set-filled}
use Rattle.m36_page.proofs.kept.KeptWords.put.Goals as goal

pub returns : goal.returns
returns c =
    let words = c.self.inside.written.items in
    let more = c.write_up_to.new.written.items in
    let count = c.self.inside.count in
    let size : length (filled words count) ≡ length c.args.self.now = ap length c.self.view_is in
    let all = length-filled words count c.self.invariant.0 in
    let inside = c.requires in
    let room : c.args.i + 1 ≤ count = omega (arith, size, all, inside) in
    set-filled words more (set more c.args.i c.args.value) (c.args.i + 1) count c.args.i c.args.value c.self.invariant.0 room
    c.write_up_to.ensures.items (omega arith) refl
    ∙ ap (λ l. set l c.args.i c.args.value) c.self.view_is
