-- The count is set among those that are written.
use Rattle.std.proofs.Common.{◌+◌, set, refl, ap, ◌∙◌, arith}
use Rattle.m36_word.proofs.ZerosAfter.{set-filled}
use Rattle.m36_audit.proofs.run.Counts.count.Goals as goal

pub returns-then-a-self : goal.returns-then-a-self
returns-then-a-self c =
    let counts = c.self.inside.written.items in
    let more = c.write_up_to.new.written.items in
    let size = c.self.inside.size in
    let room = c.if-a-self.true in
    let n = c.at-before.result + 1 in
    set-filled counts more (set more c.args.a n) (c.args.a + 1) size c.args.a n c.self.invariant.0 (omega arith)
    c.write_up_to.ensures.items (omega arith) refl
    ∙ ap (λ l. set l c.args.a n) c.self.view_is
    ∙ ap (λ k. set c.args.self.now c.args.a (k + 1)) c.at-before.ensures
