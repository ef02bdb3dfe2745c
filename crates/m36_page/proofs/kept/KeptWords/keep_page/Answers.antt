-- The page is copied to the written words.
use Rattle.std.proofs.Common.{ℕ, List, ◌+◌, ◌*◌, ◌≡◌, ◌≤◌, length, ap, subst, arith}
use Rattle.m36_page.specs.Copied.{IsCopied}
use Rattle.m36_word.proofs.ZerosAfter.{filled, length-filled}
use Rattle.m36_page.proofs.ZerosAfter.{copied-filled}
use Rattle.m36_page.proofs.kept.KeptWords.keep_page.Goals as goal

pub returns : goal.returns
returns c =
    let words = c.self.inside.written.items in
    let count = c.self.inside.count in
    let new = c.write_page.new.written.items in
    let from = 1024 * c.args.frame in
    let size : length (filled words count) ≡ length c.args.self.now = ap length c.self.view_is in
    let all = length-filled words count c.self.invariant.0 in
    let inside = c.requires.room in
    let room : c.args.from + 1024 ≤ count = omega (arith, size, all, inside) in
    subst (λ (l : List ℕ). IsCopied c.args.core.now from l c.args.from (filled new count)) c.self.view_is
    (copied-filled c.args.core.now words c.write_up_to.new.written.items new from c.args.from (c.args.from + 1024) count c.self.invariant.0 room
    c.write_up_to.ensures.items c.write_page.ensures.copied)
