-- Missing words are zero.
use Rattle.std.proofs.Common.{ℕ, List, ◌*◌, subst}
use Rattle.m36_page.specs.Copied.{IsCopied}
use Rattle.m36_page.proofs.ZerosAfter.{given-filled}
use Rattle.m36_page.proofs.kept.KeptWords.give_page.Goals as goal

pub returns : goal.returns
returns c =
    let words = c.self.inside.written.items in
    let at = 1024 * c.args.frame in
    let Is = λ (l : List ℕ). IsCopied l c.args.from c.args.core.now at c.copy_in.new.core in
    subst Is c.self.view_is
    (given-filled words c.args.core.now c.copy_in.new.core c.args.from at c.self.inside.count (subst Is c.deref.ensures.value c.copy_in.ensures))
