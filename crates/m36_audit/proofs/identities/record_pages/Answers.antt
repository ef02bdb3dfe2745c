use Rattle.std.proofs.Common.{◌≡◌, ℕ, ◌∙◌, ap, arith}
use Rattle.m36_audit.specs.WordOwners.{pages_recorded}
use Rattle.m36_audit.proofs.identities.record_pages.Goals as goal

pub returns : goal.returns
returns c =
    let e : c.loop-page.page ≡ c.args.pages = omega arith in
    c.loop-page.invariant ∙ ap (λ (n : ℕ). pages_recorded c.args.table_number c.args.sdw.now n c.args.recorded.now.values.items) e
