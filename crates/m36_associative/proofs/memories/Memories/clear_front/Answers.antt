use Rattle.std.proofs.Common.{refl, inr}
use Rattle.m36_associative.proofs.Keeping.{with_pages, no_key, no_fetching}
use Rattle.m36_associative.proofs.memories.Memories.clear_front.Goals as goal

pub returns-clause-right : goal.returns-clause-right
returns-clause-right c = λ core dbr h.
    with_pages core dbr c.args.self.now _ h refl refl refl refl (λ p k. inr (no_key core dbr _ _ p (c.no_pages-front.ensures p k))) (no_fetching core dbr _ _ _ c.no_fetching-self.ensures)
