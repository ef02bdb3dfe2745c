use Rattle.m36_associative.proofs.Keeping.{nothing_kept}
use Rattle.m36_associative.proofs.memories.Memories.forget.Goals as goal

pub returns : goal.returns
returns c = λ core dbr. nothing_kept core dbr _ c.no_sdws-sdws.ensures c.no_ptws-ptws.ensures c.no_pages-front.ensures c.no_fetching-self.ensures
