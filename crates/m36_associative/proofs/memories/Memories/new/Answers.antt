use Rattle.m36_associative.proofs.Keeping.{nothing_kept}
use Rattle.m36_associative.proofs.memories.Memories.new.Goals as goal

pub returns : goal.returns
returns c = λ core dbr. nothing_kept core dbr _ c.no_sdws.ensures c.no_ptws.ensures c.no_pages.ensures c.no_fetching.ensures
