use Rattle.std.proofs.Common.{refl}
use Rattle.m36_associative.proofs.Keeping.{with_page}
use Rattle.m36_associative.proofs.memories.Memories.put_in_front.Goals as goal

pub returns : goal.returns
returns c = λ core dbr h k. with_page core dbr c.args.self.now _ c.args.i c.args.page h k refl refl refl refl refl c.no_fetching-self.ensures
