use Rattle.std.proofs.Common.{refl}
use Rattle.m36_associative.proofs.Keeping.{with_watches}
use Rattle.m36_associative.proofs.reading.watch_table_word.Goals as goal

pub returns-clause-right : goal.returns-clause-right
returns-clause-right c = with_watches c.args._core.now c.args._dbr c.args.memories.now _ c.requires (λ b k. k) c.add.ensures.more refl refl refl refl
