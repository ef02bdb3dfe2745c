use Rattle.std.proofs.Common.{refl}
use Rattle.m36_associative.proofs.Keeping.{with_watches}
use Rattle.m36_associative.proofs.reading.watch_descriptor.Goals as goal

pub returns-clause-right : goal.returns-clause-right
returns-clause-right c = with_watches c.args._core.now c.args.dbr c.args.memories.now _ c.requires.right c.watch_words.ensures.words c.watch_words.ensures.tables refl refl refl refl
