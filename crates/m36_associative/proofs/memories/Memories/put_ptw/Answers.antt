use Rattle.std.proofs.Common.{refl}
use Rattle.m36_associative.proofs.Keeping.{with_table_word}
use Rattle.m36_associative.proofs.memories.Memories.put_ptw.Goals as goal

pub returns : goal.returns
returns c = λ core dbr h k. with_table_word core dbr c.args.self.now _ c.args.e c.args.a _ h refl k refl refl refl refl refl refl
