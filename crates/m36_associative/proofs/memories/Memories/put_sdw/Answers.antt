use Rattle.std.proofs.Common.{refl}
use Rattle.m36_associative.proofs.Keeping.{with_descriptor}
use Rattle.m36_associative.proofs.memories.Memories.put_sdw.Goals as goal

pub returns : goal.returns
returns c = λ core dbr h k. with_descriptor core dbr c.args.self.now _ c.args.e c.args.seg _ h refl k refl refl refl refl refl refl
