-- The walk after core was borrowed to be written.
use Rattle.std.specs.Prelude.{ℕ, List}
use Rattle.std.specs.Borrow.{Lends, MutBor, Fml}
use Rattle.m36_core.specs.contracts.memory.Core as core
use Rattle.m36_walk.specs.Memory.{Memory}
use Rattle.m36_walk.specs.contracts.walk.Walk as walk

-- When the borrow ends, the walk has core as it was left, and its DBR.
abbrev pub LendsCore : MutBor Memory → MutBor (List ℕ) → Fml
LendsCore w r = Lends walk.the_row core.the_row w r (λ c. record { core = c; dbr = w.now.dbr })
