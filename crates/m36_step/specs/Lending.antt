-- What happens to the machine when its core is lent to be written.
use Rattle.std.specs.Prelude.{ℕ, List}
use Rattle.std.specs.Borrow.{Lends, MutBor, Fml}
use Rattle.m36_core.specs.contracts.memory.Core as core
use Rattle.m36_step.specs.MachineFields.{MachineFields}
use Rattle.m36_step.specs.contracts.machine.Machine as machine

-- the machine with core replaced
abbrev pub with_core : MachineFields → List ℕ → MachineFields
with_core m c = record { state = record { regs = m.state.regs; store = c }; ended = m.ended }

-- When the loan ends, the machine has core as it was last left. Its registers, and how its run has
-- ended, do not change.
abbrev pub LendsCore : MutBor MachineFields → MutBor (List ℕ) → Fml
LendsCore m r = Lends machine.the_row core.the_row m r (λ c. with_core m.now c)
