-- Commands that perform programs.
use Rattle.std.proofs.Common.{◌≡◌, ℕ, List, Result, sym, subst}
use Rattle.m36_world.specs.Seen.{Seen}
use Rattle.m36_status.specs.declared.status.Status.{Status}
use Rattle.m36_program.specs.Performs.{Performs}
use Rattle.m36_program.specs.Program.{May, Program}
use Rattle.m36_top.specs.declared.command.Command.{Command}
use Rattle.m36_top.specs.Programs.{program}

-- by the name of the command
pub as_performs :
    (command same : Command) (result : Result (Unit {0}) Status) (old new : Seen)
    → command ≡ same → Performs (program same) result old new → Performs (program command) result old new
as_performs command same result old new is performs = subst (λ c. Performs (program c) result old new) (sym is) performs

-- The name that is passed to the call is that of the command.
pub named :
    {may : May} (program : List ℕ → Program may (Unit {0})) (name lent : List ℕ) (result : Result (Unit {0}) Status)
    (old new : Seen)
    → lent ≡ name → Performs (program lent) result old new → Performs (program name) result old new
named program name lent result old new same performs = subst (λ n. Performs (program n) result old new) same performs
