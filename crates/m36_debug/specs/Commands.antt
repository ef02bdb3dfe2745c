-- The commands that take turns, and whether they take another one after a turn.
use Rattle.std.specs.Prelude.{ℕ, ◌-◌, Bool, not, ◌&&◌, ◌||◌, nat_lt, nat_eq, List}
use Rattle.std.specs.Prelude.{if◌then◌else◌, Result, Ok, Err}
use Rattle.std.specs.List.{list_any}
use Rattle.m36_word.specs.declared.pair.Pair.{Pair}
use Rattle.m36_model.specs.Fields.{PprFields}
use Rattle.m36_model.specs.declared.endings.LinkCode.{LinkCode}
use Rattle.m36_model.specs.declared.outcome.Outcome.{Outcome}
use Rattle.m36_model.specs.declared.outcome.Outcome.TheVariants.{Next, Faulted, Stopped}
use Rattle.m36_step.specs.declared.turns.Turn.{Turn}
use Rattle.m36_step.specs.declared.turns.Turn.TheVariants as turns
use Rattle.m36_debug.specs.declared.commands.Break.{Break}
use Rattle.m36_debug.specs.declared.commands.TurnCommand.{TurnCommand}
use Rattle.m36_debug.specs.declared.commands.TurnCommand.TheVariants.{Step, Go}
use Rattle.m36_debug.specs.declared.commands.RunningCommand.{RunningCommand}
use Rattle.m36_debug.specs.declared.commands.AfterTurn.{AfterTurn}
use Rattle.m36_debug.specs.declared.commands.AfterTurn.TheVariants.{Runs, Waits, Starves}

-- the maximum number of steps of `go`
abbrev pub go_limit : ℕ
go_limit = 100000

-- the command, with the number of steps that it may still take
abbrev pub run_of : TurnCommand → ℕ → RunningCommand
run_of command left = record { left = left; command = command }

-- the next instruction is at this break
abbrev pub is_at : PprFields → Break → Bool
is_at p b = nat_eq b.seg p.psr && nat_eq b.word p.ic

-- the next instruction is at one of these breaks
abbrev pub is_at_break : PprFields → List Break → Bool
is_at_break p breaks = list_any (is_at p) breaks

-- Whether a command that may take `left` more steps takes another one. `go` stops at a break, but
-- takes at least one step.
abbrev pub takes_another : TurnCommand → ℕ → Bool → Bool
takes_another Step left at_break = nat_lt 0 left
takes_another Go left at_break = nat_lt 0 left && (nat_eq left go_limit || not at_break)

-- what a command does after a turn that need not be followed by a service or the end of the run
abbrev pub continue_or_wait : TurnCommand → ℕ → Bool → AfterTurn
continue_or_wait command left at_break =
    if takes_another command left at_break then Runs (run_of command left) else Waits

-- What a command does after a step. One whose outcome is not Next is followed at once by its
-- service or by the end of the run: by one more turn, even if no steps are left.
abbrev pub after_step : TurnCommand → ℕ → Bool → Outcome → AfterTurn
after_step command left at_break Next = continue_or_wait command left at_break
after_step command left at_break (Faulted fault) = Runs (run_of command left)
after_step command left at_break (Stopped stop) = Runs (run_of command left)

-- What a command does after a link service. A refused link is followed by one more turn, the end of
-- the run.
abbrev pub after_link : TurnCommand → ℕ → Bool → Result Pair LinkCode → AfterTurn
after_link command left at_break (Ok pair) = continue_or_wait command left at_break
after_link command left at_break (Err code) = Runs (run_of command left)

-- what a command does after a turn; the flag is whether the turn left the machine at a break
unfoldable pub after_turn : RunningCommand → Bool → Turn → AfterTurn
after_turn run at_break (turns.Stepped told) =
    if nat_eq run.left 0 then Waits
    else after_step run.command (run.left - 1) at_break told.outcome
after_turn run at_break (turns.Linked note) =
    after_link run.command run.left at_break note.answer
after_turn run at_break (turns.Console text) = continue_or_wait run.command run.left at_break
after_turn run at_break (turns.Ended end) = Waits
after_turn run at_break turns.Full = Waits
after_turn run at_break turns.NoMemory = Starves
