-- How steps are counted, turn by turn.
use Rattle.std.specs.Prelude.{ℕ, ◌+◌, ◌-◌, ◌^◌}
use Rattle.m36_step.specs.declared.turns.Turn.{Turn}
use Rattle.m36_step.specs.declared.turns.Turn.TheVariants.{Stepped, Linked, Console, Ended, Full}
use Rattle.m36_step.specs.declared.turns.Turn.TheVariants.{NoMemory}

-- the maximum of the count of steps
abbrev pub step_count_limit : ℕ
step_count_limit = 2 ^ 64 - 1

-- the count of steps after a turn: a step counts 1, and a service 0
abbrev pub step_count_after : ℕ → Turn → ℕ
step_count_after taken (Stepped told) = taken + 1
step_count_after taken (Linked note) = taken
step_count_after taken (Console text) = taken
step_count_after taken (Ended end) = taken
step_count_after taken Full = taken
step_count_after taken NoMemory = taken
