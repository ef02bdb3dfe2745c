-- What a session remembers between its lines.
use Rattle.std.specs.Prelude.{ℕ, ◌-◌, Bool, nat_le, nat_lt, if◌then◌else◌, List, [], ◌∷◌, ◌++◌}
use Rattle.std.specs.Prelude.{length}
use Rattle.std.specs.Prelude.{Option, Some, None}
use Rattle.m36_model.specs.declared.endings.End.{End}
use Rattle.m36_step.specs.Counting.{step_count_after}
use Rattle.m36_step.specs.declared.turns.Turn.{Turn}
use Rattle.m36_step.specs.declared.turns.Turn.TheVariants.{Stepped, Linked, Console, Ended, Full}
use Rattle.m36_step.specs.declared.turns.Turn.TheVariants.{NoMemory}
use Rattle.m36_debug.specs.declared.commands.Break.{Break}

-- the count of steps that were taken and not taken back, how the run has ended, if it has, and the
-- breaks
pub record SessionStateFields : Type 0 where
  pub taken : ℕ
  pub ended : Option End
  pub breaks : List Break

-- what a session remembers at its start: no steps, no end, no breaks
abbrev pub initial_session_state : SessionStateFields
initial_session_state = record { taken = 0; ended = None; breaks = [] }

-- what a session remembers after a turn: a step adds one to the count, and an end of the run is
-- kept
unfoldable pub session_state_after : SessionStateFields → Turn → SessionStateFields
session_state_after s (Stepped told) =
    record { taken = step_count_after s.taken (Stepped told); ended = s.ended; breaks = s.breaks }
session_state_after s (Linked note) = s
session_state_after s (Console text) = s
session_state_after s (Ended end) =
    record { taken = s.taken; ended = Some end; breaks = s.breaks }
session_state_after s Full = s
session_state_after s NoMemory = s

-- what a session remembers after n steps were taken back: the run has not ended any more, and the
-- breaks are kept
abbrev pub session_state_before : SessionStateFields → ℕ → SessionStateFields
session_state_before s n = record { taken = s.taken - n; ended = None; breaks = s.breaks }

-- whether at least n steps were taken
abbrev pub has_taken : SessionStateFields → ℕ → Bool
has_taken s n = nat_le n s.taken

-- the maximum number of breaks
abbrev pub most_breaks : ℕ
most_breaks = 16

-- whether there is room for one more break
abbrev pub has_room : SessionStateFields → Bool
has_room s = nat_lt (length s.breaks) most_breaks

-- what a session remembers after `break`: one more break, if there is room for it
abbrev pub session_state_with_break : SessionStateFields → ℕ → ℕ → SessionStateFields
session_state_with_break s seg word =
    if has_room s
    then record {
      taken = s.taken;
      ended = s.ended;
      breaks = s.breaks ++ record { word = word; seg = seg } ∷ [];
    }
    else s
