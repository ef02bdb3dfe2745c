-- The output of a booted run, in pieces: its trace, or the characters of its console, and then its
-- end line. If a run for a user ended because a right to a segment of the catalog was missing, the
-- line `denied` of that segment follows.
use Rattle.std.specs.Prelude.{ℕ, ◌+◌, Bool, ◌&&◌, ◌||◌, nat_eq, if◌then◌else◌, List, [], ◌∷◌, ◌++◌}
use Rattle.std.specs.Prelude.{Option, Some, None, slice_get, option_and_then, option_to_list}
use Rattle.m36_text.specs.Lines.{as_line}
use Rattle.m36_link.specs.Known.{index_in_catalog}
use Rattle.m36_desc.specs.Violations.{no_execute_right, no_read_right, no_write_right}
use Rattle.m36_model.specs.Faults.{access_violation}
use Rattle.m36_model.specs.declared.outcome.Fault.{Fault}
use Rattle.m36_model.specs.declared.endings.End.{End}
use Rattle.m36_model.specs.declared.endings.End.TheVariants as end
use Rattle.m36_model.specs.declared.outcome.Outcome.TheVariants.{Next}
use Rattle.m36_step.specs.Counting.{step_count_after}
use Rattle.m36_step.specs.declared.turns.Turn.{Turn}
use Rattle.m36_step.specs.declared.turns.Turn.TheVariants.{Stepped, Linked, Console, Ended}
use Rattle.m36_step.specs.declared.turns.Turn.TheVariants.{Full, NoMemory}
use Rattle.m36_trace.specs.EndLine.{end_line_of}
use Rattle.m36_turns.specs.TurnLines.{run_end_line_of, turn_pieces}
use Rattle.m36_status.specs.declared.status.Status.{Status}
use Rattle.m36_status.specs.declared.status.Status.TheVariants as status
use Rattle.cmd_image.specs.Output.{end_or_limit_status}
use Rattle.cmd_folder.specs.declared.command.RunOutput.{RunOutput}
use Rattle.cmd_folder.specs.declared.command.RunOutput.TheVariants as output
use Rattle.cmd_folder.specs.declared.finish.Finish.{Finish}
use Rattle.cmd_folder.specs.declared.finish.Finish.TheVariants.{Over, Limit}

-- ---- turns

-- the count of steps of a turn: 1 for a step, 0 for a service
abbrev pub turn_step_count : Turn → ℕ
turn_step_count turn = step_count_after 0 turn

-- the count of steps among these turns
unfoldable pub turns_step_count : List Turn → ℕ
turns_step_count [] = 0
turns_step_count (turn ∷ turns) = turn_step_count turn + turns_step_count turns

-- The characters of the console are put as they are, as one piece; nothing if there are none.
abbrev pub console_pieces : List ℕ → List (List ℕ)
console_pieces [] = []
console_pieces (c ∷ text) = (c ∷ text) ∷ []

-- the characters of a console service, in at most one piece; nothing of any other turn
abbrev pub console_pieces_of_turn : Turn → List (List ℕ)
console_pieces_of_turn (Console text) = console_pieces text
console_pieces_of_turn (Stepped told) = []
console_pieces_of_turn (Linked note) = []
console_pieces_of_turn (Ended e) = []
console_pieces_of_turn Full = []
console_pieces_of_turn NoMemory = []

-- the pieces of a turn, before which `taken` steps were taken: in a trace its line, in a run with
-- its console the characters
abbrev pub pieces_of_turn : RunOutput → ℕ → Turn → List (List ℕ)
pieces_of_turn output.Trace taken turn = turn_pieces taken turn
pieces_of_turn output.Console taken turn = console_pieces_of_turn turn

-- the pieces of these turns, before which `taken` steps were taken
unfoldable pub pieces_of_turns : RunOutput → ℕ → List Turn → List (List ℕ)
pieces_of_turns output taken [] = []
pieces_of_turns output taken (turn ∷ turns) =
    pieces_of_turn output taken turn ++ pieces_of_turns output (taken + turn_step_count turn) turns

-- ---- the end

-- the end line of a run of this many steps, without its line feed
abbrev pub finish_line : Finish → ℕ → List ℕ
finish_line (Over e) steps = run_end_line_of e steps
finish_line Limit steps = end_line_of Next steps

-- Is an access violation one for a missing right to execute, read or write?
abbrev pub is_right_violation : ℕ → Bool
is_right_violation acv =
    nat_eq acv no_execute_right || nat_eq acv no_read_right || nat_eq acv no_write_right

-- Is a fault with this number, and this access violation, one for a missing right?
abbrev pub is_missing_right : ℕ → ℕ → Bool
is_missing_right number acv = nat_eq number access_violation && is_right_violation acv

-- the segment to which a right to execute, read or write was missing, if the fault is for that
abbrev pub denied_by_fault : Fault → Option ℕ
denied_by_fault fault =
    if is_missing_right fault.number fault.acv then Some fault.at.seg else None

-- the segment to which a right was missing, if a run ended for that
abbrev pub denied_by_end : End → Option ℕ
denied_by_end (end.Fault fault) = denied_by_fault fault
denied_by_end (end.Stop stop) = None
denied_by_end (end.Link code) = None
denied_by_end end.Console = None

-- the segment to which a right was missing, if a run finished for that; None at its limit of steps
abbrev pub denied_segment : Finish → Option ℕ
denied_segment (Over e) = denied_by_end e
denied_segment Limit = None

-- the line `denied` of a segment of the catalog, if it has one
abbrev pub denied_line_of : List (List ℕ) → Option ℕ → Option (List ℕ)
denied_line_of denied seg =
    option_and_then (slice_get denied) (option_and_then index_in_catalog seg)

-- the line `denied` that follows the end line of a run, if there is one
unfoldable pub denied_pieces : List (List ℕ) → Finish → List (List ℕ)
denied_pieces denied how = option_to_list (denied_line_of denied (denied_segment how))

-- the end line of a run of `steps` steps, and what follows it; nothing if the run did not finish
abbrev pub end_line_and_rest : Option Finish → ℕ → (Finish → List (List ℕ)) → List (List ℕ)
end_line_and_rest None steps rest = []
end_line_and_rest (Some how) steps rest = as_line (finish_line how steps) ∷ rest how

-- the end line of a run of this many steps, and the line `denied` if there is one; nothing if the
-- run did not finish
abbrev pub end_pieces : List (List ℕ) → Option Finish → ℕ → List (List ℕ)
end_pieces denied how steps = end_line_and_rest how steps (denied_pieces denied)

-- the status of a run; a run that did not finish ran out of memory, or its output failed
abbrev pub finish_status : Option Finish → Status
finish_status None = status.NoMemory
finish_status (Some (Over e)) = end_or_limit_status (Some e)
finish_status (Some Limit) = end_or_limit_status None

-- ---- the run

-- the whole output of these turns, and of the end if the run finished
unfoldable pub run_pieces :
    List (List ℕ) → RunOutput → List Turn → Option Finish → List (List ℕ)
run_pieces denied output turns how =
    pieces_of_turns output 0 turns ++ end_pieces denied how (turns_step_count turns)
