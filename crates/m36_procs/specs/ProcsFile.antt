-- The text of processes: it describes one core, the processes on it, and the schedule by which they
-- run.
--
--     core N              N decimal, 1 to 16384 frames of 1,024 words
--     process E O S R I   a process: the two words of its descriptor segment base register, of 12
--                         octal digits, and where it starts: segment, ring and word number, of 5, 1
--                         and 6
--     at A W ..           a core address of 8 octal digits; one to eight words of 12, from there on
--     turns C P ..        one to sixteen process numbers of one digit: turns in this order, C
--                         times; C decimal, 1 to 1000000
--
-- Each line ends with a line feed, and single spaces separate the words of a line. The order of the
-- lines is: `core` once, one to eight `process`, any number of `at`, and at least one `turns`.
-- Processes are numbered from 0. All `turns` lines together make at most 10000000 events.
--
-- P1 is a line that does not have its form, is out of order or missing, a missing line feed, an N
-- out of range, an `at` whose first address is not above every earlier address or whose last
-- address is outside core, or a `turns` line with which there are too many events. P2 is a number
-- that no process has. The first line with a code is reported, with P1 before P2. A missing line
-- has the number that it would have.
use Rattle.std.specs.Prelude.{ℕ, ◌+◌, ◌*◌, ◌&&◌, Bool, true, false, nat_le, nat_lt, List}
use Rattle.std.specs.Prelude.{[], ◌∷◌, length, drop, codes, Option, Some, None}
use Rattle.std.specs.Prelude.{Result, Ok, Err, if◌then◌else◌}
use Rattle.std.specs.List.{list_all, flat_map, repeat}
use Rattle.std.specs.Result.{result_err}
use Rattle.m36_text.specs.Texts.{is_text}
use Rattle.m36_text.specs.Lines.{lines_of, line_at, first_present, line_meaning}
use Rattle.m36_text.specs.Numbers.{decimal_in, short_decimal_in}
use Rattle.m36_text.specs.Results.{value_unless}
use Rattle.m36_word.specs.declared.pair.Pair.{Pair}
use Rattle.m36_model.specs.Fields.{PprFields}
use Rattle.m36_model.specs.JointAudit.{most_processes}
use Rattle.m36_model.specs.Registers.{RegsFields}
use Rattle.m36_image.specs.PlacedWords.{PlacedWords}
use Rattle.m36_image.specs.Several.{numbers_up_to}
use Rattle.m36_image.specs.declared.refusal.ImageCode.{ImageCode}
use Rattle.m36_image.specs.BareImage.{dbr_in, start_in, at_words, core_line, frames_of}
use Rattle.m36_image.specs.ImageState.{regs_of, core_with}
use Rattle.m36_image.specs.LineByLine.{end_of_at_line}
use Rattle.m36_procs.specs.ProcsFields.{ProcsFields, TurnsFields}
use Rattle.m36_procs.specs.declared.fault.ProcsCode.{ProcsCode}
use Rattle.m36_procs.specs.declared.fault.ProcsCode.TheVariants.{P1, P2}
use Rattle.m36_procs.specs.declared.reader.Stage.{Stage}
use Rattle.m36_procs.specs.declared.reader.Stage.TheVariants.{Naming, Placing, Turning}

-- the registers of a process, if both could be read; all others are zero
abbrev pub process_read : Option Pair → Option PprFields → Option RegsFields
process_read (Some dbr) (Some start) = Some (regs_of dbr start)
process_read _ _ = None

-- the registers of a process, from the words of a `process` line
abbrev pub process_words : List (List ℕ) → Option RegsFields
process_words (name ∷ even ∷ odd ∷ seg ∷ ring ∷ word ∷ []) =
    if is_text (codes "process") name
    then process_read (dbr_in even odd) (start_in seg ring word) else None
process_words _ = None

-- the maximum number of times that a line repeats its turns
abbrev pub most_times : ℕ
most_times = 1000000

-- one to sixteen numbers of processes
abbrev pub process_numbers : List (List ℕ) → Option (List ℕ)
process_numbers texts = numbers_up_to 16 (short_decimal_in 1 0 9) texts

-- turns, if their numbers and how many times they are made could be read
abbrev pub turns_read : Option ℕ → Option (List ℕ) → Option TurnsFields
turns_read (Some times) (Some order) = Some (record { times = times; order = order })
turns_read _ _ = None

-- turns, from the words of a `turns` line
abbrev pub turns_words : List (List ℕ) → Option TurnsFields
turns_words (name ∷ times ∷ texts) =
    if is_text (codes "turns") name
    then turns_read (decimal_in 1 most_times times) (process_numbers texts) else None
turns_words _ = None

-- a parsed line after the first
pub data Line : Type 0 where
  ProcessLine : RegsFields → Line
  TurnsLine : TurnsFields → Line
  AtLine : PlacedWords → Line
  OtherLine : Line

-- a line by the first of the forms that it has
abbrev pub line_by : Option RegsFields → Option TurnsFields → Option PlacedWords → Line
line_by (Some regs) turns placed = ProcessLine regs
line_by None (Some turns) placed = TurnsLine turns
line_by None None (Some placed) = AtLine placed
line_by None None None = OtherLine

-- the line with these words
abbrev pub line_in : List (List ℕ) → Line
line_in words = line_by (process_words words) (turns_words words) (at_words words)

-- a line parsed by itself; it has no form if it lacks its line feed
abbrev pub line_of : Option (List ℕ) → Line
line_of line = line_meaning line_in OtherLine line

-- The state of parsing before a line: which lines may follow, the number of words of core, the
-- number of processes, the least address that an `at` line may have, and the number of events.
pub record ParseState : Type 0 where
  pub stage : Stage
  pub size : ℕ
  pub processes : ℕ
  pub next : ℕ
  pub events : ℕ

-- whether a `process` line may follow: after `core` or a `process` line
abbrev pub may_have_process_line : Stage → Bool
may_have_process_line Naming = true
may_have_process_line Placing = false
may_have_process_line Turning = false

-- whether an `at` line may follow: before the first `turns` line
abbrev pub may_have_at_line : Stage → Bool
may_have_at_line Naming = true
may_have_at_line Placing = true
may_have_at_line Turning = false

-- whether the text may end: after a `turns` line
abbrev pub may_end : Stage → Bool
may_end Naming = false
may_end Placing = false
may_end Turning = true

-- the state after an `at` line, given the address after its last word; P1 if it has a code
abbrev pub state_after_at_line : ParseState → Result ℕ ImageCode → Result ParseState ProcsCode
state_after_at_line s (Ok end) = Ok (record s { stage = Placing; next = end })
state_after_at_line s (Err code) = Err P1

-- the maximum number of events of a schedule
abbrev pub most_events : ℕ
most_events = 10000000

-- the number of events with these turns after `events` events
abbrev pub events_with : ℕ → TurnsFields → ℕ
events_with events t = events + t.times * length t.order

-- each number is that of one of `count` processes
abbrev pub are_process_numbers : ℕ → List ℕ → Bool
are_process_numbers count numbers = list_all (λ number. nat_lt number count) numbers

-- the state after a line, or the least code of the line
unfoldable pub state_after_line : ParseState → Line → Result ParseState ProcsCode
state_after_line s (ProcessLine regs) =
    if may_have_process_line s.stage && nat_lt s.processes most_processes
    then Ok (record s { processes = s.processes + 1 }) else Err P1
state_after_line s (AtLine placed) =
    if may_have_at_line s.stage && nat_lt 0 s.processes
    then state_after_at_line s (end_of_at_line s.size s.next (Some placed)) else Err P1
state_after_line s (TurnsLine t) =
    if nat_lt 0 s.processes && nat_le (events_with s.events t) most_events
    then if are_process_numbers s.processes t.order
    then Ok (record s { stage = Turning; events = events_with s.events t }) else Err P2
    else Err P1
state_after_line s OtherLine = Err P1

-- the state after a line with this result; a line with a code does not change it
abbrev pub state_or_previous : ParseState → Result ParseState ProcsCode → ParseState
state_or_previous s (Ok later) = later
state_or_previous s (Err code) = s

-- P1 if the text may not end here
abbrev pub end_code : Stage → Option ProcsCode
end_code stage = if may_end stage then None else Some P1

-- The code of each line from this state on, if it has one, and at last that of a missing line.
unfoldable pub codes_from : ParseState → List (Option (List ℕ)) → List (Option ProcsCode)
codes_from s [] = end_code s.stage ∷ []
codes_from s (line ∷ lines) =
    result_err (state_after_line s (line_of line)) ∷ codes_from
    (state_or_previous s (state_after_line s (line_of line))) lines

-- the code of the first line, if it has one
abbrev pub core_code : Result ℕ ImageCode → Option ProcsCode
core_code (Ok frames) = None
core_code (Err code) = Some P1

-- the state after the first line, with a core of `size` words
abbrev pub initial_parse_state : ℕ → ParseState
initial_parse_state size =
    record { stage = Naming; size = size; processes = 0; next = 0; events = 0 }

-- the code of each line, if it has one, and of a missing line at the end
abbrev pub line_codes : List (Option (List ℕ)) → List (Option ProcsCode)
line_codes lines =
    core_code (core_line (line_at lines 1))
    ∷ codes_from (initial_parse_state (1024 * frames_of lines)) (drop 1 lines)

-- the process of a line, if it is a `process` line
abbrev pub process_of : Line → List RegsFields
process_of (ProcessLine regs) = regs ∷ []
process_of _ = []

-- the words of a line, if it is an `at` line
abbrev pub placed_of : Line → List PlacedWords
placed_of (AtLine placed) = placed ∷ []
placed_of _ = []

-- the processes that take the turns of a line, if it is a `turns` line
abbrev pub turns_of : Line → List ℕ
turns_of (TurnsLine t) = repeat t.times t.order
turns_of _ = []

-- the processes of lines, in order
abbrev pub processes_in : List (Option (List ℕ)) → List RegsFields
processes_in lines = flat_map (λ line. process_of (line_of line)) lines

-- the words of `at` lines, in order
abbrev pub placed_in : List (Option (List ℕ)) → List PlacedWords
placed_in lines = flat_map (λ line. placed_of (line_of line)) lines

-- the schedule of lines
abbrev pub turns_in : List (Option (List ℕ)) → List ℕ
turns_in lines = flat_map (λ line. turns_of (line_of line)) lines

-- the processes and the schedule that lines without a code describe, in a core of `size` words
abbrev pub procs_in : ℕ → List (Option (List ℕ)) → ProcsFields
procs_in size lines =
    record {
      state =
          record {
            regs = processes_in lines;
            store = core_with size (placed_in lines);
          };
      schedule = turns_in lines;
    }

-- the processes and the schedule that a text describes, or its first line that has a code, with the
-- least code of that line
unfoldable pub procs_of_text : List ℕ → Result ProcsFields (ℕ × ProcsCode)
procs_of_text text =
    value_unless
    (first_present 1 (line_codes (lines_of text)))
    (procs_in (1024 * frames_of (lines_of text)) (drop 1 (lines_of text)))
