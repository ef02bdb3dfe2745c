-- What parsing a text of processes line by line keeps, and what taking one line implies.
use Rattle.std.specs.Prelude.{ℕ, ◌≡◌, ◌<◌, ⊤, true, List, ◌++◌, length, None, Result, Ok, Err}
use Rattle.m36_image.specs.BareImage.{at_words}
use Rattle.m36_image.specs.ImageState.{written_all}
use Rattle.m36_procs.specs.ProcsFields.{ProcsFields}
use Rattle.m36_procs.specs.ProcsFile.{Line, line_by, ParseState, state_after_line, may_end}
use Rattle.m36_procs.specs.ProcsFile.{process_of, placed_of}
use Rattle.m36_procs.specs.ProcsFile.{turns_of}
use Rattle.m36_procs.specs.IsProcs.{IsWithinLimits}
use Rattle.m36_procs.specs.declared.fault.LineFault.{LineFault}
use Rattle.m36_procs.specs.declared.fault.LineFault.TheVariants.{Refused, NoMemory}
use Rattle.m36_procs.specs.declared.reader.Reader.{Reader}

-- a parsed line that is known to be neither a `process` nor a `turns` line: an `at` line, or one
-- without a form
abbrev pub at_or_other_line : List (List ℕ) → Line
at_or_other_line words = line_by None None (at_words words)

-- the state of parsing after the lines that were read
abbrev pub parse_state_of : Reader → ParseState
parse_state_of r =
    record {
      stage = r.stage;
      size = length r.core;
      processes = length r.regs.items;
      next = r.next;
      events = length r.schedule.items;
    }

-- the processes and the schedule that were read
abbrev pub procs_read : Reader → ProcsFields
procs_read r =
    record {
      state = record { regs = r.regs.items; store = r.core };
      schedule = r.schedule.items;
    }

-- the invariant of a reader: the limits are kept, and if the text may end there is a process
pub record IsReaderInvariant (r : Reader) : Type 0 where
  pub are : IsWithinLimits (length r.regs.items) r.schedule.items
  pub some : may_end r.stage ≡ true → 0 < length r.regs.items

-- A line was accepted: it has no code, and adds what it describes.
pub record TookLine (old new : Reader) (line : Line) : Type 0 where
  pub stands : state_after_line (parse_state_of old) line ≡ Ok (parse_state_of new)
  pub regs : new.regs.items ≡ old.regs.items ++ process_of line
  pub core : new.core ≡ written_all old.core (placed_of line)
  pub schedule : new.schedule.items ≡ old.schedule.items ++ turns_of line

-- the result of taking a line: it was accepted, or has this least code
abbrev pub TakeResult : Result (Unit {0}) LineFault → Reader → Reader → Line → Type 0
TakeResult (Ok done) old new line = TookLine old new line
TakeResult (Err (Refused code)) old new line = state_after_line (parse_state_of old) line ≡ Err code
TakeResult (Err NoMemory) old new line = ⊤
