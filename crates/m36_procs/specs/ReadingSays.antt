-- What the results of parsing parts of a text of processes imply.
use Rattle.std.specs.Prelude.{ℕ, ◌≡◌, ◌*◌, ◌<◌, ⊤, List, [], ◌∷◌, ◌++◌, drop, length, replicate}
use Rattle.std.specs.Prelude.{Option, Some, None, Result, Ok, Err}
use Rattle.std.specs.Borrow.{Bor}
use Rattle.m36_text.specs.Lines.{lines_of, line_at, first_present}
use Rattle.m36_image.specs.BareImage.{core_line}
use Rattle.m36_image.specs.ImageState.{written_all}
use Rattle.m36_procs.specs.ProcsFile.{codes_from, core_code, initial_parse_state, processes_in}
use Rattle.m36_procs.specs.ProcsFile.{placed_in}
use Rattle.m36_procs.specs.ProcsFile.{turns_in}
use Rattle.m36_procs.specs.ReaderSays.{IsReaderInvariant, parse_state_of}
use Rattle.m36_procs.specs.declared.fault.ProcsCode.{ProcsCode}
use Rattle.m36_procs.specs.declared.fault.ProcsCode.TheVariants as code
use Rattle.m36_procs.specs.declared.fault.ProcsFault.{ProcsFault}
use Rattle.m36_procs.specs.declared.fault.ProcsFault.TheVariants.{P1, P2, NoMemory}
use Rattle.m36_procs.specs.declared.reader.Reader.{Reader}

-- The fault is that of the first line with a code. The first entry of the list is the code of line
-- n. `NoMemory` is always allowed.
abbrev pub IsFirstFault : ProcsFault → ℕ → List (Option ProcsCode) → Type 0
IsFirstFault (P1 line) n codes = first_present n codes ≡ Some (line, code.P1)
IsFirstFault (P2 line) n codes = first_present n codes ≡ Some (line, code.P2)
IsFirstFault NoMemory n codes = ⊤

-- The first line was parsed: core has its size and is zero, no process or turn was read yet, and
-- `rest` is the text after the line.
pub record FirstLineWasRead (r : Reader) (rest : List ℕ)
    (lines : List (Option (List ℕ))) : Type 0 where
  pub frames : ℕ
  pub line : core_line (line_at lines 1) ≡ Ok frames
  pub stands : parse_state_of r ≡ initial_parse_state (1024 * frames)
  pub core : r.core ≡ replicate (1024 * frames) 0
  pub regs : r.regs.items ≡ []
  pub schedule : r.schedule.items ≡ []
  pub others : drop 1 lines ≡ lines_of rest

-- the result of parsing the first line
abbrev pub FirstLineResult :
    Result (Reader × Bor (List ℕ)) ProcsFault → List (Option (List ℕ)) → Type 0
FirstLineResult (Ok begun) lines = FirstLineWasRead begun.0 begun.1.now lines
FirstLineResult (Err fault) lines =
    IsFirstFault fault 1 (core_code (core_line (line_at lines 1)) ∷ [])

-- All lines after the first were accepted.
pub record TookLines (old new : Reader) (lines : List (Option (List ℕ))) : Type 0 where
  pub fine : first_present 2 (codes_from (parse_state_of old) lines) ≡ None
  pub regs : new.regs.items ≡ old.regs.items ++ processes_in lines
  pub core : new.core ≡ written_all old.core (placed_in lines)
  pub schedule : new.schedule.items ≡ old.schedule.items ++ turns_in lines
  pub fits : IsReaderInvariant new
  pub some : 0 < length new.regs.items

-- the result of parsing the lines after the first
abbrev pub LinesResult :
    Result (Unit {0}) ProcsFault → Reader → Reader → List (Option (List ℕ)) → Type 0
LinesResult (Ok done) old new lines = TookLines old new lines
LinesResult (Err fault) old new lines = IsFirstFault fault 2 (codes_from (parse_state_of old) lines)
