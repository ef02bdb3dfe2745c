-- The first three lines of a bare image.
use Rattle.std.specs.Prelude.{ℕ, ◌≡◌, List, drop, Option, Some, Result, Ok, Err}
use Rattle.std.specs.Borrow.{Bor}
use Rattle.m36_image.specs.declared.refusal.Refusal.{Refusal}
use Rattle.m36_image.specs.declared.header.Header.{Header}
use Rattle.m36_text.specs.Lines.{lines_of, line_at, first_present}
use Rattle.m36_image.specs.BareImage.{core_line, dbr_line, start_line, header_count, header_codes}

-- The header and the text after it are those of a file with these lines.
pub record IsHeader (header : Header) (rest : List ℕ)
    (lines : List (Option (List ℕ))) : Type 0 where
  pub frames : core_line (line_at lines 1) ≡ Ok header.frames
  pub dbr : dbr_line (line_at lines 2) ≡ Some header.dbr
  pub start : start_line (line_at lines 3) ≡ Some header.start
  pub others : drop header_count lines ≡ lines_of rest

-- The result of reading the header: its content, or the first of its lines with a code.
abbrev pub HeaderResult : Result (Header × Bor (List ℕ)) Refusal → List (Option (List ℕ)) → Type 0
HeaderResult (Ok read) lines = IsHeader read.0 read.1.now lines
HeaderResult (Err refusal) lines =
    first_present 1 (header_codes lines) ≡ Some (refusal.line, refusal.code)
