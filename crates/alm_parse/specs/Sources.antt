-- A source: its lines, or the first refusal in the order of the text.
use Rattle.std.specs.Prelude.{ℕ, ◌+◌, ◌-◌, ◌≡◌, ⊤, Bool, false, List, [], ◌∷◌, ◌++◌, Option}
use Rattle.std.specs.Prelude.{Some, None, Result, Ok, Err, if◌then◌else◌}
use Rattle.m36_text.specs.Results.{and_then}
use Rattle.alm_tokens.specs.declared.span.Span.{Span}
use Rattle.alm_parse.specs.declared.refusal.ParseCode.{ParseCode}
use Rattle.alm_parse.specs.declared.refusal.ParseCode.TheVariants as code
use Rattle.alm_parse.specs.declared.refusal.ParseRefusal.{ParseRefusal}
use Rattle.alm_tokens.specs.declared.rows.Row.{Row}
use Rattle.alm_parse.specs.declared.line.Line36.{Line36}
use Rattle.alm_parse.specs.declared.fault.AlmFault.{AlmFault}
use Rattle.alm_parse.specs.declared.fault.AlmFault.TheVariants.{E1, E2, E3, E4, E5, E6, E7, E8}
use Rattle.alm_parse.specs.declared.fault.AlmFault.TheVariants.{NoMemory}
use Rattle.alm_parse.specs.SourceFields.{Source}
use Rattle.alm_tokens.specs.Tokens.{slice_of, is_text}
use Rattle.alm_tokens.specs.Rows.{rows_of}
use Rattle.alm_parse.specs.Operations.{end_name}
use Rattle.alm_parse.specs.Lines.{parse_line}

-- the column of an index in a line that begins at `start`; it counts bytes from 1
abbrev pub column_at : ℕ → ℕ → ℕ
column_at start place = place - start + 1

-- The fault with the code of a refusal, at a line and a column.
abbrev pub fault_with_code : ParseCode → ℕ → ℕ → AlmFault
fault_with_code code.E1 line column = E1 line column
fault_with_code code.E2 line column = E2 line column
fault_with_code code.E3 line column = E3 line column
fault_with_code code.E4 line column = E4 line column

-- the fault of a refusal in a line
abbrev pub fault_of : Row → ParseRefusal → AlmFault
fault_of row refusal =
    fault_with_code refusal.code row.number (column_at row.span.from refusal.place)

-- whether the operation of a line is `end`, after which the text is ignored
abbrev pub is_end_operation : List ℕ → Option Span → Bool
is_end_operation text (Some op) = is_text end_name (slice_of text op)
is_end_operation text None = false

-- The lines of a source, given what parsing the line `row` yielded. If it is refused, so is the
-- source. It is the last if its operation is `end`; otherwise `further` parses the lines after it.
abbrev pub lines_after_row :
    List ℕ → Row → List Line36 → (List Line36 → Result (List Line36) AlmFault)
    → Result Line36 ParseRefusal → Result (List Line36) AlmFault
lines_after_row text row before further (Ok line) =
    if is_end_operation text line.op then Ok (before ++ line ∷ []) else further
    (before ++ line ∷ [])
lines_after_row text row before further (Err refusal) = Err (fault_of row refusal)

-- the lines of a text, after those before them, or the first refusal
unfoldable pub read_lines : List ℕ → List Line36 → List Row → Result (List Line36) AlmFault
read_lines text before [] = Ok before
read_lines text before (row ∷ rows) =
    lines_after_row text row before (λ more. read_lines text more rows) (parse_line text row)

-- the source with these lines and this text, or the fault
abbrev pub source_with_lines : List ℕ → Result (List Line36) AlmFault → Result Source AlmFault
source_with_lines text read = and_then read (λ lines. Ok (record { text = text; lines = lines }))

-- the source that a text is, with its lines, or its first refusal
unfoldable pub source_of_text : List ℕ → Result Source AlmFault
source_of_text text = source_with_lines text (read_lines text [] (rows_of text))

-- The result of a call is that of the definition. It may be NoMemory whatever the text is.
abbrev pub IsFaultOf : {A : Type 0} → AlmFault → Result A AlmFault → Type 0
IsFaultOf NoMemory definition = ⊤
IsFaultOf (E1 line column) definition = definition ≡ Err (E1 line column)
IsFaultOf (E2 line column) definition = definition ≡ Err (E2 line column)
IsFaultOf (E3 line column) definition = definition ≡ Err (E3 line column)
IsFaultOf (E4 line column) definition = definition ≡ Err (E4 line column)
IsFaultOf (E5 line column) definition = definition ≡ Err (E5 line column)
IsFaultOf (E6 line column) definition = definition ≡ Err (E6 line column)
IsFaultOf (E7 line column) definition = definition ≡ Err (E7 line column)
IsFaultOf (E8 line column) definition = definition ≡ Err (E8 line column)

-- The result of a call is that of the definition, or `NoMemory`.
abbrev pub IsResultOf : {A : Type 0} → Result A AlmFault → Result A AlmFault → Type 0
IsResultOf (Ok value) definition = definition ≡ Ok value
IsResultOf (Err fault) definition = IsFaultOf fault definition
