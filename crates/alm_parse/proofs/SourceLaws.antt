-- A source, line by line.
use Rattle.std.proofs.Common.{◌≡◌, ℕ, ◌+◌, ◌<◌, ◌≤◌, true, false, cond, List, [], ◌∷◌, ◌++◌, length, drop, get_or, Result, Ok, Err, refl, sym, ap, ◌∙◌, drop-cons, add-one, subst}
use Rattle.std.proofs.lemmas.List.{length-append}
use Rattle.std.proofs.Math.ListN.{drop_of_length-le}
use Rattle.alm_parse.specs.declared.refusal.ParseCode.{ParseCode}
use Rattle.alm_parse.specs.declared.refusal.ParseCode.TheVariants as code
use Rattle.alm_parse.specs.declared.refusal.ParseRefusal.{ParseRefusal}
use Rattle.alm_tokens.specs.declared.rows.Row.{Row}
use Rattle.alm_parse.specs.declared.line.Line36.{Line36}
use Rattle.alm_parse.specs.declared.fault.AlmFault.{AlmFault}
use Rattle.alm_parse.specs.declared.fault.AlmFault.TheVariants.{E1, E2, E3, E4, E5, E6, E7, E8, NoMemory}
use Rattle.alm_parse.specs.Lines.{parse_line}
use Rattle.alm_tokens.specs.Rows.{rows_of}
use Rattle.alm_parse.specs.Sources.{fault_with_code, fault_of, is_end_operation, lines_after_row, read_lines, source_with_lines, source_of_text, IsFaultOf}

read_row :
    (text : List ℕ) (before : List Line36) (rows : List Row) (i : ℕ) (d : Row) → i < length rows
    → read_lines text before (drop i rows)
    ≡ lines_after_row text (get_or rows i d) before (λ more. read_lines text more (drop (i + 1) rows)) (parse_line text (get_or rows i d))
unfolding read_lines
read_row text before rows i d within = rw (add-one i, drop-cons rows i d) refl

refuses_by : {A : Type 0} (c : ParseCode) (line column : ℕ) (definition : Result A AlmFault) → definition ≡ Err (fault_with_code c line column) → IsFaultOf (fault_with_code c line column) definition
refuses_by code.E1 line column definition e = e
refuses_by code.E2 line column definition e = e
refuses_by code.E3 line column definition e = e
refuses_by code.E4 line column definition e = e

-- a refusal is the fault of the source
pub refuses_told : {A : Type 0} (row : Row) (refusal : ParseRefusal) (definition : Result A AlmFault) → definition ≡ Err (fault_of row refusal) → IsFaultOf (fault_of row refusal) definition
refuses_told row refusal definition e = refuses_by refusal.code row.number _ definition e

abbrev pub ok_lines : List Line36 → Result (List Line36) AlmFault
ok_lines lines = Ok lines

-- a list with one more line at its end
pub line_more : (lines new : List Line36) (line : Line36) → new ≡ lines ++ line ∷ [] → length new ≡ length lines + 1
line_more lines new line e = ap length e ∙ length-append lines (line ∷ [])

-- a line is refused
pub told_here :
    (text : List ℕ) (rows : List Row) (before : List Line36) (i : ℕ) (d : Row) (refusal : ParseRefusal) (fault : AlmFault) → i < length rows
    → parse_line text (get_or rows i d) ≡ Err refusal → read_lines text before (drop i rows) ≡ read_lines text [] rows
    → fault ≡ fault_of (get_or rows i d) refusal → IsFaultOf fault (read_lines text [] rows)
told_here text rows before i d refusal fault within e whole refusal_at_token =
    let all : read_lines text [] rows ≡ Err (fault_of (get_or rows i d) refusal) = sym whole ∙ read_row text before rows i d within ∙ ap (lines_after_row text (get_or rows i d) before (λ more. read_lines text more (drop (i + 1) rows))) e in
    subst (λ f. IsFaultOf f (read_lines text [] rows)) (sym refusal_at_token) (refuses_told (get_or rows i d) refusal (read_lines text [] rows) all)

-- a line is the last that is parsed
pub last_here :
    (text : List ℕ) (rows : List Row) (before new : List Line36) (i : ℕ) (d : Row) (line : Line36) → i < length rows
    → parse_line text (get_or rows i d) ≡ Ok line → is_end_operation text line.op ≡ true
    → read_lines text before (drop i rows) ≡ read_lines text [] rows → new ≡ before ++ line ∷ []
    → read_lines text [] rows ≡ Ok new
last_here text rows before new i d line within e last whole grown =
    sym whole ∙ read_row text before rows i d within ∙ ap (lines_after_row text (get_or rows i d) before (λ more. read_lines text more (drop (i + 1) rows))) e ∙ ap (λ b. cond b (Ok (before ++ line ∷ [])) (read_lines text (before ++ line ∷ []) (drop (i + 1) rows))) last ∙ ap (λ more. ok_lines more) (sym grown)

-- others follow it
pub next_here :
    (text : List ℕ) (rows : List Row) (before new : List Line36) (i : ℕ) (d : Row) (line : Line36) → i < length rows
    → parse_line text (get_or rows i d) ≡ Ok line → is_end_operation text line.op ≡ false
    → read_lines text before (drop i rows) ≡ read_lines text [] rows → new ≡ before ++ line ∷ []
    → read_lines text new (drop (i + 1) rows) ≡ read_lines text [] rows
next_here text rows before new i d line within e last whole grown =
    ap (λ more. read_lines text more (drop (i + 1) rows)) grown ∙ sym (ap (λ b. cond b (Ok (before ++ line ∷ [])) (read_lines text (before ++ line ∷ []) (drop (i + 1) rows))) last) ∙ sym (ap (lines_after_row text (get_or rows i d) before (λ more. read_lines text more (drop (i + 1) rows))) e) ∙ sym (read_row text before rows i d within) ∙ whole

pub read_all :
    (text : List ℕ) (before : List Line36) (rows : List Row) (i : ℕ) → length rows ≤ i → read_lines text before (drop i rows) ≡ Ok before
unfolding read_lines
read_all text before rows i past = rw (drop_of_length-le rows past) refl

with_refused : (text : List ℕ) (fault : AlmFault) → read_lines text [] (rows_of text) ≡ Err fault → source_of_text text ≡ Err fault
unfolding source_of_text
with_refused text fault e = ap (source_with_lines text) e

-- the fault of the lines is that of the source
pub refuses_all : (text : List ℕ) (fault : AlmFault) → IsFaultOf fault (read_lines text [] (rows_of text)) → IsFaultOf fault (source_of_text text)
refuses_all text NoMemory h = tt
refuses_all text (E1 line column) h = with_refused text (E1 line column) h
refuses_all text (E2 line column) h = with_refused text (E2 line column) h
refuses_all text (E3 line column) h = with_refused text (E3 line column) h
refuses_all text (E4 line column) h = with_refused text (E4 line column) h
refuses_all text (E5 line column) h = with_refused text (E5 line column) h
refuses_all text (E6 line column) h = with_refused text (E6 line column) h
refuses_all text (E7 line column) h = with_refused text (E7 line column) h
refuses_all text (E8 line column) h = with_refused text (E8 line column) h
