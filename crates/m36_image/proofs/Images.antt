-- The image that a file describes, from its header and its `at` lines.
use Rattle.std.proofs.Common.{◌≡◌, ℕ, ◌+◌, ◌*◌, List, [], ◌∷◌, ◌++◌, length, drop, replicate, Option, Some, None, Result, Ok, Err, sym, ap, ◌∙◌}
use Rattle.std.specs.Prelude.{unwrap_or}
use Rattle.std.specs.List.{filter_map}
use Rattle.std.specs.Result.{result_err, result_unwrap_or}
use Rattle.std.proofs.Math.ListN.{length-replicate}
use Rattle.m36_word.specs.declared.pair.Pair.{Pair}
use Rattle.m36_model.specs.Fields.{PprFields}
use Rattle.m36_model.specs.Store.{State}
use Rattle.m36_image.specs.declared.refusal.ImageCode.{ImageCode}
use Rattle.m36_image.specs.declared.refusal.Refusal.{Refusal}
use Rattle.m36_image.specs.declared.header.Header.{Header}
use Rattle.m36_image.specs.PlacedWords.{PlacedWords}
use Rattle.m36_text.specs.Lines.{lines_of, line_at, first_present}
use Rattle.m36_text.proofs.Telling.{told_earlier}
use Rattle.m36_image.specs.BareImage.{core_line, dbr_line, form_code, start_line, at_line, at_codes, frames_of, header_codes, line_codes, image_in, image_by, image_of}
use Rattle.m36_image.specs.ImageState.{written_all, regs_of, state_of, state_by, state_of_text}
use Rattle.m36_image.specs.HeaderFields.{IsHeader}

pub header_refused :
    (text : List ℕ) (refusal : Refusal)
    → first_present 1 (header_codes (lines_of text)) ≡ Some (refusal.line, refusal.code) → state_of_text text ≡ Err refusal
unfolding state_of_text image_of
header_refused text refusal e =
    ap (λ f. state_by (image_by f (image_in (lines_of text)))) (told_earlier 1 (header_codes (lines_of text)) (at_codes (1024 * frames_of (lines_of text)) [] (drop 3 (lines_of text))) (refusal.line, refusal.code) e)

-- if the first three lines have no code, the first line with a code is one of the others
header_fine :
    (core : Result ℕ ImageCode) (dbr : Option Pair) (start : Option PprFields) (more : List (Option ImageCode)) (n : ℕ) (d : Pair) (s : PprFields)
    → core ≡ Ok n → dbr ≡ Some d → start ≡ Some s
    → first_present 1 (result_err core ∷ form_code dbr ∷ form_code start ∷ more) ≡ first_present 4 more
unfolding first_present
header_fine core dbr start more n d s e f g = rw (e, f, g)

pub frames_are : (lines : List (Option (List ℕ))) (n : ℕ) → core_line (line_at lines 1) ≡ Ok n → frames_of lines ≡ n
frames_are lines n e = ap (λ r. result_unwrap_or r 0) e

size_is :
    (lines : List (Option (List ℕ))) (start : List ℕ) (n : ℕ)
    → core_line (line_at lines 1) ≡ Ok n → start ≡ replicate (1024 * n) 0 → 1024 * frames_of lines ≡ length start
size_is lines start n e zero =
    ap (λ f. 1024 * f) (frames_are lines n e) ∙ sym (length-replicate (1024 * n) 0) ∙ ap length (sym zero)

lines_fault :
    (text rest start : List ℕ) (header : Header)
    → IsHeader header rest (lines_of text) → start ≡ replicate (1024 * header.frames) 0
    → first_present 1 (line_codes (lines_of text)) ≡ first_present 4 (at_codes (length start) [] (lines_of rest))
lines_fault text rest start header is zero =
    header_fine (core_line (line_at (lines_of text) 1)) (dbr_line (line_at (lines_of text) 2)) (start_line (line_at (lines_of text) 3)) (at_codes (1024 * frames_of (lines_of text)) [] (drop 3 (lines_of text))) header.frames header.dbr header.start is.frames is.dbr is.start ∙ ap (λ s. first_present 4 (at_codes s [] (drop 3 (lines_of text)))) (size_is (lines_of text) start header.frames is.frames zero) ∙ ap (λ l. first_present 4 (at_codes (length start) [] l)) is.others

pub lines_refused :
    (text rest start : List ℕ) (header : Header) (refusal : Refusal)
    → IsHeader header rest (lines_of text) → start ≡ replicate (1024 * header.frames) 0
    → first_present 4 (at_codes (length start) [] (lines_of rest)) ≡ Some (refusal.line, refusal.code)
    → state_of_text text ≡ Err refusal
unfolding state_of_text image_of
lines_refused text rest start header refusal is zero e =
    ap (λ f. state_by (image_by f (image_in (lines_of text)))) (lines_fault text rest start header is zero ∙ e)

-- the state, from its parts
abbrev pub state_from : Pair → PprFields → List ℕ → List PlacedWords → Result (State (List ℕ)) Refusal
state_from dbr start core placed = Ok (record { regs = regs_of dbr start; store = written_all core placed })

abbrev pub ok_state : State (List ℕ) → Result (State (List ℕ)) Refusal
ok_state s = Ok s

parts_are :
    (lines : List (Option (List ℕ))) (rest start : List ℕ) (header : Header)
    → IsHeader header rest lines → start ≡ replicate (1024 * header.frames) 0
    → state_by (Ok (image_in lines)) ≡ state_from header.dbr header.start start (filter_map at_line (lines_of rest))
unfolding state_of
parts_are lines rest start header is zero =
    ap (λ d. state_from (unwrap_or d (record { even = 0; odd = 0 })) (unwrap_or (start_line (line_at lines 3)) (record { psr = 0; prr = 0; ic = 0 })) (replicate (1024 * frames_of lines) 0) (filter_map at_line (drop 3 lines))) is.dbr ∙ ap (λ s. state_from header.dbr (unwrap_or s (record { psr = 0; prr = 0; ic = 0 })) (replicate (1024 * frames_of lines) 0) (filter_map at_line (drop 3 lines))) is.start ∙ ap (λ n. state_from header.dbr header.start (replicate (1024 * n) 0) (filter_map at_line (drop 3 lines))) (frames_are lines header.frames is.frames) ∙ ap (λ c. state_from header.dbr header.start c (filter_map at_line (drop 3 lines))) (sym zero) ∙ ap (λ l. state_from header.dbr header.start start (filter_map at_line l)) is.others

pub image_accepted :
    (text rest start core : List ℕ) (header : Header)
    → IsHeader header rest (lines_of text) → start ≡ replicate (1024 * header.frames) 0
    → first_present 4 (at_codes (length start) [] (lines_of rest)) ≡ None
    → core ≡ written_all start (filter_map at_line (lines_of rest))
    → state_of_text text ≡ Ok (record { regs = regs_of header.dbr header.start; store = core })
unfolding state_of_text image_of
image_accepted text rest start core header is zero e written =
    ap (λ f. state_by (image_by f (image_in (lines_of text)))) (lines_fault text rest start header is zero ∙ e) ∙ parts_are (lines_of text) rest start header is zero ∙ ap (λ c. ok_state (record { regs = regs_of header.dbr header.start; store = c })) (sym written)

pub ruleset images = (header_refused, lines_refused, image_accepted)
