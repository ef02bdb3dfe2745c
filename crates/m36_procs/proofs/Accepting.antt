-- The result of parsing a text of processes, by its first line and the lines after it.
use Rattle.std.proofs.Common.{◌≡◌, ℕ, ◌*◌, List, [], ◌∷◌, ◌++◌, drop, replicate, Option, Some, Result, Ok, Err, sym, ap, ◌∙◌}
use Rattle.m36_model.specs.Registers.{RegsFields}
use Rattle.m36_text.specs.Lines.{lines_of, line_at, first_present}
use Rattle.m36_text.specs.Results.{value_unless}
use Rattle.m36_text.proofs.Telling.{told_earlier}
use Rattle.m36_image.proofs.Images.{frames_are}
use Rattle.m36_image.specs.BareImage.{core_line, frames_of}
use Rattle.m36_image.specs.ImageState.{written_all}
use Rattle.m36_image.specs.declared.refusal.ImageCode.{ImageCode}
use Rattle.m36_procs.specs.ProcsFields.{ProcsFields}
use Rattle.m36_procs.specs.ProcsFile.{codes_from, core_code, initial_parse_state, line_codes, processes_in, placed_in, turns_in, procs_in, procs_of_text}
use Rattle.m36_procs.specs.ProcsResult.{ProcsResult}
use Rattle.m36_procs.specs.ReaderSays.{parse_state_of}
use Rattle.m36_procs.specs.ReadingSays.{IsFirstFault, FirstLineWasRead, TookLines}
use Rattle.m36_procs.specs.declared.fault.ProcsCode.{ProcsCode}
use Rattle.m36_procs.specs.declared.fault.ProcsCode.TheVariants as code
use Rattle.m36_procs.specs.declared.fault.ProcsFault.{ProcsFault}
use Rattle.m36_procs.specs.declared.fault.ProcsFault.TheVariants.{P1, P2, NoMemory}
use Rattle.m36_procs.specs.declared.reader.Reader.{Reader}

given_told :
    (text : List ℕ) (told : ℕ × ProcsCode)
    → first_present 1 (line_codes (lines_of text)) ≡ Some told → procs_of_text text ≡ Err told
unfolding procs_of_text
given_told text told e =
    ap (λ f. value_unless f (procs_in (1024 * frames_of (lines_of text)) (drop 1 (lines_of text)))) e

says_told :
    (text : List ℕ) (fault : ProcsFault) (n : ℕ) (codes : List (Option ProcsCode))
    → ((told : ℕ × ProcsCode) → first_present n codes ≡ Some told → first_present 1 (line_codes (lines_of text)) ≡ Some told)
    → IsFirstFault fault n codes → ProcsResult (Err fault) (procs_of_text text)
says_told text (P1 line) n codes on told = given_told text (line, code.P1) (on (line, code.P1) told)
says_told text (P2 line) n codes on told = given_told text (line, code.P2) (on (line, code.P2) told)
says_told text NoMemory n codes on told = tt

-- the first line is refused
pub first_refused :
    (text : List ℕ) (fault : ProcsFault)
    → IsFirstFault fault 1 (core_code (core_line (line_at (lines_of text) 1)) ∷ []) → ProcsResult (Err fault) (procs_of_text text)
first_refused text fault told =
    says_told text fault 1 (core_code (core_line (line_at (lines_of text) 1)) ∷ []) (λ here e. told_earlier 1 (core_code (core_line (line_at (lines_of text) 1)) ∷ []) (codes_from (initial_parse_state (1024 * frames_of (lines_of text))) (drop 1 (lines_of text))) here e) told

fine_first :
    (read : Result ℕ ImageCode) (n : ℕ) (codes : List (Option ProcsCode))
    → read ≡ Ok n → first_present 1 (core_code read ∷ codes) ≡ first_present 2 codes
unfolding first_present
fine_first read n codes e = rw e

-- the first code of the text is that of the lines after the first line
codes_behind :
    (text rest : List ℕ) (r : Reader)
    → FirstLineWasRead r rest (lines_of text)
    → first_present 1 (line_codes (lines_of text)) ≡ first_present 2 (codes_from (parse_state_of r) (lines_of rest))
codes_behind text rest r begun =
    fine_first (core_line (line_at (lines_of text) 1)) begun.frames _ begun.line ∙ ap (λ n. first_present 2 (codes_from (initial_parse_state (1024 * n)) (drop 1 (lines_of text)))) (frames_are (lines_of text) begun.frames begun.line) ∙ ap (λ s. first_present 2 (codes_from s (drop 1 (lines_of text)))) (sym begun.stands) ∙ ap (λ l. first_present 2 (codes_from (parse_state_of r) l)) begun.others

-- a later line is refused
pub later_refused :
    (text rest : List ℕ) (r : Reader) (fault : ProcsFault)
    → FirstLineWasRead r rest (lines_of text)
    → IsFirstFault fault 2 (codes_from (parse_state_of r) (lines_of rest))
    → ProcsResult (Err fault) (procs_of_text text)
later_refused text rest r fault begun told =
    says_told text fault 2 (codes_from (parse_state_of r) (lines_of rest)) (λ there e. codes_behind text rest r begun ∙ e) told

-- processes and a schedule with these parts
abbrev pub procs_of : List RegsFields → List ℕ → List ℕ → ProcsFields
procs_of regs core schedule = record { state = record { regs = regs; store = core }; schedule = schedule }

-- no line is refused
pub procs_accepted :
    (text rest : List ℕ) (r new : Reader)
    → FirstLineWasRead r rest (lines_of text)
    → TookLines r new (lines_of rest)
    → procs_of_text text ≡ Ok (procs_of new.regs.items new.core new.schedule.items)
unfolding procs_of_text
procs_accepted text rest r new begun took =
    let size : 1024 * frames_of (lines_of text) ≡ 1024 * begun.frames = ap (λ n. 1024 * n) (frames_are (lines_of text) begun.frames begun.line) in
    let regs : processes_in (drop 1 (lines_of text)) ≡ new.regs.items = ap processes_in begun.others ∙ ap (λ x. x ++ processes_in (lines_of rest)) (sym begun.regs) ∙ sym took.regs in
    let core : written_all (replicate (1024 * frames_of (lines_of text)) 0) (placed_in (drop 1 (lines_of text))) ≡ new.core = ap (λ n. written_all (replicate n 0) (placed_in (drop 1 (lines_of text)))) size ∙ ap (λ l. written_all (replicate (1024 * begun.frames) 0) (placed_in l)) begun.others ∙ ap (λ c. written_all c (placed_in (lines_of rest))) (sym begun.core) ∙ sym took.core in
    let schedule : turns_in (drop 1 (lines_of text)) ≡ new.schedule.items = ap turns_in begun.others ∙ ap (λ x. x ++ turns_in (lines_of rest)) (sym begun.schedule) ∙ sym took.schedule in
    ap (λ f. value_unless f (procs_in (1024 * frames_of (lines_of text)) (drop 1 (lines_of text)))) (codes_behind text rest r begun ∙ took.fine) ∙ (λ k. Ok (procs_of (regs k) (core k) (schedule k)))

pub ruleset accepting = (first_refused, later_refused, procs_accepted)
