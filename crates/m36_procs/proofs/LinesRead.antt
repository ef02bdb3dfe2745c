-- How far the lines after the first have been read.
use Rattle.std.proofs.Common.{◌≡◌, ℕ, ◌+◌, ◌<◌, true, false, cond, List, [], ◌∷◌, ◌++◌, length, Option, Some, None, Result, Ok, Err, refl, sym, ap, ◌∙◌, arith, append_assoc}
use Rattle.std.specs.Result.{result_err}
use Rattle.std.proofs.lemmas.List.{append-nil}
use Rattle.m36_text.specs.Lines.{unended_line, words_of, first_present}
use Rattle.m36_image.specs.PlacedWords.{PlacedWords}
use Rattle.m36_image.specs.ImageState.{written_at, written_all}
use Rattle.m36_procs.specs.ProcsFile.{line_in, line_of, ParseState, state_after_line, state_or_previous, codes_from, may_end, process_of, placed_of, turns_of, processes_in, placed_in, turns_in}
use Rattle.m36_procs.specs.ReaderSays.{parse_state_of, TakeResult, TookLine, IsReaderInvariant}
use Rattle.m36_procs.specs.ReadingSays.{IsFirstFault, TookLines}
use Rattle.m36_procs.specs.declared.fault.ProcsCode.{ProcsCode}
use Rattle.m36_procs.specs.declared.fault.ProcsCode.TheVariants.{P1, P2}
use Rattle.m36_procs.specs.declared.fault.LineFault.{LineFault}
use Rattle.m36_procs.specs.declared.fault.LineFault.TheVariants.{Refused, NoMemory}
use Rattle.m36_procs.specs.declared.reader.Reader.{Reader}
use Rattle.m36_procs.specs.ProcsResult.{fault_at, line_fault_at}

-- Of the lines `all` the lines `left` are left; the next is line n. The lines before it changed `start` to `r`.
pub record ReadLines (start : Reader) (all : List (Option (List ℕ))) (r : Reader) (n : ℕ) (left : List (Option (List ℕ))) : Type 0 where
  pub fault : first_present n (codes_from (parse_state_of r) left) ≡ first_present 2 (codes_from (parse_state_of start) all)
  pub regs : r.regs.items ++ processes_in left ≡ start.regs.items ++ processes_in all
  pub core : written_all r.core (placed_in left) ≡ written_all start.core (placed_in all)
  pub schedule : r.schedule.items ++ turns_in left ≡ start.schedule.items ++ turns_in all

-- at the beginning
pub lines_start : (start : Reader) (all : List (Option (List ℕ))) → ReadLines start all start 2 all
lines_start start all = record { fault = refl; regs = refl; core = refl; schedule = refl }

written_on :
    (front back : List PlacedWords) (core : List ℕ)
    → written_all core (front ++ back) ≡ written_all (written_all core front) back
written_on [] back core = refl
written_on (p ∷ front) back core = written_on front back (written_at core p.first p.words)

-- the next line is judged first
judged_first :
    (s later : ParseState) (n : ℕ) (line : Option (List ℕ)) (lines : List (Option (List ℕ)))
    → state_after_line s (line_of line) ≡ Ok later
    → first_present n (codes_from s (line ∷ lines)) ≡ first_present (n + 1) (codes_from later lines)
unfolding first_present codes_from
judged_first s later n line lines e =
    ap (λ (r : Result ParseState ProcsCode). first_present n (result_err r ∷ codes_from (state_or_previous s r) lines)) e

judged_code :
    (s : ParseState) (n : ℕ) (line : Option (List ℕ)) (lines : List (Option (List ℕ))) (code : ProcsCode)
    → state_after_line s (line_of line) ≡ Err code
    → first_present n (codes_from s (line ∷ lines)) ≡ Some (n, code)
unfolding first_present codes_from
judged_code s n line lines code e =
    ap (λ (r : Result ParseState ProcsCode). first_present n (result_err r ∷ codes_from (state_or_previous s r) lines)) e

-- one more line was taken
pub lines_more :
    (start r new : Reader) (all left lines : List (Option (List ℕ))) (n : ℕ) (line : List ℕ)
    → ReadLines start all r n left
    → left ≡ Some line ∷ lines
    → TookLine r new (line_in (words_of line))
    → ReadLines start all new (n + 1) lines
lines_more start r new all left lines n line so_far begins took = record {
  fault = sym (judged_first (parse_state_of r) (parse_state_of new) n (Some line) lines took.stands) ∙ ap (λ l. first_present n (codes_from (parse_state_of r) l)) (sym begins) ∙ so_far.fault;
  regs = ap (λ x. x ++ processes_in lines) took.regs ∙ append_assoc r.regs.items (process_of (line_in (words_of line))) (processes_in lines) ∙ ap (λ l. r.regs.items ++ processes_in l) (sym begins) ∙ so_far.regs;
  core = ap (λ c. written_all c (placed_in lines)) took.core ∙ sym (written_on (placed_of (line_in (words_of line))) (placed_in lines) r.core) ∙ ap (λ l. written_all r.core (placed_in l)) (sym begins) ∙ so_far.core;
  schedule = ap (λ x. x ++ turns_in lines) took.schedule ∙ append_assoc r.schedule.items (turns_of (line_in (words_of line))) (turns_in lines) ∙ ap (λ l. r.schedule.items ++ turns_in l) (sym begins) ∙ so_far.schedule;
}

told_fault : (n line : ℕ) (code : ProcsCode) (codes : List (Option ProcsCode)) → first_present n codes ≡ Some (line, code) → IsFirstFault (fault_at (line, code)) n codes
told_fault n line P1 codes e = e
told_fault n line P2 codes e = e

-- the next line has a code
lines_code :
    (start r : Reader) (all left lines : List (Option (List ℕ))) (n : ℕ) (line : List ℕ) (code : ProcsCode)
    → ReadLines start all r n left
    → left ≡ Some line ∷ lines
    → state_after_line (parse_state_of r) (line_in (words_of line)) ≡ Err code
    → IsFirstFault (fault_at (n, code)) 2 (codes_from (parse_state_of start) all)
lines_code start r all left lines n line code so_far begins fails =
    told_fault 2 n code (codes_from (parse_state_of start) all) (sym so_far.fault ∙ ap (λ l. first_present n (codes_from (parse_state_of r) l)) begins ∙ judged_code (parse_state_of r) n (Some line) lines code fails)

-- the next line was not taken
pub lines_fault :
    (start r new : Reader) (all left lines : List (Option (List ℕ))) (n : ℕ) (line : List ℕ) (fault : LineFault)
    → ReadLines start all r n left
    → left ≡ Some line ∷ lines
    → TakeResult (Err fault) r new (line_in (words_of line))
    → IsFirstFault (line_fault_at n fault) 2 (codes_from (parse_state_of start) all)
lines_fault start r new all left lines n line (Refused code) so_far begins fails =
    lines_code start r all left lines n line code so_far begins fails
lines_fault start r new all left lines n line NoMemory so_far begins fails = tt

other_code : (s : ParseState) (n : ℕ) (text : List ℕ) → 0 < length text → first_present n (codes_from s (unended_line text)) ≡ Some (n, P1)
unfolding first_present codes_from state_after_line
other_code s n [] some = absurd (omega arith)
other_code s n (b ∷ rest) some = refl

-- the next line has no line feed
pub lines_cut :
    (start r : Reader) (text : List ℕ) (all left : List (Option (List ℕ))) (n : ℕ)
    → ReadLines start all r n left
    → left ≡ unended_line text
    → 0 < length text
    → first_present 2 (codes_from (parse_state_of start) all) ≡ Some (n, P1)
lines_cut start r text all left n so_far cut some =
    sym so_far.fault ∙ ap (λ l. first_present n (codes_from (parse_state_of r) l)) cut ∙ other_code (parse_state_of r) n text some

ends_fine : (s : ParseState) (n : ℕ) → may_end s.stage ≡ true → first_present n (codes_from s []) ≡ None
unfolding first_present codes_from
ends_fine s n e = ap (λ b. first_present n (cond b None (Some P1) ∷ [])) e

ends_early : (s : ParseState) (n : ℕ) → may_end s.stage ≡ false → first_present n (codes_from s []) ≡ Some (n, P1)
unfolding first_present codes_from
ends_early s n e = ap (λ b. first_present n (cond b None (Some P1) ∷ [])) e

-- no line is left, and none is missing
pub lines_done :
    (start r : Reader) (all left : List (Option (List ℕ))) (n : ℕ)
    → ReadLines start all r n left → left ≡ [] → may_end r.stage ≡ true → IsReaderInvariant r → TookLines start r all
lines_done start r all left n so_far none ends fits = record {
  fine = sym so_far.fault ∙ ap (λ l. first_present n (codes_from (parse_state_of r) l)) none ∙ ends_fine (parse_state_of r) n ends;
  regs = sym (append-nil r.regs.items) ∙ ap (λ l. r.regs.items ++ processes_in l) (sym none) ∙ so_far.regs;
  core = ap (λ l. written_all r.core (placed_in l)) (sym none) ∙ so_far.core;
  schedule = sym (append-nil r.schedule.items) ∙ ap (λ l. r.schedule.items ++ turns_in l) (sym none) ∙ so_far.schedule;
  fits = fits;
  some = fits.some ends;
}

-- no line is left, and one is missing
pub lines_missing :
    (start r : Reader) (all left : List (Option (List ℕ))) (n : ℕ)
    → ReadLines start all r n left → left ≡ [] → may_end r.stage ≡ false
    → IsFirstFault (fault_at (n, P1)) 2 (codes_from (parse_state_of start) all)
lines_missing start r all left n so_far none ends =
    told_fault 2 n P1 (codes_from (parse_state_of start) all) (sym so_far.fault ∙ ap (λ l. first_present n (codes_from (parse_state_of r) l)) none ∙ ends_early (parse_state_of r) n ends)

pub ruleset reading = (lines_start, lines_more, lines_fault, lines_cut, lines_done, lines_missing)
