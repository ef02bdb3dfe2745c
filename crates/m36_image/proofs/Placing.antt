-- How far the `at` lines of a bare image have been written into core.
use Rattle.std.proofs.Common.{◌≡◌, ℕ, ◌+◌, ◌<◌, List, [], ◌∷◌, length, Option, Some, None, Result, Ok, Err, refl, sym, ap, ◌∙◌, arith}
use Rattle.std.specs.List.{filter_map, cons_option}
use Rattle.m36_image.specs.declared.refusal.ImageCode.{ImageCode}
use Rattle.m36_image.specs.declared.refusal.ImageCode.TheVariants.{I1}
use Rattle.m36_image.specs.PlacedWords.{PlacedWords}
use Rattle.m36_text.specs.Lines.{words_of, unended_line, first_present}
use Rattle.m36_image.specs.BareImage.{at_words, at_line, at_codes}
use Rattle.m36_image.specs.ImageState.{written_all}
use Rattle.m36_image.specs.LineByLine.{end_of_at_line, with_placed}
use Rattle.m36_image.proofs.LinesInTurn.{fault_in_turn, fault_or, end_or, turn_is_fault, ends_nowhere}

-- `left` is what is left of the lines `all`; the next is line n. Core was `start` and is `core`.
pub record Placing (start : List ℕ) (all : List (Option (List ℕ))) (core : List ℕ) (n next : ℕ) (left : List (Option (List ℕ))) : Type 0 where
  pub fault : fault_in_turn (length start) n next left ≡ first_present 4 (at_codes (length start) [] all)
  pub words : written_all core (filter_map at_line left) ≡ written_all start (filter_map at_line all)
  pub len : length core ≡ length start

-- at the start
pub placing_starts : (start : List ℕ) (all : List (Option (List ℕ))) → Placing start all start 4 0 all
placing_starts start all = record { fault = turn_is_fault (length start) 4 all 0 [] ends_nowhere; words = refl; len = refl }

written_more :
    (core : List ℕ) (o : Option PlacedWords) (placed : List PlacedWords)
    → written_all core (cons_option o placed) ≡ written_all (with_placed core o) placed
written_more core None placed = refl
written_more core (Some p) placed = refl

turn_begins :
    (size n next : ℕ) (line : Option (List ℕ)) (lines : List (Option (List ℕ))) (r : Result ℕ ImageCode)
    → end_of_at_line size next (at_line line) ≡ r
    → fault_in_turn size n next (line ∷ lines) ≡ fault_or n r (fault_in_turn size (n + 1) (end_or next r) lines)
unfolding fault_in_turn
turn_begins size n next line lines r e = ap (λ r. fault_or n r (fault_in_turn size (n + 1) (end_or next r) lines)) e

-- one more line was written
pub placing_more :
    (start core new : List ℕ) (all left lines : List (Option (List ℕ))) (n next end : ℕ) (line : List ℕ)
    → Placing start all core n next left
    → left ≡ Some line ∷ lines
    → end_of_at_line (length core) next (at_words (words_of line)) ≡ Ok end
    → new ≡ with_placed core (at_words (words_of line))
    → length new ≡ length core
    → Placing start all new (n + 1) end lines
placing_more start core new all left lines n next end line so_far begins ends put kept = record {
  fault = sym (turn_begins (length start) n next (Some line) lines (Ok end) (ap (λ s. end_of_at_line s next (at_words (words_of line))) (sym so_far.len) ∙ ends)) ∙ ap (fault_in_turn (length start) n next) (sym begins) ∙ so_far.fault;
  words = ap (λ c. written_all c (filter_map at_line lines)) put ∙ sym (written_more core (at_words (words_of line)) (filter_map at_line lines)) ∙ ap (λ t. written_all core (filter_map at_line t)) (sym begins) ∙ so_far.words;
  len = kept ∙ so_far.len;
}

-- the next line has a code
pub placing_code :
    (start core : List ℕ) (all left lines : List (Option (List ℕ))) (n next : ℕ) (line : List ℕ) (code : ImageCode)
    → Placing start all core n next left
    → left ≡ Some line ∷ lines
    → end_of_at_line (length core) next (at_words (words_of line)) ≡ Err code
    → first_present 4 (at_codes (length start) [] all) ≡ Some (n, code)
placing_code start core all left lines n next line code so_far begins fails =
    sym so_far.fault ∙ ap (fault_in_turn (length start) n next) begins ∙ turn_begins (length start) n next (Some line) lines (Err code) (ap (λ s. end_of_at_line s next (at_words (words_of line))) (sym so_far.len) ∙ fails)

turn_cut :
    (size n next : ℕ) (text : List ℕ)
    → 0 < length text → fault_in_turn size n next (unended_line text) ≡ Some (n, I1)
unfolding fault_in_turn
turn_cut size n next [] some = absurd (omega arith)
turn_cut size n next (b ∷ rest) some = refl

-- the next line has no line feed
pub placing_cut :
    (start core text : List ℕ) (all left : List (Option (List ℕ))) (n next : ℕ)
    → Placing start all core n next left
    → left ≡ unended_line text
    → 0 < length text
    → first_present 4 (at_codes (length start) [] all) ≡ Some (n, I1)
placing_cut start core text all left n next so_far cut some =
    sym so_far.fault ∙ ap (fault_in_turn (length start) n next) cut ∙ turn_cut (length start) n next text some

turn_ends : (size n next : ℕ) → fault_in_turn size n next [] ≡ None
unfolding fault_in_turn
turn_ends size n next = refl

-- no line has a code
pub placing_fine :
    (start core : List ℕ) (all left : List (Option (List ℕ))) (n next : ℕ)
    → Placing start all core n next left → left ≡ [] → first_present 4 (at_codes (length start) [] all) ≡ None
placing_fine start core all left n next so_far none =
    sym so_far.fault ∙ ap (fault_in_turn (length start) n next) none ∙ turn_ends (length start) n next

-- all are written
pub placing_done :
    (start core : List ℕ) (all left : List (Option (List ℕ))) (n next : ℕ)
    → Placing start all core n next left → left ≡ [] → core ≡ written_all start (filter_map at_line all)
placing_done start core all left n next so_far none =
    ap (λ t. written_all core (filter_map at_line t)) (sym none) ∙ so_far.words

pub ruleset placing = (placing_starts, placing_more, placing_code, placing_cut, placing_fine, placing_done)
