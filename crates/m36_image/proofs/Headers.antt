-- The first three lines of a bare image, read one after the other.
use Rattle.std.proofs.Common.{◌≡◌, ℕ, List, [], ◌∷◌, Option, Some, None, Ok, Err, refl}
use Rattle.m36_word.specs.declared.pair.Pair.{Pair}
use Rattle.m36_image.specs.declared.refusal.ImageCode.{ImageCode}
use Rattle.m36_image.specs.declared.refusal.ImageCode.TheVariants.{I1}
use Rattle.m36_text.specs.Lines.{lines_of, unended_line, words_of, line_at, first_present}
use Rattle.m36_model.specs.Fields.{PprFields}
use Rattle.m36_image.specs.BareImage.{frames_of_core_line, dbr_words, start_words, header_codes}
use Rattle.m36_image.specs.HeaderFields.{IsHeader}

pub cut_none : (text : List ℕ) → line_at (unended_line text) 1 ≡ None
cut_none [] = refl
cut_none (b ∷ rest) = refl

-- the first line is missing
pub missing_first : (lines : List (Option (List ℕ))) (text : List ℕ) → lines ≡ unended_line text → first_present 1 (header_codes lines) ≡ Some (1, I1)
unfolding first_present
missing_first lines text e = rw e (rw (cut_none text))

-- the first line has a code
pub first_code :
    (lines more : List (Option (List ℕ))) (line : List ℕ) (code : ImageCode)
    → lines ≡ Some line ∷ more → frames_of_core_line (words_of line) ≡ Err code
    → first_present 1 (header_codes lines) ≡ Some (1, code)
unfolding first_present
first_code lines more line code e c = rw (e, c)

-- the second line is missing, or does not have its form
pub missing_second :
    (lines more : List (Option (List ℕ))) (line text : List ℕ) (frames : ℕ)
    → lines ≡ Some line ∷ more → frames_of_core_line (words_of line) ≡ Ok frames → more ≡ unended_line text
    → first_present 1 (header_codes lines) ≡ Some (2, I1)
unfolding first_present
missing_second lines more line text frames e c f = rw (e, c, f) (rw (cut_none text))

pub second_form :
    (lines more rest : List (Option (List ℕ))) (line second : List ℕ) (frames : ℕ)
    → lines ≡ Some line ∷ more → frames_of_core_line (words_of line) ≡ Ok frames
    → more ≡ Some second ∷ rest → dbr_words (words_of second) ≡ None
    → first_present 1 (header_codes lines) ≡ Some (2, I1)
unfolding first_present
second_form lines more rest line second frames e c f d = rw (e, c, f, d)

-- the third line is missing, or does not have its form
pub missing_third :
    (lines more rest : List (Option (List ℕ))) (line second text : List ℕ) (frames : ℕ) (dbr : Pair)
    → lines ≡ Some line ∷ more → frames_of_core_line (words_of line) ≡ Ok frames
    → more ≡ Some second ∷ rest → dbr_words (words_of second) ≡ Some dbr
    → rest ≡ unended_line text
    → first_present 1 (header_codes lines) ≡ Some (3, I1)
unfolding first_present
missing_third lines more rest line second text frames dbr e c f d g = rw (e, c, f, d, g) (rw (cut_none text))

pub third_form :
    (lines more rest last : List (Option (List ℕ))) (line second third : List ℕ) (frames : ℕ) (dbr : Pair)
    → lines ≡ Some line ∷ more → frames_of_core_line (words_of line) ≡ Ok frames
    → more ≡ Some second ∷ rest → dbr_words (words_of second) ≡ Some dbr
    → rest ≡ Some third ∷ last → start_words (words_of third) ≡ None
    → first_present 1 (header_codes lines) ≡ Some (3, I1)
unfolding first_present
third_form lines more rest last line second third frames dbr e c f d g s = rw (e, c, f, d, g, s)

-- all three have their forms
pub header_read :
    (lines more rest : List (Option (List ℕ))) (line second third text : List ℕ) (frames : ℕ) (dbr : Pair) (start : PprFields)
    → lines ≡ Some line ∷ more → frames_of_core_line (words_of line) ≡ Ok frames
    → more ≡ Some second ∷ rest → dbr_words (words_of second) ≡ Some dbr
    → rest ≡ Some third ∷ lines_of text → start_words (words_of third) ≡ Some start
    → IsHeader (record { dbr = dbr; start = start; frames = frames }) text lines
header_read lines more rest line second third text frames dbr start e c f d g s = record {
  frames = rw (e, c);
  dbr = rw (e, f, d);
  start = rw (e, f, g, s);
  others = rw (e, f, g);
}
