-- The first line of a text of processes.
use Rattle.std.proofs.Common.{◌≡◌, ℕ, List, [], ◌∷◌, Option, Some, Err}
use Rattle.m36_text.specs.Lines.{unended_line, words_of, line_at, first_present}
use Rattle.m36_image.proofs.Headers.{cut_none}
use Rattle.m36_image.specs.BareImage.{core_line, frames_of_core_line}
use Rattle.m36_image.specs.declared.refusal.ImageCode.{ImageCode}
use Rattle.m36_procs.specs.ProcsFile.{core_code}
use Rattle.m36_procs.specs.declared.fault.ProcsCode.TheVariants.{P1}

-- the first line is missing
pub missing_first : (lines : List (Option (List ℕ))) (text : List ℕ) → lines ≡ unended_line text → first_present 1 (core_code (core_line (line_at lines 1)) ∷ []) ≡ Some (1, P1)
unfolding first_present
missing_first lines text e = rw e (rw (cut_none text))

-- the first line has a code
pub first_code :
    (lines more : List (Option (List ℕ))) (line : List ℕ) (code : ImageCode)
    → lines ≡ Some line ∷ more → frames_of_core_line (words_of line) ≡ Err code
    → first_present 1 (core_code (core_line (line_at lines 1)) ∷ []) ≡ Some (1, P1)
unfolding first_present
first_code lines more line code e c = rw (e, c)

pub ruleset beginning = (missing_first, first_code)
