-- A bare image as the code reads it, line by line. It is proved that this gives the image of the
-- grammar.
use Rattle.std.specs.Prelude.{ℕ, ◌≡◌, ◌+◌, nat_le, List, [], length, Option, Some, None}
use Rattle.std.specs.Prelude.{Result, Ok, Err}
use Rattle.std.specs.List.{filter_map}
use Rattle.m36_image.specs.declared.refusal.ImageCode.{ImageCode}
use Rattle.m36_image.specs.declared.refusal.Refusal.{Refusal}
use Rattle.m36_text.specs.Lines.{first_present}
use Rattle.m36_image.specs.PlacedWords.{PlacedWords}
use Rattle.m36_image.specs.BareImage.{at_line, end_of_at_line_by, at_codes, header_count}
use Rattle.m36_image.specs.ImageState.{written_at, written_all}

-- An `at` line that must not write an address below `next`: its code, or the address after its
-- last word.
abbrev pub end_of_at_line : ℕ → ℕ → Option PlacedWords → Result ℕ ImageCode
end_of_at_line size next line = end_of_at_line_by size (nat_le next) line

-- core with the words of a line written
abbrev pub with_placed : List ℕ → Option PlacedWords → List ℕ
with_placed core None = core
with_placed core (Some p) = written_at core p.first p.words

-- What the `at` lines of a file did to a core: all of them were written, or the first one with a
-- code is reported.
abbrev pub AtLinesResult : Result (Unit {0}) Refusal → List ℕ → List ℕ → List (Option (List ℕ))
    → Type 0
AtLinesResult (Ok done) old new lines =
    (first_present (header_count + 1) (at_codes (length old) [] lines) ≡ None)
    × (new ≡ written_all old (filter_map at_line lines))
AtLinesResult (Err refusal) old new lines =
    first_present (header_count + 1) (at_codes (length old) [] lines)
    ≡ Some (refusal.line, refusal.code)
