-- The grammar of a bare image: a text that describes the core of a machine, its descriptor segment
-- base register and where it starts.
--
--     core N          N decimal, 1 to 16384 frames of 1,024 words
--     dbr E O         two words of 12 octal digits
--     start S R I     segment, ring and word number, of 5, 1 and 6 octal digits
--     at A W ..       a core address of 8 octal digits; one to eight words of 12, from there on
--
-- Each line ends with a line feed, and the words of a line are separated by single spaces. The
-- first three lines occur once, in this order; any number of `at` lines follows.
--
-- I1 is a line that does not have its form, a missing line or a missing line feed. I2 is an N out
-- of range. I3 is an `at` line whose first address is not above every earlier address, or whose
-- last address is outside core. The first line with a code is reported, with its least code.
use Rattle.std.specs.Prelude.{ℕ, ◌+◌, ◌*◌, ◌&&◌, Bool, nat_le, nat_lt, List, [], ◌∷◌, ◌++◌}
use Rattle.std.specs.Prelude.{length, drop, codes, Option, Some, None, Result, Ok, Err, unwrap_or}
use Rattle.std.specs.Prelude.{if◌then◌else◌, option_map}
use Rattle.std.specs.List.{list_all, filter_map, range_with_len}
use Rattle.std.specs.Result.{result_err, result_unwrap_or}
use Rattle.m36_word.specs.declared.pair.Pair.{Pair}
use Rattle.m36_word.specs.Field.{frames_reached}
use Rattle.m36_text.specs.Texts.{is_text}
use Rattle.m36_text.specs.Lines.{lines_of, line_at, first_present, line_meaning}
use Rattle.m36_text.specs.Numbers.{octal_in, octal_word_in, segment_number_in, word_number_in}
use Rattle.m36_text.specs.Numbers.{core_address_in}
use Rattle.m36_text.specs.Reading.{number_read}
use Rattle.m36_text.specs.Results.{value_unless}
use Rattle.m36_text.specs.declared.reading.NumberFault.{NumberFault}
use Rattle.m36_text.specs.declared.reading.NumberFault.TheVariants.{T1, T2}
use Rattle.m36_model.specs.Fields.{PprFields}
use Rattle.m36_image.specs.declared.refusal.ImageCode.{ImageCode}
use Rattle.m36_image.specs.declared.refusal.ImageCode.TheVariants.{I1, I2, I3}
use Rattle.m36_image.specs.declared.refusal.Refusal.{Refusal}
use Rattle.m36_image.specs.PlacedWords.{PlacedWords}
use Rattle.m36_image.specs.Several.{numbers_up_to}

-- the number of frames in line 1, which may have any number of decimal digits: I1 if it is no
-- number, I2 if it is out of range
abbrev pub frames_read : Result ℕ NumberFault → Result ℕ ImageCode
frames_read (Ok n) = if nat_le 1 n then Ok n else Err I2
frames_read (Err (T1 place)) = Err I1
frames_read (Err T2) = Err I2

-- the number of frames, from the words of line 1: `core N`
abbrev pub frames_of_core_line : List (List ℕ) → Result ℕ ImageCode
frames_of_core_line (name ∷ n ∷ []) =
    if is_text (codes "core") name then frames_read (number_read 10 n frames_reached) else Err I1
frames_of_core_line _ = Err I1

-- the number of frames, from line 1; I1 if there is no such line
abbrev pub core_line : Option (List ℕ) → Result ℕ ImageCode
core_line line = line_meaning frames_of_core_line (Err I1) line

-- the two words of the descriptor segment base register, if both could be read
abbrev pub dbr_read : Option ℕ → Option ℕ → Option Pair
dbr_read (Some even) (Some odd) = Some (record { even = even; odd = odd })
dbr_read _ _ = None

-- the two words of the descriptor segment base register, from their texts
abbrev pub dbr_in : List ℕ → List ℕ → Option Pair
dbr_in even odd = dbr_read (octal_word_in even) (octal_word_in odd)

-- the two words of the descriptor segment base register, from the words of line 2: `dbr EVEN ODD`
abbrev pub dbr_words : List (List ℕ) → Option Pair
dbr_words (name ∷ even ∷ odd ∷ []) =
    if is_text (codes "dbr") name then dbr_in even odd else None
dbr_words _ = None

-- the two words of the descriptor segment base register, from line 2; None if there is no such
-- line
abbrev pub dbr_line : Option (List ℕ) → Option Pair
dbr_line line = line_meaning dbr_words None line

-- where the machine starts, if a segment, a ring and a word number could be read
abbrev pub start_read : Option ℕ → Option ℕ → Option ℕ → Option PprFields
start_read (Some seg) (Some ring) (Some word) = Some (record { psr = seg; prr = ring; ic = word })
start_read _ _ _ = None

-- where the machine starts, from the texts of these numbers
abbrev pub start_in : List ℕ → List ℕ → List ℕ → Option PprFields
start_in seg ring word =
    start_read (segment_number_in seg) (octal_in 1 ring) (word_number_in word)

-- where the machine starts, from the words of line 3: `start SEGMENT RING WORD`
abbrev pub start_words : List (List ℕ) → Option PprFields
start_words (name ∷ seg ∷ ring ∷ word ∷ []) =
    if is_text (codes "start") name then start_in seg ring word else None
start_words _ = None

-- where the machine starts, from line 3
abbrev pub start_line : Option (List ℕ) → Option PprFields
start_line line = line_meaning start_words None line

-- the words of an `at` line and the core address of the first of them, if both could be read
abbrev pub at_read : Option ℕ → Option (List ℕ) → Option PlacedWords
at_read (Some first) (Some words) = Some (record { first = first; words = words })
at_read _ _ = None

-- one to eight words, from their texts
abbrev pub one_to_eight_words : List (List ℕ) → Option (List ℕ)
one_to_eight_words texts = numbers_up_to 8 octal_word_in texts

-- the words of an `at` line and their address, from the words of the line: `at ADDRESS WORD ..`
abbrev pub at_words : List (List ℕ) → Option PlacedWords
at_words (name ∷ address ∷ texts) =
    if is_text (codes "at") name
    then at_read (core_address_in address) (one_to_eight_words texts) else None
at_words _ = None

-- the words of an `at` line and their address
abbrev pub at_line : Option (List ℕ) → Option PlacedWords
at_line line = line_meaning at_words None line

-- An `at` line in a core of `size` words. `is_above` tests whether its first address is above the
-- earlier ones. The result is its least code, or the address after its last word.
abbrev pub end_of_at_line_by : ℕ → (ℕ → Bool) → Option PlacedWords → Result ℕ ImageCode
end_of_at_line_by size is_above None = Err I1
end_of_at_line_by size is_above (Some p) =
    if is_above p.first && nat_le (p.first + length p.words) size
    then Ok (p.first + length p.words) else Err I3

-- the code of an `at` line, if it has one, given the addresses of the words of earlier lines
abbrev pub at_line_code : ℕ → List ℕ → Option PlacedWords → Option ImageCode
at_line_code size earlier line =
    result_err (end_of_at_line_by size (λ address. list_all (λ a. nat_lt a address) earlier) line)

-- the addresses of the words of an `at` line
abbrev pub addresses : Option PlacedWords → List ℕ
addresses None = []
addresses (Some p) = range_with_len p.first (length p.words)

-- the code of each `at` line, if any, given the addresses of the earlier ones
unfoldable pub at_codes : ℕ → List ℕ → List (Option (List ℕ)) → List (Option ImageCode)
at_codes size earlier [] = []
at_codes size earlier (line ∷ lines) =
    at_line_code size earlier (at_line line) ∷ at_codes size
    (earlier ++ addresses (at_line line)) lines

-- the number of lines before the `at` lines
abbrev pub header_count : ℕ
header_count = 3

-- I1 for a line that could not be read
abbrev pub form_code : {A : Type 0} → Option A → Option ImageCode
form_code (Some value) = None
form_code None = Some I1

-- the number of frames of a file; 0 if line 1 has a code
abbrev pub frames_of : List (Option (List ℕ)) → ℕ
frames_of lines = result_unwrap_or (core_line (line_at lines 1)) 0

-- the codes of the first three lines
abbrev pub header_codes : List (Option (List ℕ)) → List (Option ImageCode)
header_codes lines =
    result_err (core_line (line_at lines 1))
    ∷ form_code (dbr_line (line_at lines 2))
    ∷ form_code (start_line (line_at lines 3))
    ∷ []

-- the codes of all lines
abbrev pub line_codes : List (Option (List ℕ)) → List (Option ImageCode)
line_codes lines =
    header_codes lines ++ at_codes (1024 * frames_of lines) [] (drop header_count lines)

-- The content of an image: the number of frames of core, the words of the descriptor segment base
-- register, where the machine starts, and the words of the `at` lines in order.
pub record Image : Type 0 where
  pub frames : ℕ
  pub dbr : Pair
  pub start : PprFields
  pub placed : List PlacedWords

-- the content of lines without a code
abbrev pub image_in : List (Option (List ℕ)) → Image
image_in lines =
    record {
      frames = frames_of lines;
      dbr = unwrap_or (dbr_line (line_at lines 2)) (record { even = 0; odd = 0 });
      start = unwrap_or (start_line (line_at lines 3)) (record { psr = 0; prr = 0; ic = 0 });
      placed = filter_map at_line (drop header_count lines);
    }

-- the refusal for a line number and a code
abbrev pub refusal_of : ℕ × ImageCode → Refusal
refusal_of told = record { line = told.0; code = told.1 }

-- the image, or the refusal if a line has a code
abbrev pub image_by : Option (ℕ × ImageCode) → Image → Result Image Refusal
image_by told image = value_unless (option_map refusal_of told) image

-- the image that a file describes, or its refusal
unfoldable pub image_of : List ℕ → Result Image Refusal
image_of text = image_by (first_present 1 (line_codes (lines_of text))) (image_in (lines_of text))
