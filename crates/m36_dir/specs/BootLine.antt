-- The lines of a boot text, each parsed by itself.
--
--     frames N                                  N decimal, 1 to 8192
--     work DIR
--     library DIR
--     segment DIR NAME FILE KIND MODE R1 R2 R3  KIND object, gate or data; a ring one octal digit
--     name NAME
--     start RING NAME$ENTRY
--
-- Single spaces separate the words of a line. MODE is one or more of the letters r, e, w and p in
-- this order, or `null`. DIR is 1 to 64 characters of `A-Z a-z 0-9 _ . >`. NAME, FILE and ENTRY are
-- names of files.
use Rattle.std.specs.Prelude.{ℕ, ◌≡◌, ◌+◌, Bool, true, false, ◌||◌, ◌==◌, if◌then◌else◌, List, []}
use Rattle.std.specs.Prelude.{◌∷◌}
use Rattle.std.specs.Prelude.{take, drop, codes, Option, Some, None, option_map}
use Rattle.std.specs.List.{position}
use Rattle.m36_text.specs.Texts.{is_text, is_name_character, is_run_of, is_file_name}
use Rattle.m36_text.specs.Numbers.{octal_in, decimal_in}
use Rattle.m36_text.specs.Lines.{line_meaning, words_meaning}
use Rattle.m36_dir.specs.declared.segment.SegKind.{SegKind}
use Rattle.m36_dir.specs.declared.segment.SegKind.TheVariants.{Object, Gate, Plain}
use Rattle.m36_dir.specs.declared.segment.Mode.{Mode}
use Rattle.m36_dir.specs.declared.boot_line.BootLine.{BootLine}
use Rattle.m36_dir.specs.declared.boot_line.BootLine.TheVariants as line
use Rattle.m36_dir.specs.declared.boot_line.Brackets.{Brackets}

-- ---- words

-- whether a byte can be in the name of a directory: a character of a name, or `>`
abbrev pub is_directory_character : ℕ → Bool
is_directory_character c = is_name_character c || (c == 62)

-- the most characters of the name of a directory
abbrev pub directory_limit : ℕ
directory_limit = 64

-- whether a word is the name of a directory: 1 to 64 of these characters
abbrev pub is_directory : List ℕ → Bool
is_directory word = is_run_of is_directory_character directory_limit word

-- the name of a directory, if the word is one
abbrev pub directory_of : List ℕ → Option (List ℕ)
directory_of word = if is_directory word then Some word else None

-- the name of a segment, an entry or a file, if the word is one
abbrev pub name_of : List ℕ → Option (List ℕ)
name_of word = if is_file_name word then Some word else None

-- the kind of a segment
abbrev pub kind_of : List ℕ → Option SegKind
kind_of word =
    if is_text (codes "object") word then Some Object
    else if is_text (codes "gate") word then Some Gate
    else if is_text (codes "data") word then Some Plain
    else None

-- whether letters begin with a certain one (`stands`), and the letters after it, or else all of
-- them
pub record StrippedLetter : Type 0 where
  pub stands : Bool
  pub rest : List ℕ

-- the letters without this one at the beginning, and whether it was there
abbrev pub strip_letter : ℕ → List ℕ → StrippedLetter
strip_letter letter [] = record { stands = false; rest = [] }
strip_letter letter (c ∷ letters) =
    if c == letter then record { stands = true; rest = letters }
    else record { stands = false; rest = c ∷ letters }

-- the mode, if no letter is left
abbrev pub mode_if_no_letters : Mode → List ℕ → Option Mode
mode_if_no_letters mode [] = Some mode
mode_if_no_letters mode (c ∷ letters) = None

-- The mode that letters spell: some of r, e, w and p, in this order.
abbrev pub mode_of_letters : List ℕ → Option Mode
mode_of_letters letters =
    let r = strip_letter 114 letters in
    let e = strip_letter 101 r.rest in
    let w = strip_letter 119 e.rest in
    let p = strip_letter 112 w.rest in
    mode_if_no_letters (record {
      readable = r.stands;
      executable = e.stands;
      writable = w.stands;
      privileged = p.stands;
    }) p.rest

-- the mode `null`: no right at all
abbrev pub no_mode : Mode
no_mode = record { readable = false; executable = false; writable = false; privileged = false }

-- the mode that a word spells: letters, or `null` for none
unfoldable pub mode_of : List ℕ → Option Mode
mode_of [] = None
mode_of (c ∷ word) =
    if is_text (codes "null") (c ∷ word) then Some no_mode else mode_of_letters (c ∷ word)

-- the word of a kind
abbrev pub kind_word : SegKind → List ℕ
kind_word Object = codes "object"
kind_word Gate = codes "gate"
kind_word Plain = codes "data"

-- letters with one more before them, or without it
abbrev pub with_letter : Bool → ℕ → List ℕ → List ℕ
with_letter true letter letters = letter ∷ letters
with_letter false letter letters = letters

-- the letters of a mode, in the order r, e, w, p
abbrev pub mode_letters : Mode → List ℕ
mode_letters mode =
    with_letter mode.readable 114
    (with_letter mode.executable 101
    (with_letter mode.writable 119 (with_letter mode.privileged 112 [])))

-- these letters, or `null` if there is none
abbrev pub letters_or_null : List ℕ → List ℕ
letters_or_null [] = codes "null"
letters_or_null (c ∷ letters) = c ∷ letters

-- the word of a mode: its letters, or `null` for no right at all
abbrev pub mode_word : Mode → List ℕ
mode_word mode = letters_or_null (mode_letters mode)

-- Each mode is parsed from its word.
abbrev pub ModesHaveWords : Type 0
ModesHaveWords = (mode : Mode) → mode_of (mode_word mode) ≡ Some mode

-- ---- the words after the first word of a line

-- the most pageable frames
abbrev pub most_frames : ℕ
most_frames = 8192

-- `frames N`
abbrev pub frames_line : List (List ℕ) → Option BootLine
frames_line (n ∷ []) = option_map line.Frames (decimal_in 1 most_frames n)
frames_line _ = None

-- `work DIR`
abbrev pub work_line : List (List ℕ) → Option BootLine
work_line (dir ∷ []) = option_map line.Work (directory_of dir)
work_line _ = None

-- `library DIR`
abbrev pub library_line : List (List ℕ) → Option BootLine
library_line (dir ∷ []) = option_map line.Library (directory_of dir)
library_line _ = None

-- `name NAME`
abbrev pub name_line : List (List ℕ) → Option BootLine
name_line (name ∷ []) = option_map line.Name (name_of name)
name_line _ = None

-- the `start` line, if its ring, its name and its entry could be read
abbrev pub start_read : Option ℕ → Option (List ℕ) → Option (List ℕ) → Option BootLine
start_read (Some ring) (Some name) (Some entry) =
    Some (line.Start (record { name = name; entry = entry; ring = ring }))
start_read _ _ _ = None

-- The `start` line from its ring and the word NAME$ENTRY, given the index of the first dollar sign.
-- Neither NAME nor ENTRY contains another one.
abbrev pub start_parts : Option ℕ → List ℕ → Option ℕ → Option BootLine
start_parts ring word (Some dollar) =
    start_read ring (name_of (take dollar word)) (name_of (drop (dollar + 1) word))
start_parts ring word None = None

-- `start RING NAME$ENTRY`
abbrev pub start_line : List (List ℕ) → Option BootLine
start_line (ring ∷ word ∷ []) = start_parts (octal_in 1 ring) word (position (λ c. c == 36) word)
start_line _ = None

-- the brackets R1, R2 and R3, if each of them could be read
abbrev pub brackets_read : Option ℕ → Option ℕ → Option ℕ → Option Brackets
brackets_read (Some r1) (Some r2) (Some r3) = Some (record { r1 = r1; r2 = r2; r3 = r3 })
brackets_read _ _ _ = None

-- the brackets R1, R2 and R3, one octal digit each
abbrev pub brackets_of : List (List ℕ) → Option Brackets
brackets_of (r1 ∷ r2 ∷ r3 ∷ []) = brackets_read (octal_in 1 r1) (octal_in 1 r2) (octal_in 1 r3)
brackets_of _ = None

-- the line of a segment, if each of its parts could be read
abbrev pub segment_read :
    Option (List ℕ) → Option (List ℕ) → Option (List ℕ) → Option SegKind → Option Mode
    → Option Brackets → Option BootLine
segment_read (Some dir) (Some name) (Some file) (Some kind) (Some mode) (Some ends) =
    Some (line.Segment (record {
      dir = dir;
      name = name;
      file = file;
      kind = kind;
      mode = mode;
      r1 = ends.r1;
      r2 = ends.r2;
      r3 = ends.r3;
    }))
segment_read _ _ _ _ _ _ = None

-- `segment DIR NAME FILE KIND MODE R1 R2 R3`
abbrev pub segment_line : List (List ℕ) → Option BootLine
segment_line (dir ∷ name ∷ file ∷ kind ∷ mode ∷ ends) =
    segment_read (directory_of dir) (name_of name) (name_of file) (kind_of kind) (mode_of mode)
    (brackets_of ends)
segment_line _ = None

-- ---- lines

-- the line with this first word and these words after it; None if it has no form
abbrev pub line_named : List ℕ → List (List ℕ) → Option BootLine
line_named word given =
    if is_text (codes "frames") word then frames_line given
    else if is_text (codes "work") word then work_line given
    else if is_text (codes "library") word then library_line given
    else if is_text (codes "segment") word then segment_line given
    else if is_text (codes "name") word then name_line given
    else if is_text (codes "start") word then start_line given
    else None

-- the line with these words; None if it has no form
abbrev pub line_of_words : List (List ℕ) → Option BootLine
line_of_words words = words_meaning line_named words

-- a line parsed by itself; None if it has no form or lacks its line feed
unfoldable pub parsed_line : Option (List ℕ) → Option BootLine
parsed_line line = line_meaning line_of_words None line
