-- Which lines of a boot text may follow which, and the code of each line by the lines above it.
--
--     D1   the line has the form of no kind of line, or is out of order
--     D2   a name occurs a second time in one directory
--     D3   the directory of a `work` or `library` line is in no segment line of the text, above or
--          below it
--     D4   not R1 <= R2 <= R3, or a gate that may not be executed, or a gate with R2 = R3
--     D5   a 513th segment, an eighth further name, or a 17th library
--     D6   the text ends without `start`; the number is one more than that of the last line
--
-- Reported is the first line that has a code, with the least of its codes.
use Rattle.std.specs.Prelude.{ℕ, ◌≡◌, ◌+◌, ◌-◌, Bool, true, false, not, ◌&&◌, ◌||◌, nat_eq, nat_le}
use Rattle.std.specs.Prelude.{if◌then◌else◌, List, [], ◌∷◌, ◌++◌, count_by}
use Rattle.std.specs.Prelude.{map, Option, Some, None, Result, Ok, Err}
use Rattle.std.specs.List.{list_any}
use Rattle.m36_text.specs.Texts.{is_text}
use Rattle.m36_text.specs.Lines.{lines_of, present_values, last_of, first_true_case, first_present}
use Rattle.m36_desc.specs.Access.{are_in_order}
use Rattle.m36_dir.specs.declared.segment.SegKind.{SegKind}
use Rattle.m36_dir.specs.declared.segment.SegKind.TheVariants.{Gate}
use Rattle.m36_dir.specs.declared.boot_line.BootLine.{BootLine}
use Rattle.m36_dir.specs.declared.boot_line.BootLine.TheVariants as line
use Rattle.m36_dir.specs.declared.boot_code.BootCode.{BootCode}
use Rattle.m36_dir.specs.declared.boot_code.BootCode.TheVariants.{D1, D2, D3, D4, D5, D6}
use Rattle.m36_dir.specs.Fields.{SegmentLineFields}
use Rattle.m36_dir.specs.BootLine.{parsed_line}

-- ---- kinds of lines

-- whether it is a `frames` line
abbrev pub is_frames : BootLine → Bool
is_frames (line.Frames n) = true
is_frames _ = false

-- whether it is a `start` line
abbrev pub is_start : BootLine → Bool
is_start (line.Start start) = true
is_start _ = false

-- whether it is a `library` line
abbrev pub is_library : BootLine → Bool
is_library (line.Library dir) = true
is_library _ = false

-- whether it is a `segment` line
abbrev pub is_segment : BootLine → Bool
is_segment (line.Segment given) = true
is_segment _ = false

-- whether it is a `work` or `library` line
abbrev pub is_work_or_library : BootLine → Bool
is_work_or_library (line.Work dir) = true
is_work_or_library (line.Library dir) = true
is_work_or_library _ = false

-- whether it is a `segment` or `name` line
abbrev pub is_segment_or_name : BootLine → Bool
is_segment_or_name (line.Segment given) = true
is_segment_or_name (line.Name name) = true
is_segment_or_name _ = false

-- ---- order: D1

-- Whether a line may follow another one directly. The order is: frames, work, libraries, segments
-- with their further names, start.
abbrev pub may_follow : BootLine → BootLine → Bool
may_follow above (line.Frames n) = false
may_follow above (line.Work dir) = is_frames above
may_follow above (line.Library dir) = is_work_or_library above
may_follow above (line.Segment given) = is_work_or_library above || is_segment_or_name above
may_follow above (line.Name name) = is_segment_or_name above
may_follow above (line.Start start) = is_work_or_library above || is_segment_or_name above

-- The first line is `frames`. Each later line may follow the one above it.
abbrev pub is_in_order_after : Option BootLine → BootLine → Bool
is_in_order_after None next = is_frames next
is_in_order_after (Some above) next = may_follow above next

-- ---- names: D2

-- a name in a directory
pub record Entry : Type 0 where
  pub dir : List ℕ
  pub name : List ℕ

-- the name `name` in the directory `dir`
abbrev pub entry : List ℕ → List ℕ → Entry
entry dir name = record { dir = dir; name = name }

-- two entries have the same directory and name
abbrev pub is_same_entry : Entry → Entry → Bool
is_same_entry a b = is_text a.dir b.dir && is_text a.name b.name

-- the directory of the last segment line, to which a further name belongs: after one more line, if
-- `dir` was that before it
abbrev pub directory_after : List ℕ → BootLine → List ℕ
directory_after dir (line.Segment given) = given.dir
directory_after dir _ = dir

-- the directory of the last segment line; `dir` if there is none
unfoldable pub directory_at_end : List ℕ → List BootLine → List ℕ
directory_at_end dir [] = dir
directory_at_end dir (next ∷ lines) = directory_at_end (directory_after dir next) lines

-- the name that a line puts into a directory; a name line uses `dir`
abbrev pub entries_of_line : List ℕ → BootLine → List Entry
entries_of_line dir (line.Segment given) = entry given.dir given.name ∷ []
entries_of_line dir (line.Name name) = entry dir name ∷ []
entries_of_line dir _ = []

-- the names that lines put into directories; `dir` is the directory of the last segment line above
unfoldable pub entries_from : List ℕ → List BootLine → List Entry
entries_from dir [] = []
entries_from dir (next ∷ lines) =
    entries_of_line dir next ++ entries_from (directory_after dir next) lines

-- whether lines put a name into a directory
unfoldable pub has_entry : List BootLine → List ℕ → List ℕ → Bool
has_entry lines dir name = list_any (is_same_entry (entry dir name)) (entries_from [] lines)

-- whether a line puts a name into a directory that has it already
abbrev pub is_repeated : List BootLine → BootLine → Bool
is_repeated above (line.Segment given) = has_entry above given.dir given.name
is_repeated above (line.Name name) = has_entry above (directory_at_end [] above) name
is_repeated above _ = false

-- ---- directories: D3

-- whether a line puts a segment into a directory
abbrev pub is_in_directory : List ℕ → BootLine → Bool
is_in_directory dir (line.Segment given) = is_text dir given.dir
is_in_directory dir _ = false

-- whether a line has a form and puts a segment into a directory
abbrev pub is_parsed_line_in_directory : List ℕ → Option BootLine → Bool
is_parsed_line_in_directory dir (Some next) = is_in_directory dir next
is_parsed_line_in_directory dir None = false

-- whether lines put a segment into a directory
unfoldable pub has_directory : List BootLine → List ℕ → Bool
has_directory lines dir = list_any (is_in_directory dir) lines

-- whether the line names a working directory or a library that has no segment in the whole text
abbrev pub names_no_directory : List BootLine → BootLine → Bool
names_no_directory all (line.Work dir) = not (has_directory all dir)
names_no_directory all (line.Library dir) = not (has_directory all dir)
names_no_directory all _ = false

-- ---- brackets: D4

-- whether a segment is said to be a gate and cannot be one: it is not executable, or no ring above
-- R2 may call it
abbrev pub is_no_gate : SegKind → SegmentLineFields → Bool
is_no_gate Gate given = not given.mode.executable || nat_eq given.r2 given.r3
is_no_gate _ given = false

-- whether R1, R2 and R3 do not decrease
abbrev pub brackets_in_order : SegmentLineFields → Bool
brackets_in_order given = are_in_order given.r1 given.r2 given.r3

-- whether the brackets of a segment line are refused
abbrev pub has_wrong_brackets : BootLine → Bool
has_wrong_brackets (line.Segment given) =
    not (brackets_in_order given) || is_no_gate given.kind given
has_wrong_brackets _ = false

-- ---- counts: D5

-- the number of `name` lines at the end of lines after one more line, if there were n before it
abbrev pub name_count_after : ℕ → BootLine → ℕ
name_count_after n (line.Name name) = n + 1
name_count_after n _ = 0

-- the number of `name` lines at the end of these lines, if n `name` lines are directly above them
unfoldable pub name_count_at_end : ℕ → List BootLine → ℕ
name_count_at_end n [] = n
name_count_at_end n (next ∷ lines) = name_count_at_end (name_count_after n next) lines

-- the maximum number of segments
abbrev pub most_segments : ℕ
most_segments = 512

-- the maximum number of names of a segment, including its first
abbrev pub most_names : ℕ
most_names = 8

-- the maximum number of libraries
abbrev pub most_libraries : ℕ
most_libraries = 16

-- whether there are already as many lines of this kind above as there may be; further names are
-- counted for each segment
abbrev pub is_too_many : List BootLine → BootLine → Bool
is_too_many above (line.Segment given) = nat_le most_segments (count_by is_segment above)
is_too_many above (line.Name name) = nat_le (most_names - 1) (name_count_at_end 0 above)
is_too_many above (line.Library dir) = nat_le most_libraries (count_by is_library above)
is_too_many above _ = false

-- ---- the code of a line

-- The code of a line, by all lines of the text that are of a form (for D3), and by the lines above.
unfoldable pub code_of : List BootLine → List BootLine → BootLine → Option BootCode
code_of all above next =
    first_true_case (
    (not (is_in_order_after (last_of above) next), D1)
    ∷ (is_repeated above next, D2)
    ∷ (names_no_directory all next, D3)
    ∷ (has_wrong_brackets next, D4)
    ∷ (is_too_many above next, D5)
    ∷ []
    )

-- the code of a line: D1 if it has no form
abbrev pub code_of_parsed_line : List BootLine → List BootLine → Option BootLine → Option BootCode
code_of_parsed_line all above None = Some D1
code_of_parsed_line all above (Some next) = code_of all above next

-- the lines above, with one more, if it has a form
abbrev pub with_line : List BootLine → Option BootLine → List BootLine
with_line above None = above
with_line above (Some next) = above ++ next ∷ []

-- whether the last line is the start line, which must end the text
abbrev pub has_start_at_end : Option BootLine → Bool
has_start_at_end None = false
has_start_at_end (Some last) = is_start last

-- D6, unless the last line is the start line
abbrev pub code_at_end : Option BootLine → Option BootCode
code_at_end last = if has_start_at_end last then None else Some D6

-- The code of what follows the last whole line: of a line that lacks its line feed, or of the end.
abbrev pub code_of_rest : List BootLine → List ℕ → Option BootCode
code_of_rest above [] = code_at_end (last_of above)
code_of_rest above (c ∷ rest) = Some D1

-- The result is a line without a code, or the code of the line.
abbrev pub ChecksLine : List BootLine → List BootLine → Option BootLine → Result BootLine BootCode
    → Type 0
ChecksLine all above given (Ok next) = (given ≡ Some next) × (code_of all above next ≡ None)
ChecksLine all above given (Err code) = code_of_parsed_line all above given ≡ Some code

-- the code of each line, if it has one, and at last that of the end of the text
unfoldable pub codes_from : List BootLine → List BootLine → List (Option BootLine)
    → List (Option BootCode)
codes_from all above [] = code_at_end (last_of above) ∷ []
codes_from all above (next ∷ lines) =
    code_of_parsed_line all above next ∷ codes_from all (with_line above next) lines

-- ---- the text

-- each line parsed by itself
unfoldable pub parsed_lines : List ℕ → List (Option BootLine)
parsed_lines text = map parsed_line (lines_of text)

-- the lines that have a form
unfoldable pub well_formed_lines : List ℕ → List BootLine
well_formed_lines text = present_values (parsed_lines text)

-- the first line that has a code, counted from 1, with its code
unfoldable pub first_code : List ℕ → Option (ℕ × BootCode)
first_code text = first_present 1 (codes_from (well_formed_lines text) [] (parsed_lines text))
