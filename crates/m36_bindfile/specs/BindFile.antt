-- Bind files: which objects are bound, in which order, and which of their names are retained.
--
--     version 2       optional; only as the first line
--     object NAME     one or more
--     retain NAME     any number, after the objects
--
-- Each line ends with a line feed, and single spaces separate its words. NAME is that of a file: 1
-- to 32 characters of `A-Z a-z 0-9 _ .`, the first of which is not a point. B1 is reported at the
-- first line that has no form, is out of order or lacks its line feed. If the file has no `object`
-- line, B1 is reported at line 1 before any other. For this, a last `object` line that lacks its
-- line feed counts.
use Rattle.std.specs.Prelude.{ℕ, ◌≡◌, ◌+◌, Bool, true, false, if◌then◌else◌, List, []}
use Rattle.std.specs.Prelude.{◌∷◌, ◌++◌, length, map, codes, Option, Some, None, Result}
use Rattle.std.specs.Prelude.{Ok, Err}
use Rattle.std.specs.List.{list_any}
use Rattle.m36_text.specs.Texts.{are_same, is_text, is_file_name}
use Rattle.m36_text.specs.Once.{appended_if_new}
use Rattle.m36_text.specs.Lines.{lines_of, open_lines_of, line_meaning, last_of}
use Rattle.m36_text.specs.Results.{and_then}
use Rattle.m36_bindfile.specs.declared.line.BindLine.{BindLine}
use Rattle.m36_bindfile.specs.declared.line.BindLine.TheVariants as line
use Rattle.m36_bindfile.specs.declared.fault.BindFault.{BindFault}
use Rattle.m36_bindfile.specs.declared.fault.BindFault.TheVariants as fault

-- ---- each line by itself

-- `object NAME`
abbrev pub object_line : List ℕ → Option BindLine
object_line name = if is_file_name name then Some (line.Object name) else None

-- `retain NAME`
abbrev pub retain_line : List ℕ → Option BindLine
retain_line name = if is_file_name name then Some (line.Retain name) else None

-- `version 2`
abbrev pub version_line : List ℕ → Option BindLine
version_line number = if is_text (codes "2") number then Some line.Version else None

-- the line with these two words; None if it has no form
abbrev pub line_of_two_words : List ℕ → List ℕ → Option BindLine
line_of_two_words word given =
    if is_text (codes "object") word then object_line given
    else if is_text (codes "retain") word then retain_line given
    else if is_text (codes "version") word then version_line given
    else None

-- the line with these words; None if it has no form
abbrev pub line_of_words : List (List ℕ) → Option BindLine
line_of_words (word ∷ given ∷ []) = line_of_two_words word given
line_of_words _ = None

-- a line parsed by itself; None if it has no form or lacks its line feed
unfoldable pub parsed_bind_line : Option (List ℕ) → Option BindLine
parsed_bind_line line = line_meaning line_of_words None line

-- each line parsed by itself
unfoldable pub parsed_bind_lines : List ℕ → List (Option BindLine)
parsed_bind_lines text = map parsed_bind_line (lines_of text)

-- ---- order

-- whether a parsed line is an `object` line
abbrev pub is_object : BindLine → Bool
is_object line.Version = false
is_object (line.Object name) = true
is_object (line.Retain name) = false

-- whether a parsed line is the `version 2` line
abbrev pub is_version : BindLine → Bool
is_version line.Version = true
is_version (line.Object name) = false
is_version (line.Retain name) = false

-- Which line may follow which: an object the version or an object, a retained name an object or a
-- retained name.
abbrev pub may_follow : BindLine → BindLine → Bool
may_follow line.Version next = is_object next
may_follow (line.Object name) line.Version = false
may_follow (line.Object name) (line.Object other) = true
may_follow (line.Object name) (line.Retain other) = true
may_follow (line.Retain name) line.Version = false
may_follow (line.Retain name) (line.Object other) = false
may_follow (line.Retain name) (line.Retain other) = true

-- which line may be the first
abbrev pub may_begin : BindLine → Bool
may_begin line.Version = true
may_begin (line.Object name) = true
may_begin (line.Retain name) = false

-- whether a line may follow another one, or begin the file
abbrev pub is_in_order_after : Option BindLine → BindLine → Bool
is_in_order_after None next = may_begin next
is_in_order_after (Some above) next = may_follow above next

-- the parsed line, if it has a form and may follow the line above it
abbrev pub line_in_order : Option BindLine → Option BindLine → Option BindLine
line_in_order above None = None
line_in_order above (Some next) = if is_in_order_after above next then Some next else None

-- ---- B1

-- continues with a parsed line; the result is `otherwise` if the line has no form or is out of
-- order
abbrev pub continue_with_line : Result (List BindLine) BindFault → (BindLine
    → Result (List BindLine) BindFault) → Option BindLine → Result (List BindLine) BindFault
continue_with_line otherwise next None = otherwise
continue_with_line otherwise next (Some line) = next line

-- the lines after those above, or B1 at the first that has no form or is out of order
unfoldable pub lines_from : List BindLine → List (Option BindLine)
    → Result (List BindLine) BindFault
lines_from above [] = Ok above
lines_from above (given ∷ more) =
    continue_with_line (Err (fault.B1 (length above + 1)))
    (λ next. lines_from (above ++ next ∷ []) more)
    (line_in_order (last_of above) given)

-- whether the text after the last line feed is not empty
abbrev pub lacks_line_feed : List ℕ → Bool
lacks_line_feed [] = false
lacks_line_feed (b ∷ rest) = true

-- whether a line has a form and is an `object` line
abbrev pub is_object_line : Option BindLine → Bool
is_object_line None = false
is_object_line (Some next) = is_object next

-- whether a line is an `object` line, including a last line that lacks its line feed
unfoldable pub has_object : List ℕ → Bool
has_object text =
    list_any (λ line. is_object_line (parsed_bind_line (Some line))) (open_lines_of text)

-- the lines of a bind file, or B1 with a line number
unfoldable pub bind_lines : List ℕ → Result (List BindLine) BindFault
bind_lines text =
    if has_object text then lines_from [] (parsed_bind_lines text) else Err (fault.B1 1)

-- ---- the meaning of the lines

-- the name that a line retains, if it retains one
abbrev pub retained_in : BindLine → List (List ℕ)
retained_in line.Version = []
retained_in (line.Object name) = []
retained_in (line.Retain name) = name ∷ []

-- names, with that of one more component, unless they have it
abbrev pub with_component : List (List ℕ) → BindLine → List (List ℕ)
with_component names line.Version = names
with_component names (line.Object name) = appended_if_new (are_same name) names name
with_component names (line.Retain name) = names

-- names, with those of the components of lines, each once
unfoldable pub with_components : List (List ℕ) → List BindLine → List (List ℕ)
with_components names [] = names
with_components names (next ∷ lines) = with_components (with_component names next) lines

-- the components, each once, in the order in which they first occur
abbrev pub component_names : List BindLine → List (List ℕ)
component_names lines = with_components [] lines

-- the retained names in their order
unfoldable pub retained_names : List BindLine → List (List ℕ)
retained_names [] = []
retained_names (next ∷ lines) = retained_in next ++ retained_names lines

-- whether one of the lines is `version 2`, which asks for an object of that version
unfoldable pub has_version_line : List BindLine → Bool
has_version_line lines = list_any is_version lines

-- ---- results

-- The fault of a call is that of the definition, or it is NoMemory, which is allowed for every
-- text.
abbrev pub IsBindRefusal : {A : Type 0} → BindFault → Result A BindFault → Type 0
IsBindRefusal fault.NoMemory definition = Unit {0}
IsBindRefusal told definition = definition ≡ Err told

-- The result of a call is that of the definition, or `NoMemory`.
abbrev pub BindResult : {A : Type 0} → Result A BindFault → Result A BindFault → Type 0
BindResult (Ok value) definition = definition ≡ Ok value
BindResult (Err told) definition = IsBindRefusal told definition

-- the names of the components, from the result of parsing the lines of a bind file
abbrev pub names_or_fault : Result (List BindLine) BindFault → Result (List (List ℕ)) BindFault
names_or_fault read = and_then read (λ lines. Ok (component_names lines))
