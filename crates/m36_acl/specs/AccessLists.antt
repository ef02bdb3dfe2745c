-- The access lists that a text describes, or the fault of the text.
--
--     C1   the line is not of its form, or a `term` line is above all `segment` lines, or 16 terms
--          of the segment are above it
--     C2   an earlier line names the segment, or the list of the segment has the term already
--
-- Reported is the first line that has a code; if both codes apply to it, C1.
use Rattle.std.specs.Prelude.{ℕ, ◌≡◌, ◌+◌, ◌-◌, ◌≤◌, Bool, true, nat_le, if◌then◌else◌, List, []}
use Rattle.std.specs.Prelude.{◌∷◌, ◌++◌, length, map, slice_set, All}
use Rattle.std.specs.Prelude.{Option, Some, None, Result, Ok, Err}
use Rattle.std.specs.List.{list_any}
use Rattle.m36_text.specs.Texts.{is_text}
use Rattle.m36_text.specs.Lines.{lines_of, last_of}
use Rattle.m36_text.specs.Once.{are_distinct_by}
use Rattle.m36_text.specs.Results.{and_then}
use Rattle.m36_dir.specs.BootOrder.{Entry, entry, is_same_entry}
use Rattle.m36_acl.specs.declared.fault.AclFault.{AclFault}
use Rattle.m36_acl.specs.declared.fault.AclFault.TheVariants as fault
use Rattle.m36_acl.specs.Fields.{TermFields, AclSegmentFields}
use Rattle.m36_acl.specs.AccessLine.{Line, Segment, Term, parsed_line}

-- the lists of segments, in the order of their lines
abbrev pub Lists : Type 0
Lists = List AclSegmentFields

-- The result of lines: lists, or a code with its line.
abbrev pub ListsResult : Type 0
ListsResult = Result (List AclSegmentFields) AclFault

-- ---- a `segment` line

-- whether a list is that of this directory and name
abbrev pub is_list_of : Entry → AclSegmentFields → Bool
is_list_of given segment = is_same_entry given (entry segment.dir segment.name)

-- whether a segment has a list
abbrev pub has_segment : Lists → Entry → Bool
has_segment lists given = list_any (is_list_of given) lists

-- the directory and name of each segment
abbrev pub entries_of_lists : Lists → List Entry
entries_of_lists lists = map (λ s. entry s.dir s.name) lists

-- the empty list of the segment of a line
abbrev pub new_segment : ℕ → Entry → AclSegmentFields
new_segment line given = record { line = line; dir = given.dir; name = given.name; terms = [] }

-- the lists after a `segment` line, or its fault
abbrev pub with_segment : ℕ → Lists → Entry → ListsResult
with_segment line above given =
    if has_segment above given then Err (fault.C2 line) else Ok
    (above ++ new_segment line given ∷ [])

-- ---- a `term` line, which belongs to the last segment

-- the most terms of a segment
abbrev pub most_terms : ℕ
most_terms = 16

-- whether a list has a term, whatever its rights are
abbrev pub has_term : List TermFields → List ℕ → Bool
has_term terms text = list_any (λ t. is_text text t.text) terms

-- the list of a segment with one more term
abbrev pub with_term : AclSegmentFields → TermFields → AclSegmentFields
with_term segment term = record segment { terms = segment.terms ++ term ∷ [] }

-- The lists after a `term` line, which adds to the last list, or the fault of the line. `last` is
-- that list; without one the fault is C1.
abbrev pub with_term_line : ℕ → Lists → Option AclSegmentFields → TermFields → ListsResult
with_term_line line above None term = Err (fault.C1 line)
with_term_line line above (Some last) term =
    if nat_le most_terms (length last.terms) then Err (fault.C1 line)
    else if has_term last.terms term.text then Err (fault.C2 line)
    else Ok (slice_set above (length above - 1) (with_term last term))

-- ---- the lines in turn

-- the lists after a line, or its fault
abbrev pub with_line : ℕ → Lists → Option Line → ListsResult
with_line line above None = Err (fault.C1 line)
with_line line above (Some (Segment given)) = with_segment line above given
with_line line above (Some (Term term)) = with_term_line line above (last_of above) term

-- the result of lines, of which the first has the number `line`, after lines that gave `above`
unfoldable pub lists_from : ℕ → Lists → List (Option Line) → ListsResult
lists_from line above [] = Ok above
lists_from line above (given ∷ lines) =
    and_then (with_line line above given) (λ next. lists_from (line + 1) next lines)

-- each line parsed by itself
unfoldable pub parsed_lines : List ℕ → List (Option Line)
parsed_lines text = map parsed_line (lines_of text)

-- the lists that a text describes, or the fault of its first line with a code
unfoldable pub lists_of : List ℕ → ListsResult
lists_of text = lists_from 1 [] (parsed_lines text)

-- ---- results

-- The fault of a call is that of the definition, or it is NoMemory, which is allowed for every
-- text.
abbrev pub RefusesWith : AclFault → ListsResult → Type 0
RefusesWith fault.NoMemory definition = Unit {0}
RefusesWith told definition = definition ≡ Err told

-- The result of a call is that of the definition, or `NoMemory`.
abbrev pub AccessListsResult : ListsResult → ListsResult → Type 0
AccessListsResult (Ok lists) definition = definition ≡ Ok lists
AccessListsResult (Err told) definition = RefusesWith told definition

-- A call changes the lists to `new`, as the definition does, or fails with its fault or NoMemory.
abbrev pub ChangesTo : {A : Type 0} → Lists → Result A AclFault → ListsResult → Type 0
ChangesTo new (Ok done) definition = definition ≡ Ok new
ChangesTo new (Err told) definition = RefusesWith told definition

-- ---- a law

-- two terms are the same, whatever their rights are
abbrev pub same_term : TermFields → TermFields → Bool
same_term a b = is_text a.text b.text

-- The list of a segment has each term once, and at most 16 terms.
pub record HasTermsOnce (s : AclSegmentFields) : Type 0 where
  pub once : are_distinct_by same_term s.terms ≡ true
  pub few : length s.terms ≤ most_terms

-- Each segment occurs once, and each term occurs once in the list of its segment.
pub record AreListsOnce (lists : Lists) : Type 0 where
  pub segments : are_distinct_by is_same_entry (entries_of_lists lists) ≡ true
  pub terms : All HasTermsOnce lists

-- Lists that were parsed have each segment once, and each term once for its segment.
abbrev pub ListsOnce : Type 0
ListsOnce = (text : List ℕ) (lists : Lists) → lists_of text ≡ Ok lists → AreListsOnce lists
