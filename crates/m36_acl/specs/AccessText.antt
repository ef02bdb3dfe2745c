-- Lines about the rights of a user, for each segment of a catalog.
--
--     DIR NAME MODE TERM        what the user may do with the segment
--     denied DIR NAME TERM      after a run that ended because the user lacks a right to it
--
-- MODE has the letters r, e and w, or is `null`. TERM is the term that decides, or `none`.
use Rattle.std.specs.Prelude.{ℕ, ◌≡◌, Bool, true, false, List, [], ◌∷◌, ◌++◌, map, codes, slice_get}
use Rattle.std.specs.Prelude.{Option, Some, None}
use Rattle.m36_text.specs.Lines.{as_line}
use Rattle.m36_dir.specs.Fields.{SegmentFields}
use Rattle.m36_dir.specs.Catalog.{CatalogFields, directory_in}
use Rattle.m36_dir.specs.BootLine.{mode_of as mode_read}
use Rattle.m36_acl.specs.declared.policy.Decision.{Decision}
use Rattle.m36_acl.specs.Fields.{TermFields}
use Rattle.m36_acl.specs.AccessLists.{Lists}
use Rattle.m36_acl.specs.Policy.{terms_of, first_match_decision}
use Rattle.m36_acl.specs.Granted.{first_name_of, decision_on}

-- the letters of the rights to read, execute and write, or `null` if there are none
abbrev pub mode_text : Bool → Bool → Bool → List ℕ
mode_text false false false = codes "null"
mode_text true false false = codes "r"
mode_text false true false = codes "e"
mode_text true true false = codes "re"
mode_text false false true = codes "w"
mode_text true false true = codes "rw"
mode_text false true true = codes "ew"
mode_text true true true = codes "rew"

-- the mode of a decision, as it is printed
abbrev pub mode_of : Decision → List ℕ
mode_of d = mode_text d.readable d.executable d.writable

-- A mode that is printed is parsed as that mode.
abbrev pub ModesRoundTrip : Type 0
ModesRoundTrip =
    (readable executable writable : Bool)
    → mode_read (mode_text readable executable writable)
    ≡ Some (record {
      readable = readable;
      executable = executable;
      writable = writable;
      privileged = false;
    })

-- ---- the term that decides

-- the text of a term, or `none` if there is no term
abbrev pub term_text : Option TermFields → List ℕ
term_text None = codes "none"
term_text (Some term) = term.text

-- the text of the term at an index, or `none` if there is no index
abbrev pub term_text_at : List TermFields → Option ℕ → List ℕ
term_text_at terms None = term_text None
term_text_at terms (Some place) = term_text (slice_get terms place)

-- the term that decides what a user may do, by the list of a segment
unfoldable pub deciding_term_in : List TermFields → List ℕ → List ℕ
deciding_term_in terms user = term_text_at terms (first_match_decision terms user).term

-- the term that decides what a user may do with a segment of the catalog
abbrev pub deciding_term : Lists → List ℕ → List (List ℕ) → SegmentFields → List ℕ
deciding_term lists user directories s =
    deciding_term_in (terms_of lists (directory_in directories s) (first_name_of s)) user

-- ---- lines

-- a text, a space and a word
abbrev pub with_space_and_word : List ℕ → List ℕ → List ℕ
with_space_and_word text word = (text ++ codes " ") ++ word

-- the line of a segment: its directory, its name, what the user may do, and the term that decides
unfoldable pub access_line : Lists → List ℕ → List (List ℕ) → SegmentFields → List ℕ
access_line lists user directories s =
    as_line
    (with_space_and_word (with_space_and_word (with_space_and_word (directory_in directories s)
    (first_name_of s))
    (mode_of (decision_on lists user directories s)))
    (deciding_term lists user directories s))

-- the line of a segment that a user may not use, with the term that decides
unfoldable pub denied_line : Lists → List ℕ → List (List ℕ) → SegmentFields → List ℕ
denied_line lists user directories s =
    as_line
    (with_space_and_word (with_space_and_word (with_space_and_word (codes "denied")
    (directory_in directories s)) (first_name_of s))
    (deciding_term lists user directories s))

-- ---- for all segments, in their order

-- the lines of segments, in order
unfoldable pub access_from : Lists → List ℕ → List (List ℕ) → List SegmentFields → List ℕ
access_from lists user directories [] = []
access_from lists user directories (s ∷ segments) =
    access_line lists user directories s ++ access_from lists user directories segments

-- the lines of all segments of a catalog
unfoldable pub access_text : Lists → List ℕ → CatalogFields → List ℕ
access_text lists user catalog = access_from lists user catalog.directories catalog.segments

-- for each segment of a catalog, the line that is printed if a run ends because the user lacks a
-- right to it
unfoldable pub denied_lines : Lists → List ℕ → CatalogFields → List (List ℕ)
denied_lines lists user catalog =
    map (denied_line lists user catalog.directories) catalog.segments
