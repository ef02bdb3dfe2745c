-- The lines of access lists, each parsed by itself.
--
--     segment DIR NAME
--     term TERM MODE
--
-- Single spaces separate the words of a line. DIR and NAME are as in a boot text. MODE is as in a
-- boot text, but without the letter p: one or more of r, e and w in this order, or `null`.
use Rattle.std.specs.Prelude.{ℕ, if◌then◌else◌, List, [], ◌∷◌, codes, Option, Some, None}
use Rattle.std.specs.Prelude.{option_map, option_and_then}
use Rattle.m36_text.specs.Texts.{is_text}
use Rattle.m36_text.specs.Lines.{line_meaning, words_meaning}
use Rattle.m36_dir.specs.declared.segment.Mode.{Mode}
use Rattle.m36_dir.specs.BootLine.{directory_of, name_of, mode_of}
use Rattle.m36_dir.specs.BootOrder.{Entry, entry}
use Rattle.m36_acl.specs.Fields.{TermFields}
use Rattle.m36_acl.specs.Users.{is_term}

-- a parsed line
pub data Line : Type 0 where
  Segment : Entry → Line
  Term : TermFields → Line

-- ---- modes

-- a mode, unless it has the right to be privileged
abbrev pub mode_if_unprivileged : Mode → Option Mode
mode_if_unprivileged mode = if mode.privileged then None else Some mode

-- the rights that a word spells: a mode without the letter p
unfoldable pub rights_of : List ℕ → Option Mode
rights_of word = option_and_then mode_if_unprivileged (mode_of word)

-- ---- the words after the first word of a line

-- a directory and a name, if both could be read
abbrev pub entry_read : Option (List ℕ) → Option (List ℕ) → Option Entry
entry_read (Some dir) (Some name) = Some (entry dir name)
entry_read _ _ = None

-- the directory and the name of a `segment` line, from its words DIR and NAME
abbrev pub entry_of : List (List ℕ) → Option Entry
entry_of (dir ∷ name ∷ []) = entry_read (directory_of dir) (name_of name)
entry_of _ = None

-- a term with these rights
abbrev pub term_with : List ℕ → Mode → TermFields
term_with text mode =
    record {
      text = text;
      readable = mode.readable;
      executable = mode.executable;
      writable = mode.writable;
    }

-- a term with its rights, if the text has the form of a term and the mode could be read
abbrev pub term_read : List ℕ → Option Mode → Option TermFields
term_read text None = None
term_read text (Some mode) = if is_term text then Some (term_with text mode) else None

-- the term of a `term` line with its rights, from its words TERM and MODE
abbrev pub term_of : List (List ℕ) → Option TermFields
term_of (text ∷ mode ∷ []) = term_read text (rights_of mode)
term_of _ = None

-- ---- lines

-- the line with this first word and these words after it; None if it has no form
abbrev pub line_named : List ℕ → List (List ℕ) → Option Line
line_named word given =
    if is_text (codes "segment") word then option_map Segment (entry_of given)
    else if is_text (codes "term") word then option_map Term (term_of given)
    else None

-- the line with these words; None if it has no form
abbrev pub line_of_words : List (List ℕ) → Option Line
line_of_words words = words_meaning line_named words

-- a line parsed by itself; None if it has no form or lacks its line feed
unfoldable pub parsed_line : Option (List ℕ) → Option Line
parsed_line line = line_meaning line_of_words None line
