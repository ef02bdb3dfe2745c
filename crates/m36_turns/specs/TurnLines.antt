-- The lines of services and of the end of a run, without line feeds; and what is written for a
-- turn: its line, with a line feed.
use Rattle.std.specs.Prelude.{ℕ, ◌+◌, Bool, ◌||◌, nat_le, nat_eq, if◌then◌else◌, List, [], ◌∷◌}
use Rattle.std.specs.Prelude.{◌++◌, codes, Result, Ok, Err}
use Rattle.std.specs.List.{flat_map}
use Rattle.m36_word.specs.declared.pair.Pair.{Pair}
use Rattle.m36_text.specs.Digits.{octal_text, word_text}
use Rattle.m36_text.specs.Lines.{as_line, joined_by_spaces}
use Rattle.m36_model.specs.declared.endings.End.{End}
use Rattle.m36_model.specs.declared.endings.End.TheVariants as end
use Rattle.m36_model.specs.declared.endings.LinkCode.{LinkCode}
use Rattle.m36_model.specs.declared.endings.LinkCode.TheVariants.{L1, L2, L3, L4, L5, L6}
use Rattle.m36_model.specs.declared.outcome.Outcome.TheVariants.{Faulted, Stopped}
use Rattle.m36_step.specs.LinkNoteFields.{LinkNoteFields}
use Rattle.m36_step.specs.declared.turns.Turn.{Turn}
use Rattle.m36_step.specs.declared.turns.Turn.TheVariants.{Stepped, Linked, Console, Ended, Full}
use Rattle.m36_step.specs.declared.turns.Turn.TheVariants.{NoMemory}
use Rattle.m36_trace.specs.EndLine.{ending_text, end_line_with}
use Rattle.m36_trace.specs.TraceLine.{line_of, segment_word_text}

-- ---- a link service: the ring, the address of the link word, the link, and the pair or the code

-- the name of a code
abbrev pub link_code_text : LinkCode → List ℕ
link_code_text L1 = codes "L1"
link_code_text L2 = codes "L2"
link_code_text L3 = codes "L3"
link_code_text L4 = codes "L4"
link_code_text (L5 code) = codes "L5"
link_code_text (L6 place count) = codes "L6"

-- a pair: its two words, with a space between them
abbrev pub pair_text : Pair → List ℕ
pair_text p = word_text p.even ++ codes " " ++ word_text p.odd

-- the pair, or the name of the code
abbrev pub link_answer_text : Result Pair LinkCode → List ℕ
link_answer_text (Ok pair) = pair_text pair
link_answer_text (Err code) = link_code_text code

-- the line of a link service
unfoldable pub link_line_of : LinkNoteFields → List ℕ
link_line_of n =
    joined_by_spaces
    (codes "link" ∷ octal_text 1 n.ring ∷ segment_word_text n.at.seg n.at.word ∷ n.name
    ∷ link_answer_text n.answer ∷ [])

-- ---- a console service: the characters

-- whether a character is printed as a backslash and three octal digits: a backslash itself, and
-- every character outside octal 40 to 176
abbrev pub is_escaped : ℕ → Bool
is_escaped c = nat_eq c 92 || nat_le c 31 || nat_le 127 c

-- a character, as it is or escaped
unfoldable pub console_character : ℕ → List ℕ
console_character c = if is_escaped c then 92 ∷ octal_text 3 c else c ∷ []

-- the line of a console service
unfoldable pub console_line_of : List ℕ → List ℕ
console_line_of characters = codes "console " ++ flat_map console_character characters

-- ---- the end of a run: how it ended, and the number of steps

-- how a run ended, as its end line names it
abbrev pub end_text : End → List ℕ
end_text (end.Fault fault) = ending_text (Faulted fault)
end_text (end.Stop stop) = ending_text (Stopped stop)
end_text (end.Link code) = codes "link " ++ link_code_text code
end_text end.Console = codes "console"

-- the end line of a run
unfoldable pub run_end_line_of : End → ℕ → List ℕ
run_end_line_of how steps = end_line_with (end_text how) steps

-- ---- what is written for a turn, if `taken` steps were taken before it

-- A step and a service have one line each, in one piece; that of a step has its number.
abbrev pub turn_pieces : ℕ → Turn → List (List ℕ)
turn_pieces taken (Stepped told) = as_line (line_of (taken + 1) told) ∷ []
turn_pieces taken (Linked note) = as_line (link_line_of note) ∷ []
turn_pieces taken (Console text) = as_line (console_line_of text) ∷ []
turn_pieces taken (Ended e) = []
turn_pieces taken Full = []
turn_pieces taken NoMemory = []
