-- The services that a booted run calls for: links and the console. Both see the content of
-- segments wherever their pages are, and a link service changes it.
use Rattle.std.specs.Prelude.{ℕ, zero, suc, ◌+◌, ◌%◌, ◌^◌, nat_lt, if◌then◌else◌, codes, Bool}
use Rattle.std.specs.Prelude.{List, [], ◌++◌, map, take, slice_index, Option, None, Some}
use Rattle.std.specs.Prelude.{Result, Ok, Err}
use Rattle.m36_word.specs.declared.pair.Pair.{Pair}
use Rattle.m36_word.specs.Pairs.{pair_words}
use Rattle.m36_model.specs.Fields.{AtFields}
use Rattle.m36_model.specs.Registers.{RegsFields}
use Rattle.m36_model.specs.Act.{Answer}
use Rattle.m36_model.specs.Store.{Change, examined_reply}
use Rattle.m36_model.specs.Modification.{ptr}
use Rattle.m36_model.specs.Flat.{Flat, flat_store}
use Rattle.m36_model.specs.declared.endings.LinkCode.{LinkCode}
use Rattle.m36_model.specs.declared.outcome.Fault.{Fault}
use Rattle.obj36_parts.specs.Fields.{LinkFields}
use Rattle.obj36_parts.specs.Halves.{quarters_of, quarter_words}
use Rattle.obj36.specs.References.{reference_text}
use Rattle.m36_link.specs.Fields.{SnapFields}
use Rattle.m36_link.specs.Snap.{RefusedFields}
use Rattle.m36_step.specs.LinkNoteFields.{LinkNoteFields}
use Rattle.m36_super.specs.Laying.{written_from, section_changes}

-- ---- links

-- A link service that succeeds writes the pair, the linkage section that it lays and the word of
-- the linkage offset table for it, and no other word.
unfoldable pub link_changes : AtFields → SnapFields → List Change
link_changes at s = written_from at.seg at.word (pair_words s.pair) ++ section_changes s.lay

-- the link as it is reported: ? if the word is not a link
abbrev pub link_text : Option LinkFields → List ℕ
link_text None = codes "?"
link_text (Some link) = reference_text link

-- the note of the service of a link at this address, with the pair or the code
abbrev pub note_of : AtFields → Option LinkFields → Result Pair LinkCode → LinkNoteFields
note_of at link answer = record { name = link_text link; answer = answer; at = at; ring = at.ring }

-- the note of a link that was snapped
abbrev pub note_snapped : AtFields → SnapFields → LinkNoteFields
note_snapped at s = note_of at (Some s.link) (Ok s.pair)

-- the note of a link that was refused
abbrev pub note_refused : AtFields → RefusedFields → LinkNoteFields
note_refused at why = note_of at why.link (Err why.code)

-- ---- the console

-- The service writes as many characters as A says; it is refused if A is above 256.
abbrev pub console_limit : ℕ
console_limit = 256

-- A is above the limit
abbrev pub asks_too_much : RegsFields → Bool
asks_too_much g = nat_lt console_limit g.a

-- the number of words for `count` characters
abbrev pub console_word_count : ℕ → ℕ
console_word_count count = quarter_words count

-- the maximum number of words of a text
abbrev pub console_word_limit : ℕ
console_word_limit = console_word_count console_limit

-- a character below octal 200 is written as that byte, and any other as ?
abbrev pub written_character : ℕ → ℕ
written_character c = if nat_lt c 128 then c else 63

-- the bytes that are written for the four characters of nine bits in a word
unfoldable pub characters_of : ℕ → List ℕ
characters_of w = map written_character (quarters_of w)

-- Word k of the text. The text begins at the address in PR2. It is read in the ring of PR2 by the
-- rules of access, and no mark is set.
abbrev pub console_at : RegsFields → ℕ → AtFields
console_at g k =
    record { seg = (ptr g 2).seg; word = ((ptr g 2).word + k) % 2 ^ 18; ring = (ptr g 2).ring }

-- the characters of a word before those of the rest of the text, or the first fault
abbrev pub with_word_before : Result Answer Fault → Result (List ℕ) Fault → Result (List ℕ) Fault
with_word_before (Err f) rest = Err f
with_word_before (Ok a) (Err f) = Err f
with_word_before (Ok a) (Ok characters) = Ok (characters_of (slice_index a.words 0) ++ characters)

-- the characters of n words of the text from word k on
unfoldable pub console_words : RegsFields → Flat → ℕ → ℕ → Result (List ℕ) Fault
console_words g f k zero = Ok []
console_words g f k (suc n) =
    with_word_before (examined_reply flat_store g f (console_at g k)) (console_words g f (k + 1) n)

-- the first n characters of a text, or the fault of reading it
abbrev pub first_characters : ℕ → Result (List ℕ) Fault → Result (List ℕ) Fault
first_characters n (Err f) = Err f
first_characters n (Ok characters) = Ok (take n characters)

-- the text that the console writes, or the first fault of reading it
unfoldable pub console_text : RegsFields → Flat → Result (List ℕ) Fault
console_text g f = first_characters g.a (console_words g f 0 (console_word_count g.a))
