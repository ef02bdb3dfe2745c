-- The words of components with their parts relocated: halves, which count modulo 2^18, and bits 3
-- to 17, which are a signed number and must fit.
use Rattle.std.specs.Prelude.{ℕ, ◌≡◌, ◌+◌, ◌-◌, ◌*◌, ◌/◌, ◌%◌, ◌^◌, ◌<◌, Bool, true, false, not}
use Rattle.std.specs.Prelude.{nat_lt, nat_eq, if◌then◌else◌, List, [], ◌∷◌, length, slice_index}
use Rattle.std.specs.Prelude.{slice_set}
use Rattle.obj36_parts.specs.Fields.{RelocFields}
use Rattle.obj36_parts.specs.PartsFields.{PartsFields}
use Rattle.m36_word.specs.Field.{offset_limit}
use Rattle.obj36_parts.specs.Halves.{left, right, bits_3_to_17, word_with_halves}
use Rattle.obj36_parts.specs.Sections.{is_text_section}
use Rattle.obj36_parts.specs.ObjectSegment.{head_words, left_part, right_part}
use Rattle.obj36_parts.specs.declared.section.Section.{Section}
use Rattle.obj36_parts.specs.declared.section.Section.TheVariants.{Text, Linkage, Symbol, Static}
use Rattle.m36_relocate.specs.Fields.{ShapeFields, BasesFields}
use Rattle.m36_relocate.specs.Layout.{relocated_number, denoted, static_word_place}
use Rattle.m36_relocate.specs.declared.layout.Denoted.TheVariants.{StaticWord}
use Rattle.m36_relocate.specs.declared.layout.Relocation.{Relocation}

-- ---- parts of a word

-- a word with other bits 3 to 17
unfoldable pub with_offset : ℕ → ℕ → ℕ
with_offset w v = word_with_halves (left w / 2 ^ 15 * 2 ^ 15 + v % 2 ^ 15) (right w)

-- The relocated value of a negative number in bits 3 to 17, whose 15 bits are v. Numbers of bits 3
-- to 17 are raised by 2^15 here, so that none is negative. A negative number counts back from where
-- the words of the component begin. In the linkage section it counts back from the head, which is
-- not relocated, so it does not change.
abbrev pub relocated_negative : BasesFields → Section → ℕ → ℕ
relocated_negative b Text v = b.text + v
relocated_negative b Static v = b.statics + v
relocated_negative b Linkage v = v
relocated_negative b Symbol v = v

-- the relocated number of bits 3 to 17, plus 2^15
unfoldable pub biased_offset : Relocation → Section → ℕ → ℕ
biased_offset m target v =
    if nat_lt v offset_limit then 2 ^ 15 + relocated_number m target v else relocated_negative
    m.bases target v

-- the word with the part of a relocation relocated
unfoldable pub relocated_word : Relocation → RelocFields → ℕ → ℕ
relocated_word m r w =
    if nat_eq r.part left_part then word_with_halves (relocated_number m r.target (left w))
    (right w)
    else if nat_eq r.part right_part then word_with_halves (left w)
    (relocated_number m r.target (right w))
    else with_offset w (biased_offset m r.target (bits_3_to_17 w))

-- whether the relocated part fits: bits 3 to 17 must be from -2^14 to 2^14 - 1
unfoldable pub part_fits : Relocation → RelocFields → ℕ → Bool
part_fits m r w =
    if nat_eq r.part left_part then true
    else if nat_eq r.part right_part then true
    else nat_lt (biased_offset m r.target (bits_3_to_17 w)) (2 ^ 15 + offset_limit)

-- ---- the words of a component: its text or its static words

-- whether a relocation is of a static word, or of the text, as `statics` says
abbrev pub is_relocation_in : Bool → RelocFields → Bool
is_relocation_in statics r =
    if statics then not (is_text_section r.section) else is_text_section r.section

-- the offset from which relocations count the static words, or the words of the text, as `statics`
-- says
abbrev pub start_of : Bool → ShapeFields → ℕ
start_of statics s = if statics then (if s.newer then 0 else head_words) else 0

-- Static word w of an object is w words after the offset from which relocations count its static
-- words.
abbrev pub StaticStartAgrees : Type 0
StaticStartAgrees =
    (s : ShapeFields) (w : ℕ) → w < s.statics
    → denoted s (static_word_place s w).section (start_of true s + w) ≡ StaticWord w

-- the static words or the text of parts
abbrev pub words_in : Bool → PartsFields → List ℕ
words_in statics p = if statics then p.statics else p.text

-- the index of the word of a relocation, among the static words or the words of the text, as
-- `statics` says
abbrev pub word_index_of : ShapeFields → Bool → RelocFields → ℕ
word_index_of s statics r = r.offset - start_of statics s

-- words with word i relocated, if there is one
abbrev pub with_word_relocated : Relocation → RelocFields → ℕ → List ℕ → List ℕ
with_word_relocated m r i words = if nat_lt i (length words)
    then slice_set words i (relocated_word m r (slice_index words i)) else words

-- words relocated by a relocation, if it is one of these words
unfoldable pub with_relocation_applied : Relocation → Bool → RelocFields → List ℕ → List ℕ
with_relocation_applied m statics r words =
    if is_relocation_in statics r then with_word_relocated m r
    (word_index_of m.shape statics r) words else words

-- words relocated by these relocations, one after another; relocations of other words change
-- nothing
unfoldable pub relocated_words : Relocation → Bool → List RelocFields → List ℕ → List ℕ
relocated_words m statics [] words = words
relocated_words m statics (r ∷ rs) words =
    relocated_words m statics rs (with_relocation_applied m statics r words)

-- whether the part of a relocation fits, if it is one of these words
unfoldable pub one_fits : Relocation → Bool → List ℕ → RelocFields → Bool
one_fits m statics words r =
    if is_relocation_in statics r then part_fits m r
    (slice_index words (word_index_of m.shape statics r))
    else true

-- whether the parts of all relocations of these words fit
unfoldable pub all_fit : Relocation → Bool → List ℕ → List RelocFields → Bool
all_fit m statics words [] = true
all_fit m statics words (r ∷ rs) =
    if one_fits m statics words r then all_fit m statics words rs else false
