-- The fields of a trace line, in the form in which they are written one after the other.
use Rattle.std.specs.Prelude.{ℕ, ◌≡◌, List, [], ◌∷◌, ◌++◌, map, Option, Some, None, codes}
use Rattle.std.specs.List.{range_with_len}
use Rattle.m36_text.specs.Digits.{octal_text, segment_digits, word_text, half_text}
use Rattle.m36_model.specs.Fields.{FinalFields}

-- a field and a space
abbrev pub with_space : List ℕ → List ℕ
with_space field = field ++ 32 ∷ []

-- the numbers below 512, each in three octal digits and a space
unfoldable pub all_triples : List (List ℕ)
all_triples = map (λ v. with_space (octal_text 3 v)) (range_with_len 0 512)

-- a ring and a segment number with a character between them, and the bar before the word number
abbrev pub ring_segment_text : ℕ → ℕ → ℕ → List ℕ
ring_segment_text ring mark seg =
    octal_text 1 ring ++ (mark ∷ (octal_text segment_digits seg ++ codes "|"))

-- a ring, a segment number and a word number, with a character after the ring and a bar before the
-- word number
abbrev pub kept_place : ℕ → ℕ → ℕ → ℕ → List ℕ
kept_place ring mark seg word = ring_segment_text ring mark seg ++ half_text word

-- an address with the kept ring and segment number, or the direct operand
abbrev pub kept_operand : ℕ → ℕ → ℕ → Option ℕ → List ℕ
kept_operand ring seg word (Some operand) = codes "=" ++ word_text operand
kept_operand ring seg word None = kept_place ring 58 seg word

-- the final address with the kept ring and segment number, or a dash if no address was formed
abbrev pub kept_final : ℕ → ℕ → Option FinalFields → List ℕ
kept_final ring seg (Some end) = kept_operand ring seg end.at.word end.direct
kept_final ring seg None = codes "-"

-- the kept ring and segment number are those of the final address, if there is one
abbrev pub HasRingSegment : ℕ → ℕ → Option FinalFields → Type 0
HasRingSegment ring seg (Some end) = (ring ≡ end.at.ring) × (seg ≡ end.at.seg)
HasRingSegment ring seg None = Unit {0}
