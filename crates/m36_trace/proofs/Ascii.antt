-- The characters of digits are ASCII.
use Rattle.std.proofs.Common.{ℕ, [], ◌++◌, arith}
use Rattle.std.specs.Str.{IsAscii}
use Rattle.std.specs.Prelude.{codes}
use Rattle.std.proofs.lemmas.Str.{IsAscii-append}
use Rattle.std.proofs.lemmas.Str.Ascii.{IsAscii-nil, IsAscii-cons}
use Rattle.m36_text.specs.Digits.{octal_text}
use Rattle.m36_text.proofs.DigitLaws.{octal_ascii}
use Rattle.m36_trace.specs.TraceLine.{segment_word_text}

-- a segment and a word of it
pub place_is_ascii : (seg word : ℕ) → IsAscii (segment_word_text seg word)
place_is_ascii seg word =
    IsAscii-append (octal_text 5 seg ++ codes "|") (octal_text 6 word) (IsAscii-append (octal_text 5 seg) (codes "|") (octal_ascii 5 seg) (IsAscii-cons 124 [] (omega arith) IsAscii-nil)) (octal_ascii 6 word)
