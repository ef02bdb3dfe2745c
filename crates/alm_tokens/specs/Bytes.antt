-- Classes of bytes.
use Rattle.std.specs.Prelude.{ℕ, Bool, ◌&&◌, ◌||◌, ◌==◌, nat_le}
use Rattle.m36_text.specs.Texts.{is_letter, is_name_character}

-- whether a byte is a space or a tab
abbrev pub is_blank : ℕ → Bool
is_blank b = (b == 32) || (b == 9)

-- whether a byte can begin a symbol: a letter or `_`
abbrev pub begins_symbol : ℕ → Bool
begins_symbol b = is_letter b || (b == 95)

-- whether a byte is a minus
abbrev pub is_minus : ℕ → Bool
is_minus b = b == 45

-- whether a byte is a plus or a minus
abbrev pub is_sign : ℕ → Bool
is_sign b = (b == 43) || is_minus b

-- whether a byte begins a comment: a quotation mark
abbrev pub begins_comment : ℕ → Bool
begins_comment b = b == 34

-- whether `aci` can place a byte: octal 40 to 176
abbrev pub is_placeable_character : ℕ → Bool
is_placeable_character b = nat_le 32 b && nat_le b 126

-- whether a byte is one of | : * $ , or the quotation mark
abbrev pub is_punctuation : ℕ → Bool
is_punctuation b =
    (b == 124) || (b == 58) || (b == 42) || (b == 36) || (b == 44) || begins_comment b

-- Whether a source can have a byte outside comments and outside the characters of `aci`, up to its
-- operation `end`.
unfoldable pub is_source_byte : ℕ → Bool
is_source_byte b = is_blank b || is_name_character b || (b == 10) || is_sign b || is_punctuation b
