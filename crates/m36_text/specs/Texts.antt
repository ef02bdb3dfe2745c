-- Comparison of texts, and the characters of names.
use Rattle.std.specs.Prelude.{ℕ, Bool, not, ◌&&◌, ◌||◌, ◌==◌, nat_le, nat_eq, List, length}
use Rattle.std.specs.Prelude.{slice_index}
use Rattle.std.specs.List.{list_all}
use Rattle.std.specs.Cmp.Lexicographic.{pointwise}
use Rattle.m36_text.specs.Digits.{is_digit}

-- whether two texts are the same
abbrev pub are_same : List ℕ → List ℕ → Bool
are_same text other = pointwise nat_eq text other

-- whether `text` is exactly `name`
abbrev pub is_text : List ℕ → List ℕ → Bool
is_text name text = are_same text name

-- a-z
abbrev pub is_small_letter : ℕ → Bool
is_small_letter c = nat_le 97 c && nat_le c 122

-- A-Z a-z
abbrev pub is_letter : ℕ → Bool
is_letter c = (nat_le 65 c && nat_le c 90) || is_small_letter c

-- A-Z a-z 0-9 _
abbrev pub is_word_character : ℕ → Bool
is_word_character c = is_letter c || is_digit 10 c || (c == 95)

-- A-Z a-z 0-9 _ .
abbrev pub is_name_character : ℕ → Bool
is_name_character c = is_word_character c || (c == 46)

-- from 1 to `most` characters, each of which passes the test
abbrev pub is_run_of : (ℕ → Bool) → ℕ → List ℕ → Bool
is_run_of may most text = nat_le 1 (length text) && nat_le (length text) most && list_all may text

-- the most characters of a name
abbrev pub name_limit : ℕ
name_limit = 32

-- a name: 1 to 32 characters of a name
unfoldable pub is_name : List ℕ → Bool
is_name text = is_run_of is_name_character name_limit text

-- a name of a file or a segment, which does not begin with a point
unfoldable pub is_file_name : List ℕ → Bool
is_file_name text = is_name text && not (slice_index text 0 == 46)
