-- The names of a definition section, each once, in order of first use.
use Rattle.std.specs.Prelude.{ℕ, zero, suc, ◌+◌, ◌*◌, ◌/◌, if◌then◌else◌, List, [], ◌∷◌, ◌++◌}
use Rattle.std.specs.Prelude.{length, map, slice_index}
pub use Rattle.m36_text.specs.Texts.{are_same as same, is_name_character}
unfoldable pub use Rattle.m36_text.specs.Texts.{is_name}
use Rattle.m36_text.specs.Once.{appended_if_new}
use Rattle.obj36_parts.specs.Halves.{of_quarters}

-- ---- which names there are, and where

-- names, with one more at the end unless they have it
unfoldable pub with_name : List (List ℕ) → List ℕ → List (List ℕ)
with_name names name = appended_if_new (same name) names name

-- names, with others added one by one
unfoldable pub with_names : List (List ℕ) → List (List ℕ) → List (List ℕ)
with_names names [] = names
with_names names (name ∷ more) = with_names (with_name names name) more

-- the names of a table that has a name in each entry
abbrev pub names_in : {A : Type 0} → List (List ℕ × A) → List (List ℕ)
names_in entries = map (λ e. e.0) entries

-- the number of words of a name: nine bits for its length and nine for each character
unfoldable pub name_size : List ℕ → ℕ
name_size name = length name / 4 + 1

-- the offset of a name among names that are placed one after another from an offset on; after the
-- last if it is not among them
unfoldable pub name_offset : List ℕ → List (List ℕ) → ℕ → ℕ
name_offset name [] at = at
name_offset name (first ∷ others) at =
    if same name first then at else name_offset name others (at + name_size first)

-- ---- the words of a name

-- part i of the nine-bit parts of a name: part 0 is its length, then its characters follow, then
-- zeros
unfoldable pub name_quarter : List ℕ → ℕ → ℕ
name_quarter name i = slice_index (length name ∷ name) i

-- word j of a name, counted from 0
unfoldable pub name_word : List ℕ → ℕ → ℕ
name_word name j =
    of_quarters (name_quarter name (4 * j)) (name_quarter name (4 * j + 1))
    (name_quarter name (4 * j + 2))
    (name_quarter name (4 * j + 3))

-- `count` words of a name, from word j on
unfoldable pub name_words_from : List ℕ → ℕ → ℕ → List ℕ
name_words_from name j zero = []
name_words_from name j (suc count) = name_word name j ∷ name_words_from name (suc j) count

-- the words of a name: its length and its characters, four to a word
unfoldable pub name_words : List ℕ → List ℕ
name_words name = name_words_from name 0 (name_size name)

-- the words of names, one name after another
unfoldable pub all_name_words : List (List ℕ) → List ℕ
all_name_words [] = []
all_name_words (name ∷ names) = name_words name ++ all_name_words names
