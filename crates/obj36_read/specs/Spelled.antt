-- The words of the names of a definition section: two names are equal exactly if they agree in
-- these numbers.
use Rattle.std.specs.Prelude.{ℕ, zero, suc, ◌+◌, ◌/◌, ◌%◌, ◌^◌, List, take, drop, slice_index}
use Rattle.obj36_read.specs.Reading.{quarter_at}

-- the words of a name but the last
unfoldable pub words_but_last : List ℕ → ℕ → List ℕ
words_but_last d at = take (quarter_at d at 0 / 4) (drop at d)

-- the first n + 1 parts of nine bits of a word, as one number
unfoldable pub leading_quarters_value : ℕ → ℕ → ℕ
leading_quarters_value w zero = w / 2 ^ 27
leading_quarters_value w (suc zero) = w / 2 ^ 18
leading_quarters_value w (suc (suc zero)) = w / 2 ^ 9
leading_quarters_value w (suc (suc (suc n))) = w

-- the nine-bit parts of the last word of a name that belong to the name, as one number
unfoldable pub last_word_value : List ℕ → ℕ → ℕ
last_word_value d at =
    leading_quarters_value (slice_index d (at + quarter_at d at 0 / 4)) (quarter_at d at 0 % 4)
