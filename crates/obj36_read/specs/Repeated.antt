-- Names that occur twice, by the least place of each name so far.
use Rattle.std.specs.Prelude.{ℕ, zero, suc, Bool, ◌&&◌, nat_eq, if◌then◌else◌, min, List, Option}
use Rattle.std.specs.Prelude.{None}
use Rattle.std.specs.Option.{option_map}
use Rattle.std.specs.Map.{lookup}
use Rattle.std.specs.Cmp.Lexicographic.{pointwise}
use Rattle.obj36_read.specs.Reading.{quarter_at}
use Rattle.obj36_read.specs.TableFaults.{earlier, next_definition, name_offset_at, name_is_within}
use Rattle.obj36_read.specs.Spelled.{words_but_last, last_word_value}
use Rattle.obj36_read.specs.declared.repeats.Spelling.{Spelling}

-- whether the name at a place has this spelling
unfoldable pub has_spelling : List ℕ → ℕ → Spelling → Bool
has_spelling d at s =
    pointwise nat_eq (words_but_last d at) s.whole.now
    && (nat_eq (quarter_at d at 0) s.length && nat_eq (last_word_value d at) s.last)

-- The lesser of `at` and the least place so far of the name at `at`. None if the name did not occur
-- before, or is not within the section.
unfoldable pub least_earlier_place : List ℕ → List (Spelling × ℕ) → ℕ → Option ℕ
least_earlier_place d places at =
    if name_is_within d at then option_map (min at) (lookup (has_spelling d at) places) else None

-- the least of the results of `least_earlier_place` for the names of `count` definitions from `at`
-- on
unfoldable pub least_repeated_place : List ℕ → List (Spelling × ℕ) → ℕ → ℕ → Option ℕ
least_repeated_place d places zero at = None
least_repeated_place d places (suc count) at =
    earlier (least_earlier_place d places (name_offset_at d at))
    (least_repeated_place d places count (next_definition d at))
