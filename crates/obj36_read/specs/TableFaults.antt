-- Faults of the tables of a definition section, indexed from word 0 of the section.
use Rattle.std.specs.Prelude.{ℕ, zero, suc, ◌+◌, ◌-◌, ◌*◌, ◌/◌, ◌%◌, Bool, true, false, ◌&&◌, ◌||◌}
use Rattle.std.specs.Prelude.{not, nat_eq, nat_lt, nat_le, if◌then◌else◌, min, List, length}
use Rattle.std.specs.Prelude.{slice_index, Option, Some, None}
use Rattle.m36_text.specs.Texts.{name_limit}
use Rattle.obj36_parts.specs.Halves.{left, right}
use Rattle.obj36_parts.specs.Names.{is_name_character}
use Rattle.obj36_parts.specs.ObjectSegment.{has_name, has_entry, greatest_class_number}
use Rattle.obj36_parts.specs.Sections.{entry_mark}
use Rattle.obj36_parts.specs.ObjectSegment.{first_expression_at}
use Rattle.obj36_read.specs.Reading.{quarter_at}

-- the lesser of two indexes, each of which may be missing
abbrev pub earlier : Option ℕ → Option ℕ → Option ℕ
earlier None q = q
earlier (Some p) None = Some p
earlier (Some p) (Some q) = Some (min p q)

-- the index, if the condition holds
abbrev pub index_if_bad : Bool → ℕ → Option ℕ
index_if_bad bad at = if bad then Some at else None

-- ---- the chain of definitions

-- the number of definitions that the head of a definition section has
unfoldable pub definition_count : List ℕ → ℕ
definition_count d = right (slice_index d 0)

-- the offset of the first definition, which the head has
unfoldable pub first_definition : List ℕ → ℕ
first_definition d = left (slice_index d 0)

-- the offset of the next definition, 0 after the last
unfoldable pub next_definition : List ℕ → ℕ → ℕ
next_definition d at = left (slice_index d at)

-- whether a definition at an offset is within the section
unfoldable pub has_room_for_definition : List ℕ → ℕ → Bool
has_room_for_definition d at = not (nat_eq at 0) && nat_le (at + 2) (length d)

-- Follows the chain of definitions. `count` more are expected, the next one at `at`, and the word
-- `holder` has that offset. A chain with fewer or more members is a fault of word 0. If the offset
-- after the last one is neither 0 nor within the section, the fault is that of its holder.
unfoldable pub chain_fault : List ℕ → ℕ → ℕ → ℕ → Option ℕ
chain_fault d zero holder at =
    if nat_eq at 0 then None else (if has_room_for_definition d at then Some 0 else Some holder)
chain_fault d (suc count) holder at =
    if has_room_for_definition d at then chain_fault d count at (next_definition d at) else Some 0

-- The fault of the number of definitions: word 0, if the section has no room for them after the two
-- words of its head, and otherwise the fault of their chain.
unfoldable pub count_fault : List ℕ → Option ℕ
count_fault d =
    if nat_lt (length d) (first_expression_at (definition_count d))
    then Some 0
    else chain_fault d (definition_count d) 0 (first_definition d)

-- ---- the table of expressions

-- the number of expressions that the head has
unfoldable pub expression_count : List ℕ → ℕ
expression_count d = right (slice_index d 1)

-- the offset of the first expression, which the head has
unfoldable pub first_expression : List ℕ → ℕ
first_expression d = left (slice_index d 1)

-- whether the table of expressions is not within the section
unfoldable pub expressions_leave_section : List ℕ → Bool
expressions_leave_section d =
    nat_le (length d) (first_expression d)
    || nat_lt (length d) (first_expression d + 2 * expression_count d)

-- ---- classes

-- the class of a definition, without the mark of an entry
unfoldable pub class_at : List ℕ → ℕ → ℕ
class_at d at =
    if nat_lt (right (slice_index d at)) entry_mark
    then right (slice_index d at)
    else (right (slice_index d at) - entry_mark)

-- the first of `count` definitions from `at` on whose class is over `last`
unfoldable pub first_bad_class : ℕ → List ℕ → ℕ → ℕ → Option ℕ
first_bad_class last d zero at = None
first_bad_class last d (suc count) at =
    earlier (index_if_bad (nat_lt last (class_at d at)) at)
    (first_bad_class last d count (next_definition d at))

-- ---- names that occur twice

-- the offset of the name of a definition
unfoldable pub name_offset_at : List ℕ → ℕ → ℕ
name_offset_at d at = right (slice_index d (at + 1))

-- whether the name that begins at an offset is within the section
unfoldable pub name_is_within : List ℕ → ℕ → Bool
name_is_within d at = nat_lt at (length d) && nat_le (at + quarter_at d at 0 / 4 + 1) (length d)

-- whether `count` parts of nine bits from part i on are the same in two names
unfoldable pub same_quarters : List ℕ → ℕ → ℕ → ℕ → ℕ → Bool
same_quarters d at other i zero = true
same_quarters d at other i (suc count) =
    nat_eq (quarter_at d at i) (quarter_at d other i) && same_quarters d at other (i + 1) count

-- whether two names are within the section and are equal
unfoldable pub same_name : List ℕ → ℕ → ℕ → Bool
same_name d at other =
    name_is_within d at && name_is_within d other && same_quarters d at other 0
    (quarter_at d at 0 + 1)

-- the least place of a name, or of an equal name of `count` definitions from `at` on, if there is
-- one
unfoldable pub first_repeat_of : List ℕ → ℕ → ℕ → ℕ → Option ℕ
first_repeat_of d name zero at = None
first_repeat_of d name (suc count) at =
    earlier (index_if_bad (same_name d name (name_offset_at d at)) (min name (name_offset_at d at)))
    (first_repeat_of d name count (next_definition d at))

-- the least place of a name that two of `count` definitions from `at` on have
unfoldable pub first_repeat : List ℕ → ℕ → ℕ → Option ℕ
first_repeat d zero at = None
first_repeat d (suc count) at =
    earlier (first_repeat_of d (name_offset_at d at) count (next_definition d at))
    (first_repeat d count (next_definition d at))

-- ---- O5

-- whether a fault is that of word 0
abbrev pub is_at_head : Option ℕ → Bool
is_at_head None = false
is_at_head (Some p) = nat_eq p 0

-- the first fault of the table of expressions, the classes and the names that occur twice, if the
-- number of definitions is right
unfoldable pub members_fault : ℕ → List ℕ → Option ℕ
members_fault version d =
    earlier
    (index_if_bad (expressions_leave_section d) 1)
    (earlier (first_bad_class (greatest_class_number version) d (definition_count d)
    (first_definition d))
    (first_repeat d (definition_count d) (first_definition d)))

-- the first word with which O5 refuses a definition section
unfoldable pub table_fault : ℕ → List ℕ → Option ℕ
table_fault version d =
    if is_at_head (count_fault d)
    then Some 0
    else earlier (count_fault d) (members_fault version d)

-- ---- O6

-- whether `count` parts from part i on are characters of a name
unfoldable pub are_characters : List ℕ → ℕ → ℕ → ℕ → Bool
are_characters d at i zero = true
are_characters d at i (suc count) =
    is_name_character (quarter_at d at i) && are_characters d at (i + 1) count

-- whether `count` parts from part i on are zero
unfoldable pub are_zeros : List ℕ → ℕ → ℕ → ℕ → Bool
are_zeros d at i zero = true
are_zeros d at i (suc count) = nat_eq (quarter_at d at i) 0 && are_zeros d at (i + 1) count

-- whether a valid name is at an offset: its length, as many characters, and zeros to the end of its
-- last word
unfoldable pub is_name_at : List ℕ → ℕ → Bool
is_name_at d at =
    name_is_within d at && nat_le 1 (quarter_at d at 0) && nat_le (quarter_at d at 0) name_limit
    && are_characters d at 1 (quarter_at d at 0)
    && are_zeros d at (quarter_at d at 0 + 1) (3 - quarter_at d at 0 % 4)

-- The fault of an invalid name is that of the word where the name begins. If that is past the
-- section, it is that of the word `holder`, which has its offset.
unfoldable pub name_fault : List ℕ → ℕ → ℕ → Option ℕ
name_fault d holder at =
    if nat_le (length d) at then Some holder else index_if_bad (not (is_name_at d at)) at

-- the first fault of the names of `count` definitions from `at` on
unfoldable pub defined_names_fault : List ℕ → ℕ → ℕ → Option ℕ
defined_names_fault d zero at = None
defined_names_fault d (suc count) at =
    earlier (name_fault d (at + 1) (name_offset_at d at))
    (defined_names_fault d count (next_definition d at))

-- the first fault of the names of an expression, which depend on its type
unfoldable pub expression_fault : List ℕ → ℕ → Option ℕ
expression_fault d at =
    earlier
    (if has_name (left (slice_index d at))
    then name_fault d at (right (slice_index d at))
    else None)
    (if has_entry (left (slice_index d at))
    then name_fault d (at + 1) (left (slice_index d (at + 1)))
    else None)

-- the first fault of the names of `count` expressions from `at` on
unfoldable pub linked_names_fault : List ℕ → ℕ → ℕ → Option ℕ
linked_names_fault d zero at = None
linked_names_fault d (suc count) at =
    earlier (expression_fault d at) (linked_names_fault d count (at + 2))

-- the first word with which O6 refuses a definition section
unfoldable pub names_fault : List ℕ → Option ℕ
names_fault d =
    earlier (defined_names_fault d (definition_count d) (first_definition d))
    (linked_names_fault d (expression_count d) (first_expression d))
