-- Faults of links and of the linkage section.
use Rattle.std.specs.Prelude.{ℕ, zero, suc, ◌+◌, ◌*◌, ◌%◌, ◌^◌, Bool, ◌&&◌, ◌||◌, not, nat_eq}
use Rattle.std.specs.Prelude.{nat_lt, nat_le, if◌then◌else◌, List, length, slice_index, Option}
use Rattle.std.specs.Prelude.{Some, None, option_map}
use Rattle.obj36_parts.specs.Halves.{left, right}
use Rattle.obj36_parts.specs.ObjectSegment.{is_newer_version, has_name, has_section}
use Rattle.obj36_parts.specs.ObjectSegment.{last_section_number}
use Rattle.obj36_parts.specs.ObjectSegment.{head_words, link_head}
use Rattle.obj36_read.specs.Reading.{link_start}
use Rattle.obj36_read.specs.TableFaults.{earlier, index_if_bad, expression_count, first_expression}

-- ---- types and sections of expressions, indexed from word 0 of the definition section

-- Whether a word is the first of a valid expression: its left half is a type with a name, or a type
-- with a section whose number is one of this version.
unfoldable pub is_expression_type : ℕ → ℕ → Bool
is_expression_type version word =
    has_name (left word) || (has_section (left word) && nat_le (right word)
    (last_section_number version))

-- the first of `count` expressions from `at` on whose type or section is invalid
unfoldable pub first_bad_type : ℕ → List ℕ → ℕ → ℕ → Option ℕ
first_bad_type version d zero at = None
first_bad_type version d (suc count) at =
    earlier (index_if_bad (not (is_expression_type version (slice_index d at))) at)
    (first_bad_type version d count (at + 2))

-- ---- links, indexed from word 0 of the linkage section

-- the number of links, which the head of the linkage section has
unfoldable pub link_count : List ℕ → ℕ
link_count k = right (slice_index k 1)

-- Whether the head of the linkage section is valid. There are as many links as expressions, they
-- end at the end of the section, and before them are an even number of static words in version 1
-- and none in version 2.
unfoldable pub is_valid_linkage_head : ℕ → List ℕ → List ℕ → Bool
is_valid_linkage_head version d k =
    nat_eq (link_count k) (expression_count d)
    && nat_le head_words (link_start k)
    && nat_eq (link_start k % 2) 0
    && nat_eq (link_start k + 2 * link_count k) (length k)
    && (not (is_newer_version version) || nat_eq (link_start k) head_words)

-- whether the link at `at` is valid and has its expression at `expression`
unfoldable pub is_valid_link_at : List ℕ → ℕ → ℕ → Bool
is_valid_link_at k at expression =
    nat_eq (slice_index k at) (link_head at)
    && nat_eq (left (slice_index k (at + 1))) expression
    && nat_lt (right (slice_index k (at + 1))) (2 ^ 6)

-- the first of `count` links from `at` on that is not valid
unfoldable pub first_bad_link : List ℕ → ℕ → ℕ → ℕ → Option ℕ
first_bad_link k at expression zero = None
first_bad_link k at expression (suc count) =
    if is_valid_link_at k at expression
    then first_bad_link k (at + 2) (expression + 2) count
    else Some at

-- The first invalid word of the linkage section. That of an invalid head is word 1.
unfoldable pub linkage_fault : ℕ → List ℕ → List ℕ → Option ℕ
linkage_fault version d k =
    if is_valid_linkage_head version d k
    then first_bad_link k (link_start k) (first_expression d) (link_count k)
    else Some 1

-- ---- O7, indexed from word 0 of the list

-- an index in a section as an index in the list, if the section begins at `from`
abbrev pub index_in_list : ℕ → Option ℕ → Option ℕ
index_in_list from place = option_map (λ p. from + p) place

-- the first word with which O7 refuses a list, given its definition and linkage sections and where
-- they begin
unfoldable pub links_fault : ℕ → ℕ → List ℕ → ℕ → List ℕ → Option ℕ
links_fault version d_from d k_from k =
    earlier (index_in_list d_from (first_bad_type version d (expression_count d)
    (first_expression d)))
    (index_in_list k_from (linkage_fault version d k))
