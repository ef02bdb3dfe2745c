-- The link at a place. It is found in the object as it was booted, never in the words that were
-- laid, which the program may have changed.
use Rattle.std.specs.Prelude.{ℕ, ◌+◌, ◌-◌, ◌/◌, ◌%◌, Bool, ◌&&◌, nat_eq, nat_le, if◌then◌else◌}
use Rattle.std.specs.Prelude.{List, find, slice_get, Option, None, is_some, option_and_then}
use Rattle.m36_model.specs.Fields.{AtFields}
use Rattle.obj36_parts.specs.Fields.{LinkFields}
use Rattle.obj36_parts.specs.ObjectSegment.{first_link}
use Rattle.m36_link.specs.Fields.{PlacedSectionFields}
use Rattle.m36_link.specs.Known.{linkage_segment, object_in}

-- the link whose even word is at `word`, if the first link is at `first`
unfoldable pub link_from : ℕ → ℕ → List LinkFields → Option LinkFields
link_from first word links =
    if nat_le first word && nat_eq ((word - first) % 2) 0 then slice_get links ((word - first) / 2)
    else None

-- the link of a laid section whose even word is word `word` of the linkage segment
unfoldable pub link_in : List (List ℕ) → ℕ → PlacedSectionFields → Option LinkFields
link_in files word l =
    option_and_then (λ o. link_from (l.base + first_link o) word o.links) (object_in files l.seg)

-- the section is in the ring and has a link at the word
abbrev pub holds_link : List (List ℕ) → ℕ → ℕ → PlacedSectionFields → Bool
holds_link files ring word l = nat_eq l.ring ring && is_some (link_in files word l)

-- The section that has the link at a place: it is laid in the ring of the place, and the place is
-- in the linkage segment of that ring.
unfoldable pub section_at :
    List PlacedSectionFields → List (List ℕ) → AtFields → Option PlacedSectionFields
section_at laid files at =
    if nat_eq at.seg (linkage_segment at.ring) then find (holds_link files at.ring at.word) laid
    else None
