-- What is known after an answer is accepted: one more name, if it was not yet initiated, and the
-- section that was laid.
use Rattle.std.specs.Prelude.{ℕ, ◌≡◌, ◌+◌, ◌≤◌, if◌then◌else◌, List, [], ◌∷◌, ◌++◌, length}
use Rattle.std.specs.Prelude.{Option, Some, None, is_some}
use Rattle.m36_text.specs.Once.{appended_unless}
use Rattle.obj36_parts.specs.Fields.{LinkFields}
use Rattle.obj36_parts.specs.ObjectSegment.{has_name, segment_limit}
use Rattle.m36_link.specs.Fields.{RingNameFields, PlacedSectionFields, NewSectionFields}
use Rattle.m36_link.specs.Fields.{KnownFields, SnapFields}
use Rattle.m36_link.specs.Known.{initiated_segment, laid_in, next_base_in_ring}

-- the place of a section that has to be laid
abbrev pub placed_section_of : NewSectionFields → PlacedSectionFields
placed_section_of l = record { ring = l.ring; seg = l.seg; base = l.base; size = length l.words }

-- the sections that are laid, with this one added if there is one
unfoldable pub with_section :
    List PlacedSectionFields → Option NewSectionFields → List PlacedSectionFields
with_section laid None = laid
with_section laid (Some l) = laid ++ placed_section_of l ∷ []

-- the names that are initiated, with the name of a link of type 3 or 4 added if it was not
unfoldable pub with_initiated_name : List (RingNameFields × ℕ) → ℕ → LinkFields → ℕ
    → List (RingNameFields × ℕ)
with_initiated_name names ring link target =
    if has_name link.kind then
    appended_unless (is_some (initiated_segment names ring link.name)) names
    (record { ring = ring; name = link.name }, target)
    else names

-- what is known after an answer is accepted
unfoldable pub known_after : KnownFields → SnapFields → KnownFields
known_after known s =
    record {
      names = with_initiated_name known.names s.ring s.link s.target;
      laid = with_section known.laid s.lay;
    }

-- This section may be laid next: its segment has no section in its ring yet, it begins where the
-- next section of the ring has to begin, and it ends within the linkage segment.
pub record IsNextSection (known : KnownFields) (l : NewSectionFields) : Type 0 where
  pub absent : laid_in known.laid l.ring l.seg ≡ None
  pub base : l.base ≡ next_base_in_ring known.laid l.ring
  pub fits : l.base + length l.words ≤ segment_limit

-- an answer may lay this section, if it lays one
abbrev pub MayBeLaid : KnownFields → Option NewSectionFields → Type 0
MayBeLaid known None = Unit {0}
MayBeLaid known (Some l) = IsNextSection known l
