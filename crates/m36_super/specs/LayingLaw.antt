-- A link service lays the first linkage section of a ring as the image of a start does.
use Rattle.std.specs.Prelude.{◌≡◌, ◌≢◌, ℕ, ◌<◌, Some, slice_index}
use Rattle.m36_model.specs.Flat.{Flat, flat_put}
use Rattle.m36_link.specs.Fields.{NewSectionFields}
use Rattle.m36_link.specs.Known.{nothing_known, linkage_segment, lot_words}
use Rattle.m36_link.specs.Accepted.{IsNextSection}
use Rattle.m36_boot.specs.Segments.{linkage_words}
use Rattle.m36_super.specs.Laying.{section_changes}

-- If the first linkage section of a ring is laid and the linkage segment of the ring is all zeros,
-- this segment then has the words with which the image lays the section: in the linkage offset
-- table the word for it, and after the table its words. No word of another segment changes.
pub record LayingLaw : Type 0 where
  pub here :
      (l : NewSectionFields) (f : Flat) → IsNextSection nothing_known l → l.seg < lot_words
      → ((w : ℕ) → f.content (linkage_segment l.ring) w ≡ 0) → (w : ℕ)
      → (flat_put f (section_changes (Some l))).content (linkage_segment l.ring) w
      ≡ slice_index (linkage_words (Some l) l.ring) w
  pub elsewhere :
      (l : NewSectionFields) (f : Flat) (seg w : ℕ) → seg ≢ linkage_segment l.ring
      → (flat_put f (section_changes (Some l))).content seg w ≡ f.content seg w
