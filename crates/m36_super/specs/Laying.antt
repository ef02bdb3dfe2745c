-- Words that are written into segments: several one after another, and a linkage section with its
-- word of the linkage offset table.
use Rattle.std.specs.Prelude.{ℕ, ◌+◌, List, [], ◌∷◌, ◌++◌, Option, None, Some}
use Rattle.m36_model.specs.Act.{Whole}
use Rattle.m36_model.specs.Store.{Segment_word, Change}
use Rattle.m36_link.specs.Fields.{NewSectionFields}
use Rattle.m36_link.specs.Known.{linkage_segment, lot_word}

-- these words, written into a segment from word number `w` on
unfoldable pub written_from : ℕ → ℕ → List ℕ → List Change
written_from seg w [] = []
written_from seg w (v ∷ words) =
    record { spot = Segment_word seg w; part = Whole; value = v }
    ∷ written_from seg (w + 1) words

-- the words that are written to lay a linkage section: those of the section, and its word of the
-- linkage offset table of the ring; none if no section is laid
unfoldable pub section_changes : Option NewSectionFields → List Change
section_changes None = []
section_changes (Some l) =
    written_from (linkage_segment l.ring) l.base l.words
    ++ written_from (linkage_segment l.ring) l.seg (lot_word l ∷ [])
