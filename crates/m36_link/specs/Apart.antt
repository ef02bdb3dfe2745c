-- Lists of sections with at most one section for each segment and ring.
use Rattle.std.specs.Prelude.{ℕ, ◌≡◌, List, slice_get, Some}
use Rattle.m36_link.specs.Fields.{PlacedSectionFields}
use Rattle.m36_link.specs.Known.{laid_in}

-- each section is the one that is found for its ring and segment
pub record AreEachFound (laid : List PlacedSectionFields) : Type 0 where
  pub found :
      (i : ℕ) (l : PlacedSectionFields) → slice_get laid i ≡ Some l → laid_in laid l.ring l.seg
      ≡ Some l
