-- The invariant of catalogs, whatever rights are set.
use Rattle.std.specs.Prelude.{ℕ, ◌≡◌, ◌<◌, ◌≤◌, true, List, [], Some, Ok, length, map, slice_get}
use Rattle.std.specs.Prelude.{All, Contains}
use Rattle.std.specs.List.{flat_map}
use Rattle.m36_text.specs.Texts.{is_text}
use Rattle.m36_text.specs.Once.{are_distinct_by}
use Rattle.m36_dir.specs.Fields.{SegmentFields}
use Rattle.m36_dir.specs.BootLine.{most_frames}
use Rattle.m36_dir.specs.BootOrder.{Entry, entry, is_same_entry, entries_from, well_formed_lines}
use Rattle.m36_dir.specs.BootOrder.{most_segments, most_names, most_libraries}
use Rattle.m36_dir.specs.Catalog.{CatalogFields, directory_in, catalog_of, find_segment}

-- a segment of a catalog with this many directories
pub record IsSegment (directories : ℕ) (s : SegmentFields) : Type 0 where
  pub named : 1 ≤ length s.names
  pub names : length s.names ≤ most_names
  pub dir : s.dir < directories
  pub read_bracket : s.r1 ≤ s.r2
  pub call_bracket : s.r2 ≤ s.r3

-- the invariant of a catalog: its counts are within their limits, and its directory numbers are
-- those of its directories
pub record IsCatalog (c : CatalogFields) : Type 0 where
  pub some_frames : 1 ≤ c.frames
  pub frames : c.frames ≤ most_frames
  pub some_segments : 1 ≤ length c.segments
  pub segments : length c.segments ≤ most_segments
  pub directories : length c.directories ≤ most_segments
  pub work : c.work < length c.directories
  pub libraries : length c.libraries ≤ most_libraries
  pub each_library : All (λ d. d < length c.directories) c.libraries
  pub each_segment : All (IsSegment (length c.directories)) c.segments

-- A text that is parsed without a fault yields a catalog with the invariant.
abbrev pub ReadsIntoCatalogs : Type 0
ReadsIntoCatalogs = (text : List ℕ) (c : CatalogFields) → catalog_of text ≡ Ok c → IsCatalog c

-- the names of segments, each with the directory of its segment
abbrev pub entries_in : List (List ℕ) → List SegmentFields → List Entry
entries_in dirs segments =
    flat_map (λ (s : SegmentFields). map (entry (directory_in dirs s)) s.names) segments

-- The names of a catalog that was read are those that the lines of the text put into directories.
abbrev pub NamesAreThoseOfTheText : Type 0
NamesAreThoseOfTheText =
    (text : List ℕ) (c : CatalogFields) → catalog_of text ≡ Ok c
    → entries_in c.directories c.segments ≡ entries_from [] (well_formed_lines text)

-- No name of a catalog that was read occurs twice in a directory.
abbrev pub NamesOnce : Type 0
NamesOnce =
    (text : List ℕ) (c : CatalogFields) → catalog_of text ≡ Ok c
    → are_distinct_by is_same_entry (entries_in c.directories c.segments) ≡ true

-- No directory of a catalog that was read occurs twice, so a directory has one number.
abbrev pub DirectoriesOnce : Type 0
DirectoriesOnce =
    (text : List ℕ) (c : CatalogFields) → catalog_of text ≡ Ok c
    → are_distinct_by is_text c.directories ≡ true

-- In a catalog that was read, each segment is found by each of its names.
abbrev pub FoundByEachName : Type 0
FoundByEachName =
    (text : List ℕ) (c : CatalogFields) → catalog_of text ≡ Ok c → (i : ℕ) (s : SegmentFields)
    → slice_get c.segments i ≡ Some s → (name : List ℕ) → Contains s.names name
    → find_segment c s.dir name ≡ Some i
