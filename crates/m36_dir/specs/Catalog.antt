-- The catalog that a boot text describes, or the fault of the text.
use Rattle.std.specs.Prelude.{ℕ, ◌≡◌, Bool, false, ◌&&◌, nat_eq, List, [], ◌∷◌, ◌++◌, take, All}
use Rattle.std.specs.Prelude.{Contains}
use Rattle.std.specs.Prelude.{position, slice_get, slice_set, Option, Some, None, unwrap_or}
use Rattle.std.specs.Prelude.{option_map, Result}
use Rattle.std.specs.Prelude.{Ok, Err, IfSome}
use Rattle.std.specs.List.{list_any}
use Rattle.m36_text.specs.Texts.{is_text}
use Rattle.m36_text.specs.Once.{appended_if_new}
use Rattle.m36_text.specs.Results.{value_unless}
use Rattle.m36_dir.specs.declared.fault.CatalogFault.{CatalogFault}
use Rattle.m36_dir.specs.declared.fault.CatalogFault.TheVariants as fault
use Rattle.m36_dir.specs.declared.boot_line.BootLine.{BootLine}
use Rattle.m36_dir.specs.declared.boot_line.BootLine.TheVariants as line
use Rattle.m36_dir.specs.declared.boot_code.BootCode.{BootCode}
use Rattle.m36_dir.specs.declared.boot_code.BootCode.TheVariants.{D1, D2, D3, D4, D5, D6}
use Rattle.m36_dir.specs.Fields.{SegmentFields, SegmentLineFields}
use Rattle.m36_dir.specs.StartFields.{StartFields}
use Rattle.m36_dir.specs.BootOrder.{well_formed_lines, first_code}
use Rattle.m36_text.specs.Lines.{last_of}

-- A catalog. Directories are referred to by their numbers, counted from 0.
pub record CatalogFields : Type 0 where
  pub frames : ℕ
  pub directories : List (List ℕ)
  pub work : ℕ
  pub libraries : List ℕ
  pub segments : List SegmentFields
  pub start : StartFields

-- ---- directories, in the order in which segment lines first have them

-- directories with one more, unless they have it
abbrev pub with_directory : List (List ℕ) → List ℕ → List (List ℕ)
with_directory dirs dir = appended_if_new (is_text dir) dirs dir

-- directories with that of a line, if it is a segment line
abbrev pub with_directory_of : List (List ℕ) → BootLine → List (List ℕ)
with_directory_of dirs (line.Segment given) = with_directory dirs given.dir
with_directory_of dirs _ = dirs

-- directories with those of lines, each once
unfoldable pub directories_from : List (List ℕ) → List BootLine → List (List ℕ)
directories_from dirs [] = dirs
directories_from dirs (next ∷ lines) = directories_from (with_directory_of dirs next) lines

-- the number of a directory, counted from 0; also 0 if it is not in the list
unfoldable pub directory_number_in : List (List ℕ) → List ℕ → ℕ
directory_number_in dirs dir = unwrap_or (position (is_text dir) dirs) 0

-- the name of the directory of a segment
abbrev pub directory_in : List (List ℕ) → SegmentFields → List ℕ
directory_in dirs segment = unwrap_or (slice_get dirs segment.dir) []

-- ---- segments

-- the further names in the `name` lines directly after a segment line
unfoldable pub names_after : List BootLine → List (List ℕ)
names_after (line.Name name ∷ lines) = name ∷ names_after lines
names_after _ = []

-- the segment of a segment line, with these further names
abbrev pub segment_with : List (List ℕ) → SegmentLineFields → List (List ℕ) → SegmentFields
segment_with dirs given names =
    record {
      names = given.name ∷ names;
      file = given.file;
      dir = directory_number_in dirs given.dir;
      kind = given.kind;
      mode = given.mode;
      r1 = given.r1;
      r2 = given.r2;
      r3 = given.r3;
    }

-- the segment of a line, if it is a segment line; `behind` are the lines after it
abbrev pub segment_of : List (List ℕ) → BootLine → List BootLine → List SegmentFields
segment_of dirs (line.Segment given) behind = segment_with dirs given (names_after behind) ∷ []
segment_of dirs _ behind = []

-- the segments of lines, in order
unfoldable pub segments_in : List (List ℕ) → List BootLine → List SegmentFields
segments_in dirs [] = []
segments_in dirs (next ∷ lines) = segment_of dirs next lines ++ segments_in dirs lines

-- ---- the other lines

-- the directory number of a library line
abbrev pub library_of : List (List ℕ) → BootLine → List ℕ
library_of dirs (line.Library dir) = directory_number_in dirs dir ∷ []
library_of dirs _ = []

-- the directory numbers of the library lines, in order
unfoldable pub libraries_in : List (List ℕ) → List BootLine → List ℕ
libraries_in dirs [] = []
libraries_in dirs (next ∷ lines) = library_of dirs next ++ libraries_in dirs lines

-- the number of frames, from the first line
abbrev pub frames_of : Option BootLine → ℕ
frames_of (Some (line.Frames n)) = n
frames_of _ = 0

-- the working directory, from the second line
abbrev pub working_directory_of : Option BootLine → List ℕ
working_directory_of (Some (line.Work dir)) = dir
working_directory_of _ = []

-- the start for lines that do not end with a `start` line; such lines give no catalog
abbrev pub no_start : StartFields
no_start = record { name = []; entry = []; ring = 0 }

-- the start, from the last line
abbrev pub start_of : Option BootLine → StartFields
start_of (Some (line.Start start)) = start
start_of _ = no_start

-- the catalog of lines that all have no code
unfoldable pub catalog_in : List BootLine → CatalogFields
catalog_in lines =
    let dirs = directories_from [] lines in
    record {
      frames = frames_of (slice_get lines 0);
      directories = dirs;
      work = directory_number_in dirs (working_directory_of (slice_get lines 1));
      libraries = libraries_in dirs lines;
      segments = segments_in dirs lines;
      start = start_of (last_of lines);
    }

-- ---- the text

-- the fault of line n with this code
abbrev pub fault_at : ℕ → BootCode → CatalogFault
fault_at n D1 = fault.D1 n
fault_at n D2 = fault.D2 n
fault_at n D3 = fault.D3 n
fault_at n D4 = fault.D4 n
fault_at n D5 = fault.D5 n
fault_at n D6 = fault.D6 n

-- the catalog, or the fault of the first line with a code if there is one (`told`)
abbrev pub catalog_or_fault :
    Option (ℕ × BootCode) → CatalogFields → Result CatalogFields CatalogFault
catalog_or_fault told catalog =
    value_unless (option_map (λ (first : ℕ × BootCode). fault_at first.0 first.1) told) catalog

-- the catalog that a text describes, or the fault of the text
unfoldable pub catalog_of : List ℕ → Result CatalogFields CatalogFault
catalog_of text = catalog_or_fault (first_code text) (catalog_in (well_formed_lines text))

-- The fault of a call is that of the definition, or it is NoMemory, which is allowed for every
-- text.
abbrev pub RefusesWith : CatalogFault → Result CatalogFields CatalogFault → Type 0
RefusesWith fault.NoMemory definition = Unit {0}
RefusesWith told definition = definition ≡ Err told

-- The result of a call is that of the definition, or `NoMemory`.
abbrev pub CatalogResult :
    Result CatalogFields CatalogFault → Result CatalogFields CatalogFault → Type 0
CatalogResult (Ok catalog) definition = definition ≡ Ok catalog
CatalogResult (Err told) definition = RefusesWith told definition

-- ---- looking up, and rights

-- whether one of the names of a segment is this one
abbrev pub has_name : List ℕ → SegmentFields → Bool
has_name name segment = list_any (is_text name) segment.names

-- whether a segment has a name in a directory
abbrev pub has_entry_named : ℕ → List ℕ → SegmentFields → Bool
has_entry_named dir name segment = nat_eq segment.dir dir && has_name name segment

-- the number of the segment of a directory that has a name, if there is one
unfoldable pub find_segment : CatalogFields → ℕ → List ℕ → Option ℕ
find_segment catalog dir name = position (λ s. has_entry_named dir name s) catalog.segments

-- segment i is in the directory and has the name, and no segment before it has both
pub record IsFirstNamed (segments : List SegmentFields) (dir : ℕ) (name : List ℕ)
    (i : ℕ) : Type 0 where
  pub segment : SegmentFields
  pub at : slice_get segments i ≡ Some segment
  pub inside : segment.dir ≡ dir
  pub named : Contains segment.names name
  pub first : All (λ s. has_entry_named dir name s ≡ false) (take i segments)

-- The answer is the first segment of the directory that has the name. If there is no answer, no
-- segment of the directory has it.
abbrev pub FindsFirst : List SegmentFields → ℕ → List ℕ → Option ℕ → Type 0
FindsFirst segments dir name (Some i) = IsFirstNamed segments dir name i
FindsFirst segments dir name None = All (λ s. has_entry_named dir name s ≡ false) segments

-- a segment with other rights to read, execute and write; nothing else changes
abbrev pub with_rights : SegmentFields → Bool → Bool → Bool → SegmentFields
with_rights s readable executable writable =
    record s {
      mode = record s.mode {
        readable = readable;
        executable = executable;
        writable = writable;
      };
    }

-- the rights of segment i are set, if there is such a segment, and nothing else changes
abbrev pub SetsRights : CatalogFields → CatalogFields → ℕ → Bool → Bool → Bool → Type 0
SetsRights old new i readable executable writable =
    IfSome (slice_get old.segments i)
    (λ s. new ≡ record old
    { segments = slice_set old.segments i (with_rights s readable executable writable) })
