-- The answer of a link service: the snapped pair, or the reason why there is none.
use Rattle.std.specs.Prelude.{ℕ, ◌≡◌, if◌then◌else◌, List, [], Option, Some, None, Result, Ok, Err}
use Rattle.m36_model.specs.Fields.{AtFields}
use Rattle.m36_model.specs.declared.endings.LinkCode.{LinkCode}
use Rattle.m36_model.specs.declared.endings.LinkCode.TheVariants.{L1, L2}
use Rattle.m36_dir.specs.Fields.{SegmentFields}
use Rattle.m36_dir.specs.Catalog.{CatalogFields}
use Rattle.obj36_parts.specs.Fields.{LinkFields}
use Rattle.obj36_parts.specs.PartsFields.{PartsFields}
use Rattle.obj36_parts.specs.ObjectSegment.{has_name}
use Rattle.m36_link.specs.Fields.{PlacedSectionFields, TargetFields, NewSectionFields, KnownFields}
use Rattle.m36_link.specs.Fields.{SnapFields}
use Rattle.m36_link.specs.Known.{segment_of, file_of, object_in, laid_words}
use Rattle.m36_link.specs.Search.{search_result}
use Rattle.m36_link.specs.Links.{link_in, section_at}
use Rattle.m36_link.specs.Target.{own_target, segment_target}
use Rattle.m36_link.specs.declared.snap.LinkFault.{LinkFault}
use Rattle.m36_link.specs.declared.snap.LinkFault.TheVariants.{Refused, NoMemory}

-- a refusal: the code, with the link except for L1
pub record RefusedFields : Type 0 where
  pub code : LinkCode
  pub link : Option LinkFields

-- ---- the target of a link of a ring

-- the target of a link to segment `seg`, which was found: L2 if the catalog has no such segment or
-- it has no file
abbrev pub target_if_found :
    List PlacedSectionFields → ℕ → ℕ → Option SegmentFields → Option (List ℕ)
    → LinkFields → Result TargetFields LinkCode
target_if_found laid ring seg (Some s) (Some words) link = segment_target laid ring seg s words link
target_if_found laid ring seg _ _ link = Err L2

-- the target of a link of type 3 or 4, given the number of the segment that was found; L2 if none
-- was
abbrev pub candidate_target : KnownFields → CatalogFields → List (List ℕ) → ℕ → LinkFields
    → Option ℕ → Result TargetFields LinkCode
candidate_target known catalog files ring link None = Err L2
candidate_target known catalog files ring link (Some seg) =
    target_if_found known.laid ring seg (segment_of catalog seg) (file_of files seg) link

-- the target of a link of type 3 or 4, whose name is searched from a directory
unfoldable pub outer_target : KnownFields → CatalogFields → List (List ℕ) → ℕ → LinkFields → ℕ
    → Result TargetFields LinkCode
outer_target known catalog files ring link from =
    candidate_target known catalog files ring link (search_result known catalog ring link.name from)

-- the number of the directory of a segment; 0 if there is no segment
abbrev pub directory_of : Option SegmentFields → ℕ
directory_of None = 0
directory_of (Some s) = s.dir

-- the target of a link of an object whose section is laid
unfoldable pub target_of_link :
    KnownFields → CatalogFields → List (List ℕ) → ℕ → PlacedSectionFields
    → PartsFields → LinkFields → Result TargetFields LinkCode
target_of_link known catalog files ring l o link =
    if has_name link.kind then
    outer_target known catalog files ring link (directory_of (segment_of catalog l.seg))
    else own_target ring l o link

-- ---- the answer

-- the words that are laid for a segment
abbrev pub words_to_lay : Option PartsFields → List ℕ
words_to_lay None = []
words_to_lay (Some o) = laid_words o

-- the section that has to be laid, with its words
abbrev pub section_with_words : List (List ℕ) → Option PlacedSectionFields → Option NewSectionFields
section_with_words files None = None
section_with_words files (Some l) =
    Some (record {
      ring = l.ring;
      seg = l.seg;
      base = l.base;
      words = words_to_lay (object_in files l.seg);
    })

-- the answer, given the target of the link
abbrev pub snap_of_target : List (List ℕ) → ℕ → LinkFields → Result TargetFields LinkCode
    → Result SnapFields RefusedFields
snap_of_target files ring link (Ok landing) =
    Ok (record {
      pair = landing.pair;
      ring = ring;
      target = landing.target;
      link = link;
      lay = section_with_words files landing.lay;
    })
snap_of_target files ring link (Err code) = Err (record { code = code; link = Some link })

-- the answer to a link of type 3 or 4 in a ring, searched from a directory
unfoldable pub outer_snap : KnownFields → CatalogFields → List (List ℕ) → ℕ → LinkFields → ℕ
    → Result SnapFields RefusedFields
outer_snap known catalog files ring link from =
    snap_of_target files ring link (outer_target known catalog files ring link from)

-- the refusal L1: there is no link at the place
abbrev pub no_link : Result SnapFields RefusedFields
no_link = Err (record { code = L1; link = None })

-- the answer, given the object and the link at the place
abbrev pub snap_for : KnownFields → CatalogFields → List (List ℕ) → ℕ → PlacedSectionFields
    → Option PartsFields → Option LinkFields → Result SnapFields RefusedFields
snap_for known catalog files ring l (Some o) (Some link) =
    snap_of_target files ring link (target_of_link known catalog files ring l o link)
snap_for known catalog files ring l _ _ = no_link

-- the answer, given the section at the place
abbrev pub snap_in :
    KnownFields → CatalogFields → List (List ℕ) → AtFields → Option PlacedSectionFields
    → Result SnapFields RefusedFields
snap_in known catalog files at None = no_link
snap_in known catalog files at (Some l) =
    snap_for known catalog files at.ring l (object_in files l.seg) (link_in files at.word l)

-- The answer to the fault of a link word at a place. The ring of the place is the ring of the
-- link.
unfoldable pub snap_of : KnownFields → CatalogFields → List (List ℕ) → AtFields
    → Result SnapFields RefusedFields
snap_of known catalog files at = snap_in known catalog files at (section_at known.laid files at)

-- The result of the code: this answer, or NoMemory.
abbrev pub SnapResult : Result SnapFields LinkFault → Result SnapFields RefusedFields → Type 0
SnapResult (Ok snap) definition = definition ≡ Ok snap
SnapResult (Err (Refused code link)) definition =
    definition ≡ Err (record { code = code; link = link })
SnapResult (Err NoMemory) definition = Unit {0}
