-- The segments of a booted image: the stack and the linkage segment of each ring, and the segments
-- of the catalog with their files.
use Rattle.std.specs.Prelude.{ℕ, ◌+◌, ◌-◌, ◌*◌, ◌/◌, Bool, true, false, not, nat_eq}
use Rattle.std.specs.Prelude.{nat_lt, nat_le}
use Rattle.std.specs.Prelude.{if◌then◌else◌, List, [], ◌∷◌, ◌++◌, length, replicate, slice_get}
use Rattle.std.specs.Prelude.{slice_index_or, Option, Some, None}
use Rattle.std.specs.Prelude.{◌≤◌, All}
use Rattle.m36_desc.specs.Fields.{SdwFields}
use Rattle.m36_model.specs.Pointers.{pair_before}
use Rattle.m36_model.specs.Pointers.{pointer}
use Rattle.m36_model.specs.BootedCore.{table_words, table_at}
use Rattle.m36_dir.specs.declared.segment.SegKind.{SegKind}
use Rattle.m36_dir.specs.declared.segment.SegKind.TheVariants as kind
use Rattle.m36_dir.specs.Fields.{SegmentFields}
use Rattle.m36_dir.specs.Catalog.{CatalogFields}
use Rattle.obj36_parts.specs.PartsFields.{PartsFields}
use Rattle.obj36_parts.specs.ObjectSegment.{segment_limit}
use Rattle.obj36.specs.ObjectOf.{encoded_parts}
use Rattle.m36_link.specs.Fields.{NewSectionFields}
use Rattle.m36_link.specs.Known.{first_segment, first_linkage, linkage_segment, catalog_index}
use Rattle.m36_link.specs.Known.{lot_words, lot_word}

-- the number of the stack of ring 0; stacks are segments 8 to 15
abbrev pub first_stack : ℕ
first_stack = 8

-- the number of the stack of a ring
abbrev pub stack_segment : ℕ → ℕ
stack_segment ring = first_stack + ring

-- the first number after those of the rings
abbrev pub after_ring_segments : ℕ
after_ring_segments = linkage_segment 8

-- the number of pages of a stack
abbrev pub stack_pages : ℕ
stack_pages = 16

-- the number of pages of a linkage segment: all that a page table can have
abbrev pub linkage_pages : ℕ
linkage_pages = table_words

-- a file has no more words than a segment can have
abbrev pub is_short : List ℕ → Bool
is_short words = nat_le (length words) segment_limit

-- no file has more words than a segment can have
abbrev pub AreShort : List (List ℕ) → Type 0
AreShort files = All (λ w. length w ≤ segment_limit) files

-- the file of the catalog's segment i; both are counted from 0
unfoldable pub file_at : List (List ℕ) → ℕ → List ℕ
file_at files i = slice_index_or files i []

-- ---- descriptors

-- the descriptor of a paged segment whose last block of 16 words is `last`, with no mode on
abbrev pub paged_descriptor : ℕ → ℕ → SdwFields
paged_descriptor seg last =
    record {
      addr = table_at seg;
      r1 = 0;
      r2 = 0;
      r3 = 0;
      f = true;
      fc = 0;
      bound = last;
      readable = false;
      executable = false;
      writable = false;
      privileged = false;
      unpaged = false;
      no_gate = true;
      cached = false;
      limit = 0;
    }

-- the last block of a segment with this number of pages
abbrev pub bound_of_pages : ℕ → ℕ
bound_of_pages pages = 64 * pages - 1

-- the descriptor of a stack or a linkage segment: it can be read and written in the rings from 0 to
-- its own
abbrev pub ring_descriptor : ℕ → ℕ → ℕ → SdwFields
ring_descriptor seg ring pages =
    record (paged_descriptor seg (bound_of_pages pages)) {
      r1 = ring;
      r2 = ring;
      r3 = ring;
      readable = true;
      writable = true;
    }

-- the segment is a gate
abbrev pub is_gate : SegKind → Bool
is_gate kind.Gate = true
is_gate kind.Object = false
is_gate kind.Plain = false

-- the entry bound of an object; 0 if there is none
abbrev pub entry_bound_of : Option PartsFields → ℕ
entry_bound_of None = 0
entry_bound_of (Some p) = p.entry_bound

-- the number of words of a segment that are entries for callers from outside: those of a gate's
-- object
unfoldable pub limit_of : SegmentFields → List ℕ → ℕ
limit_of s words = if is_gate s.kind then entry_bound_of (encoded_parts words) else 0

-- the last block with a word of the file; block 0 for an empty file
abbrev pub last_block : List ℕ → ℕ
last_block words = (length words - 1) / 16

-- the descriptor of a segment of the catalog, with this call limiter
abbrev pub catalog_descriptor : ℕ → SegmentFields → List ℕ → ℕ → SdwFields
catalog_descriptor seg s words limit =
    record (paged_descriptor seg (last_block words)) {
      r1 = s.r1;
      r2 = s.r2;
      r3 = s.r3;
      readable = s.mode.readable;
      executable = s.mode.executable;
      writable = s.mode.writable;
      privileged = s.mode.privileged;
      no_gate = not (is_gate s.kind);
      limit = limit;
    }

-- the descriptor of a segment of the catalog, if it exists
abbrev pub catalog_descriptor_at : ℕ → Option SegmentFields → List ℕ → Option SdwFields
catalog_descriptor_at seg None words = None
catalog_descriptor_at seg (Some s) words = Some (catalog_descriptor seg s words (limit_of s words))

-- the descriptor of a segment; None if the image has no such segment
unfoldable pub booted_sdw : CatalogFields → List (List ℕ) → ℕ → Option SdwFields
booted_sdw catalog files seg =
    if nat_lt seg first_stack then None
    else if nat_lt seg first_linkage then Some (ring_descriptor seg (seg - first_stack) stack_pages)
    else if nat_lt seg after_ring_segments then Some
    (ring_descriptor seg (seg - first_linkage) linkage_pages)
    else if nat_lt seg first_segment then None
    else catalog_descriptor_at seg (slice_get catalog.segments (catalog_index seg))
    (file_at files (catalog_index seg))

-- ---- words; missing words up to the end of the last page are zero

-- Words 22 and 23 of a stack are an ITS pair to word 0 of the linkage segment of its ring.
unfoldable pub stack_words : ℕ → List ℕ
stack_words ring =
    replicate 22 0 ++ pair_before (pointer (linkage_segment ring) ring 0) []

-- the LOT in which one linkage section is laid
abbrev pub lot_of : NewSectionFields → List ℕ
lot_of l = replicate l.seg 0 ++ lot_word l ∷ replicate (lot_words - 1 - l.seg) 0

-- The words of the linkage segment of a ring: in that of the start, the LOT and after it the
-- linkage section of the start's segment.
abbrev pub linkage_words_by : ℕ → Option NewSectionFields → List ℕ
linkage_words_by ring None = []
linkage_words_by ring (Some l) = if nat_eq ring l.ring then lot_of l ++ l.words else []

-- the words of the linkage segment of a ring
unfoldable pub linkage_words : Option NewSectionFields → ℕ → List ℕ
linkage_words lay ring = linkage_words_by ring lay

-- The words of a segment; none if the image has no such segment.
unfoldable pub booted_words : List (List ℕ) → Option NewSectionFields → ℕ → List ℕ
booted_words files lay seg =
    if nat_lt seg first_stack then []
    else if nat_lt seg first_linkage then stack_words (seg - first_stack)
    else if nat_lt seg after_ring_segments then linkage_words lay (seg - first_linkage)
    else if nat_lt seg first_segment then []
    else file_at files (catalog_index seg)
