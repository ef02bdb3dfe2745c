-- Whether a catalog and its files can be booted, or the first fault, in this order: U1; then U4
-- and U2 of the gates, in the order of the catalog; then U3 and U4 of the start.
use Rattle.std.specs.Prelude.{ℕ, zero, suc, ◌≡◌, ◌+◌, ◌-◌, ◌^◌, ◌<◌, Bool, true, false, not, ◌&&◌}
use Rattle.std.specs.Prelude.{nat_lt, nat_le, if◌then◌else◌, List}
use Rattle.std.specs.Prelude.{length, slice_get, slice_index, Option, Some, None, Result, Ok, Err}
use Rattle.std.specs.Option.{option_or}
use Rattle.m36_dir.specs.Fields.{SegmentFields}
use Rattle.m36_dir.specs.Catalog.{CatalogFields}
use Rattle.obj36_parts.specs.PartsFields.{PartsFields}
use Rattle.obj36.specs.ObjectOf.{encoded_parts}
use Rattle.m36_boot.specs.declared.fault.BootFault.{BootFault}
use Rattle.m36_boot.specs.declared.fault.BootFault.TheVariants as fault
use Rattle.m36_link.specs.Fields.{SnapFields}
use Rattle.m36_link.specs.Known.{catalog_number, segment_of, object_in}
use Rattle.m36_link.specs.Target.{is_plain}
use Rattle.m36_link.specs.Snap.{RefusedFields}
use Rattle.m36_boot.specs.Segments.{file_at, is_gate, entry_bound_of, limit_of}
use Rattle.m36_boot.specs.Start.{start_answer, start_segment, may_start}

-- An instruction refers to at most 18 pages, so with 19 frames one that is retried finds a frame
-- that it does not refer to; the rest of the 24, below which U1 applies, is reserve.
abbrev pub least_frames : ℕ
least_frames = 24

-- the number of values of the call limiter of a descriptor, which has 14 bits
abbrev pub limit_count : ℕ
limit_count = 2 ^ 14

-- a value of the call limiter
abbrev pub IsLimit : ℕ → Type 0
IsLimit limit = limit < limit_count

-- the maximum of the call limiter
abbrev pub most_entries : ℕ
most_entries = limit_count - 1

-- ---- gates

-- whether a gate may have this number of entries
abbrev pub is_entry_count : ℕ → Bool
is_entry_count bound = nat_lt 0 bound && nat_le bound most_entries

-- the fault of a gate with this object, if any: U4 if there is none, U2 if it has too few or too
-- many entries
abbrev pub bound_fault : ℕ → Option PartsFields → Option BootFault
bound_fault seg None = Some (fault.U4 seg)
bound_fault seg (Some p) =
    if is_entry_count p.entry_bound then None else Some (fault.U2 seg)

-- the fault of a segment, if any; only gates have one
unfoldable pub gate_fault : ℕ → SegmentFields → List ℕ → Option BootFault
gate_fault seg s words = if is_gate s.kind then bound_fault seg (encoded_parts words) else None

-- as `gate_fault`; no fault if there is no segment
abbrev pub gate_fault_of : ℕ → Option SegmentFields → List ℕ → Option BootFault
gate_fault_of seg None words = None
gate_fault_of seg (Some s) words = gate_fault seg s words

-- the first fault of n segments from segment i on, counted from 0
unfoldable pub first_gate_fault : CatalogFields → List (List ℕ) → ℕ → ℕ → Option BootFault
first_gate_fault catalog files i zero = None
first_gate_fault catalog files i (suc n) =
    option_or (gate_fault_of (catalog_number i) (slice_get catalog.segments i) (file_at files i))
    (first_gate_fault catalog files (i + 1) n)

-- ---- the start: its segment is not found, is not an object, or may not be started

-- the answer to the link to the start, or the fault with which the catalog cannot be booted
abbrev pub StartAnswer : Type 0
StartAnswer = Result SnapFields BootFault

-- a segment that is not plain, whose file is an object
abbrev pub is_object : Option SegmentFields → Option PartsFields → Bool
is_object (Some s) (Some o) = not (is_plain s.kind)
is_object _ _ = false

-- the answer to the link to the start; U3 if the segment may not be executed in the ring of the
-- start (false), or the link is refused
abbrev pub start_answer_if : Bool → Result SnapFields RefusedFields → StartAnswer
start_answer_if true (Ok s) = Ok s
start_answer_if true (Err why) = Err fault.U3
start_answer_if false answer = Err fault.U3

-- the answer to the link to the start, whose segment has this number; U3 if no segment is found, U4
-- if it is not an object
abbrev pub start_answer_at : CatalogFields → List (List ℕ) → Option ℕ → StartAnswer
start_answer_at catalog files None = Err fault.U3
start_answer_at catalog files (Some seg) =
    if is_object (segment_of catalog seg) (object_in files seg) then
    start_answer_if (may_start catalog.start.ring (segment_of catalog seg))
    (start_answer catalog files)
    else Err (fault.U4 seg)

-- the answer for the start of a catalog, or its fault
unfoldable pub start_of : CatalogFields → List (List ℕ) → StartAnswer
start_of catalog files = start_answer_at catalog files (start_segment catalog)

-- ---- all of them

-- the first fault, if there is one, and otherwise the answer
abbrev pub first_or : Option BootFault → StartAnswer → StartAnswer
first_or (Some first) answer = Err first
first_or None answer = answer

-- the answer with which the catalog is booted, or its first fault
unfoldable pub boot_answer : CatalogFields → List (List ℕ) → StartAnswer
boot_answer catalog files =
    if nat_lt catalog.frames least_frames then Err fault.U1
    else first_or (first_gate_fault catalog files 0 (length catalog.segments))
    (start_of catalog files)

-- ---- the results of the code, which may also be NoMemory

-- The code reports this fault, or has run out of memory.
abbrev pub ReportsFault : BootFault → StartAnswer → Type 0
ReportsFault fault.NoMemory answer = Unit {0}
ReportsFault told answer = answer ≡ Err told

-- The code's result for the start: the answer, or its fault; NoMemory is allowed in place of
-- either.
abbrev pub StartResult : Result SnapFields BootFault → StartAnswer → Type 0
StartResult (Ok s) answer = answer ≡ Ok s
StartResult (Err told) answer = ReportsFault told answer

-- The code reports this fault of a gate, or has run out of memory.
abbrev pub ReportsGateFault : BootFault → Option BootFault → Type 0
ReportsGateFault fault.NoMemory first = Unit {0}
ReportsGateFault told first = first ≡ Some told

-- The code's result for the call limiter of a gate: its entry bound, or its fault; or NoMemory.
abbrev pub GateLimitResult : ℕ → List ℕ → Result ℕ BootFault → Type 0
GateLimitResult seg words (Ok limit) =
    (bound_fault seg (encoded_parts words) ≡ None) × (limit ≡ entry_bound_of (encoded_parts words))
    × IsLimit limit
GateLimitResult seg words (Err told) = ReportsGateFault told (bound_fault seg (encoded_parts words))

-- The code's result for the call limiter of a segment: the limiter, or the fault of the gate; or
-- NoMemory.
abbrev pub LimitResult : ℕ → SegmentFields → List ℕ → Result ℕ BootFault → Type 0
LimitResult seg s words (Ok limit) =
    (gate_fault seg s words ≡ None) × (limit ≡ limit_of s words) × IsLimit limit
LimitResult seg s words (Err told) = ReportsGateFault told (gate_fault seg s words)

-- the call limiter of a segment; 0 if there is no segment
abbrev pub limit_at : Option SegmentFields → List ℕ → ℕ
limit_at None words = 0
limit_at (Some s) words = limit_of s words

-- these are the call limiters of the first `count` segments of the catalog
pub record AreLimits
    (catalog : CatalogFields) (files : List (List ℕ)) (count : ℕ) (limits : List ℕ)
    : Type 0 where
  pub size : length limits ≡ count
  pub each :
      (i : ℕ) → i < count
      → slice_index limits i ≡ limit_at (slice_get catalog.segments i) (file_at files i)
  pub small : (i : ℕ) → i < count → IsLimit (slice_index limits i)
