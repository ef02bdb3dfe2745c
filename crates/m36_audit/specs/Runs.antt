-- The words of the segments as runs of core words: one for each page, and two for each unpaged
-- segment.
use Rattle.std.specs.Prelude.{◌≡◌, ℕ, zero, suc, ◌+◌, ◌-◌, ◌*◌, ◌/◌, ◌%◌, ◌^◌, ◌<◌, ◌≤◌, min, Bool}
use Rattle.std.specs.Prelude.{true, false, nat_lt, nat_le, ◌==◌, ◌&&◌, List, length, slice_index}
use Rattle.std.specs.Prelude.{slice_set, Option, Some, None, Result, Ok, Err}
use Rattle.std.specs.Result.{result_ok}
use Rattle.m36_word.specs.Bits.{of_bit}
use Rattle.m36_desc.specs.Fields.{SdwFields, DbrFields}
use Rattle.m36_desc.specs.Access.{has_ordered_brackets}
use Rattle.m36_model.specs.Place.{page_frame, last_page, core_sdw}
use Rattle.m36_model.specs.declared.outcome.Refusal.{Refusal}
use Rattle.m36_audit.specs.declared.run.Run.{Run}

-- the number of words of a segment that are within its bound
abbrev pub word_count : SdwFields → ℕ
word_count d = 16 * (d.bound + 1)

-- the two runs of an unpaged segment: its words up to the last address, and those past it, which
-- continue at address 0
abbrev pub unpaged_run : SdwFields → ℕ → Option Run
unpaged_run d zero = Some (record { first = d.addr; end = min (d.addr + word_count d) (2 ^ 24) })
unpaged_run d (suc zero) = Some (record { first = 0; end = (d.addr + word_count d) - 2 ^ 24 })
unpaged_run d (suc (suc n)) = None

-- the run of `count` words of a page that begins at this address, at most 1024 of them
abbrev pub frame_run : Option ℕ → ℕ → Option Run
frame_run None count = None
frame_run (Some frame) count = Some (record { first = frame; end = frame + min 1024 count })

-- the run of a page of a paged segment; none if it is no page of the segment (false) or is in no
-- frame
abbrev pub page_run_by : Bool → List ℕ → SdwFields → ℕ → Option Run
page_run_by false core d page = None
page_run_by true core d page =
    frame_run (result_ok (page_frame core d page)) (word_count d - 1024 * page)

-- the run of a page: its words that are within the bound, if it is a page of the segment and in a
-- frame
abbrev pub page_run : List ℕ → SdwFields → ℕ → Option Run
page_run core d page = page_run_by (nat_le page (last_page d)) core d page

-- run `piece` of a segment: of its core words if it is unpaged (true), and otherwise of a page
abbrev pub run_by : Bool → List ℕ → SdwFields → ℕ → Option Run
run_by true core d piece = unpaged_run d piece
run_by false core d piece = page_run core d piece

-- run `piece` of a segment whose brackets are in order; one whose brackets are out of order (false)
-- has no runs
abbrev pub run_if_ordered : Bool → List ℕ → SdwFields → ℕ → Option Run
run_if_ordered false core d piece = None
run_if_ordered true core d piece = run_by d.unpaged core d piece

-- as `run_if_ordered`, for a segment that may not be live
abbrev pub run_of : List ℕ → Result SdwFields Refusal → ℕ → Option Run
run_of core (Err e) piece = None
run_of core (Ok d) piece = run_if_ordered (has_ordered_brackets d) core d piece

-- The most pages of a segment. Each segment has this many numbers of runs. Segment numbers have 15
-- bits, so a process has 2^23 numbers of runs.
abbrev pub pages_of_segment : ℕ
pages_of_segment = 256

-- how many numbers of runs each segment has
abbrev pub runs_of_segment : ℕ
runs_of_segment = pages_of_segment

-- how many numbers of runs each process has
abbrev pub runs_of_process : ℕ
runs_of_process = 2 ^ 23

-- run k of a process: the quotient by `runs_of_segment` is the segment, and the rest the number of
-- the run in it
unfoldable pub run : List ℕ → DbrFields → ℕ → Option Run
run core dbr k =
    run_of core (core_sdw core dbr (k / runs_of_segment)) (k % runs_of_segment)

-- how many numbers below n pass a test
unfoldable pub count_below : (ℕ → Bool) → ℕ → ℕ
count_below test zero = 0
count_below test (suc n) = count_below test n + of_bit (test n)

-- whether there is a run, and it begins at a core word
abbrev pub begins_at : ℕ → Option Run → Bool
begins_at a None = false
begins_at a (Some r) = r.first == a

-- whether there is a run, and it ends at a core word
abbrev pub ends_at : ℕ → Option Run → Bool
ends_at a None = false
ends_at a (Some r) = r.end == a

-- the run has this core word
abbrev pub covers : ℕ → Option Run → Bool
covers a None = false
covers a (Some r) = nat_le r.first a && nat_lt a r.end

-- counts with one more at a word; a word past the end of core is ignored
abbrev pub with_one_more_at : List ℕ → ℕ → List ℕ
with_one_more_at counts a = slice_set counts a (slice_index counts a + 1)

-- for each core word the number of the first n runs that begin there, and of those that end there
pub record AreCounted (runs : ℕ → Option Run) (n size : ℕ) (starts stops : List ℕ) : Type 0 where
  pub starts_len : length starts ≡ size
  pub stops_len : length stops ≡ size
  pub begin : (a : ℕ) → a < size → slice_index starts a ≡ count_below (λ i. begins_at a (runs i)) n
  pub end : (a : ℕ) → a < size → slice_index stops a ≡ count_below (λ i. ends_at a (runs i)) n

-- whether there is a run, and it begins before a core word
abbrev pub begins_before : ℕ → Option Run → Bool
begins_before a None = false
begins_before a (Some r) = nat_lt r.first a

-- whether there is a run, and it ends before a core word
abbrev pub ends_before : ℕ → Option Run → Bool
ends_before a None = false
ends_before a (Some r) = nat_lt r.end a

-- the number of the first n runs that begin before word a and do not end before it
pub record IsOpenCount (runs : ℕ → Option Run) (n a open_runs : ℕ) : Type 0 where
  pub sum : open_runs + count_below (λ i. ends_before a (runs i)) n
      ≡ count_below (λ i. begins_before a (runs i)) n

-- no run ends before it begins
pub record EndAfterBegin (runs : ℕ → Option Run) : Type 0 where
  pub each : (i : ℕ) (r : Run) → runs i ≡ Some r → r.first ≤ r.end

-- the number of runs of all segments that cover a word
abbrev pub coverage : List ℕ → DbrFields → ℕ → ℕ
coverage core dbr a = count_below (λ i. covers a (run core dbr i)) runs_of_process
