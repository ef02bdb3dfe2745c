-- Which processes have a table word or a segment word at each core word, and which tables of which
-- segments these are.
use Rattle.std.specs.Prelude.{◌≡◌, ℕ, zero, suc, ◌+◌, ◌*◌, ◌/◌, ◌%◌, ◌^◌, ◌<◌, ◌≤◌, Bool, true}
use Rattle.std.specs.Prelude.{false}
use Rattle.std.specs.Prelude.{◌-◌, if◌then◌else◌, ◌==◌, ◌&&◌, ◌||◌, not, List, length, slice_get}
use Rattle.std.specs.Prelude.{slice_index, Option, Some, None, Result, Ok, Err}
use Rattle.m36_desc.specs.Fields.{SdwFields, DbrFields}
use Rattle.m36_model.specs.Place.{wrapped_address, directory_at, page_at, page_count, sdw_place}
use Rattle.m36_model.specs.Place.{core_sdw}
use Rattle.m36_model.specs.Audit.{Table, Sdws, Directory, Pages, IsWordOfTable, IsSegmentWord}
use Rattle.m36_model.specs.declared.outcome.Refusal.{Refusal}
use Rattle.m36_audit.specs.declared.run.Run.{Run}
use Rattle.m36_audit.specs.Classes.{descriptors_of_process}
use Rattle.m36_audit.specs.Runs.{runs_of_segment, runs_of_process, run, with_one_more_at}
use Rattle.m36_audit.specs.Runs.{count_below, covers}
use Rattle.m36_audit.specs.RecordedNumbers.{several, with_number, with_number_at}

-- The number of a table among those of all processes. Tables of two processes have the same number
-- exactly if they are page tables of segments with equal descriptors.
abbrev pub identity : List ℕ → ℕ → Table → ℕ
identity firsts k Sdws = 2 * k + 1
identity firsts k Directory = 2 * k + 2
identity firsts k (Pages seg) = 17 + slice_index firsts (descriptors_of_process * k + seg)

-- the values after the two words of a descriptor were recorded
abbrev pub descriptor_recorded : ℕ → Result ℕ Refusal → List ℕ → List ℕ
descriptor_recorded table_number (Ok even) values =
    with_number_at (with_number_at values even table_number)
    (wrapped_address (even + 1)) table_number
descriptor_recorded table_number (Err e) values = values

-- the values after the word through which a descriptor is found was recorded
abbrev pub directory_recorded : ℕ → Bool → ℕ → List ℕ → List ℕ
directory_recorded table_number true at values = values
directory_recorded table_number false at values = with_number_at values at table_number

-- the values after the first n words of a segment's page table were recorded
unfoldable pub pages_recorded : ℕ → SdwFields → ℕ → List ℕ → List ℕ
pages_recorded table_number d zero values = values
pages_recorded table_number d (suc n) values =
    with_number_at (pages_recorded table_number d n values) (page_at d n) table_number

-- the values after the words of the page table of a segment were recorded, if it is paged
abbrev pub page_table_recorded : ℕ → SdwFields → Bool → List ℕ → List ℕ
page_table_recorded table_number d true values = values
page_table_recorded table_number d false values =
    pages_recorded table_number d (page_count d) values

-- the values after the words of a segment's page table were recorded, if it is live and paged
abbrev pub table_recorded_if_live : ℕ → Result SdwFields Refusal → List ℕ → List ℕ
table_recorded_if_live table_number (Err e) values = values
table_recorded_if_live table_number (Ok d) values =
    page_table_recorded table_number d d.unpaged values

-- the values after the table words of one segment were recorded
unfoldable pub segment_recorded : List ℕ → DbrFields → List ℕ → ℕ → ℕ → List ℕ → List ℕ
segment_recorded core dbr firsts k seg values =
    table_recorded_if_live (identity firsts k (Pages seg)) (core_sdw core dbr seg)
    (directory_recorded (identity firsts k Directory) dbr.unpaged (directory_at dbr seg)
    (descriptor_recorded (identity firsts k Sdws) (sdw_place core dbr seg) values))

-- the values after the table words of the segments below n were recorded
unfoldable pub segments_recorded : List ℕ → DbrFields → List ℕ → ℕ → ℕ → List ℕ → List ℕ
segments_recorded core dbr firsts k zero values = values
segments_recorded core dbr firsts k (suc n) values =
    segment_recorded core dbr firsts k n (segments_recorded core dbr firsts k n values)

-- process k has a table with number x at core word a
pub record HasTableNumbered (core : List ℕ) (dbrs : List DbrFields) (firsts : List ℕ) (k a x : ℕ)
    : Type 0 where
  pub dbr : DbrFields
  pub process : slice_get dbrs k ≡ Some dbr
  pub table : Table
  pub of : IsWordOfTable core dbr table a
  pub is : x ≡ identity firsts k table

-- process k has a table word at core word a; its number is k + 1
pub record OwnsTableWord (core : List ℕ) (dbrs : List DbrFields) (k a x : ℕ) : Type 0 where
  pub dbr : DbrFields
  pub process : slice_get dbrs k ≡ Some dbr
  pub table : Table
  pub of : IsWordOfTable core dbr table a
  pub is : x ≡ k + 1

-- process k has a segment word at core word a; its number is k + 1
pub record OwnsSegmentWord (core : List ℕ) (dbrs : List DbrFields) (k a x : ℕ) : Type 0 where
  pub dbr : DbrFields
  pub process : slice_get dbrs k ≡ Some dbr
  pub seg : ℕ
  pub w : ℕ
  pub word : IsSegmentWord core dbr seg w a
  pub is : x ≡ k + 1

-- one of the first n processes has x at core word a
abbrev pub IsOfProcessBelow : (ℕ → ℕ → ℕ → Type 0) → ℕ → ℕ → ℕ → Type 0
IsOfProcessBelow Has n a x = (k : ℕ) × (k < n) × Has k a x

-- the value of a word after the process with this number was recorded for it, if the process has
-- something there (true)
abbrev pub with_owner : Bool → ℕ → ℕ → ℕ
with_owner true seen table_number = with_number seen table_number
with_owner false seen table_number = seen

-- a process was recorded for the core words before a, if it has something there as the test says
pub record AreOwned (test : ℕ → Bool) (table_number a : ℕ) (old new : List ℕ) : Type 0 where
  pub len : length new ≡ length old
  pub before : (q : ℕ) → q < a → slice_index new q
      ≡ with_owner (test q) (slice_index old q) table_number
  pub after : (q : ℕ) → a ≤ q → slice_index new q ≡ slice_index old q

-- ---- the runs of the first descriptors of all processes
-- They are numbered: those of a process come after those of the processes before it. A descriptor
-- is a first one if `firsts` has its own number for it.

-- a run, if its segment has a first descriptor (true)
abbrev pub unpaged_first_run : Bool → Option Run → Option Run
unpaged_first_run true r = r
unpaged_first_run false r = None

-- run n of a process, if there is one with this DBR
abbrev pub run_of_process : List ℕ → Option DbrFields → ℕ → Option Run
run_of_process core None n = None
run_of_process core (Some dbr) n = run core dbr n

-- run n of all processes, if its segment has a first descriptor
unfoldable pub joint_run : List ℕ → List DbrFields → List ℕ → ℕ → Option Run
joint_run core dbrs firsts n =
    unpaged_first_run (slice_index firsts (n / runs_of_segment) == n / runs_of_segment)
    (run_of_process core (slice_get dbrs (n / runs_of_process)) (n % runs_of_process))

-- the most runs that a segment has
abbrev pub piece_count : SdwFields → ℕ
piece_count d = if d.unpaged then 2 else page_count d

-- counts of the runs that begin at each word, with one more run, if there is one
abbrev pub with_start : Option Run → List ℕ → List ℕ
with_start None starts = starts
with_start (Some r) starts = with_one_more_at starts r.first

-- counts of the runs that end at each word, with one more run, if there is one
abbrev pub with_stop : Option Run → List ℕ → List ℕ
with_stop None stops = stops
with_stop (Some r) stops = with_one_more_at stops r.end

-- each count can be increased by one
abbrev pub HasRoom : List ℕ → Type 0
HasRoom counts = (a : ℕ) → slice_index counts a < 2 ^ 32 - 1

-- the values after a process with this number was recorded for core word a, if it has something
-- there (true)
abbrev pub with_owner_at : Bool → List ℕ → ℕ → ℕ → List ℕ
with_owner_at true values a table_number = with_number_at values a table_number
with_owner_at false values a table_number = values

-- By what is recorded for a core word: tables of two processes with different numbers have it, or a
-- table of one process and a segment of another.
abbrev pub is_joint_table_word : ℕ → ℕ → ℕ → Bool
is_joint_table_word tables segments identities =
    (tables == several && identities == several)
    || ((not (tables == 0) && not (segments == 0))
    && (not (tables == segments) || tables == several))

-- the number of runs of first descriptors that cover a word
abbrev pub joint_coverage : List ℕ → List DbrFields → List ℕ → ℕ → ℕ
joint_coverage core dbrs firsts a =
    count_below (λ i. covers a (joint_run core dbrs firsts i)) (runs_of_process * length dbrs)
