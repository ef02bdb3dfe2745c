-- The model of a booted system.
use Rattle.std.specs.Prelude.{◌≡◌, ℕ, Bool, true, false, List, length}
use Rattle.std.specs.Prelude.{Option, None, ◌<◌, Ok}
use Rattle.m36_desc.specs.Fields.{SdwFields}
use Rattle.m36_model.specs.Place.{core_sdw}
use Rattle.m36_model.specs.Registers.{RegsFields}
use Rattle.m36_model.specs.Store.{State}
use Rattle.m36_model.specs.Core.{core_store}
use Rattle.m36_model.specs.Step.{state_after}
use Rattle.m36_model.specs.BootedCore.{booted_dbr}
use Rattle.m36_model.specs.Residence.{IsMoved}
use Rattle.m36_isol.specs.PageServices.{PagedState}
use Rattle.m36_page.specs.Fields.{PagerFields}
use Rattle.m36_page.specs.Residence.{has_page, frame_of, paged_by, IsPager, AgreesWithCore}
use Rattle.m36_page.specs.Changes.{KeepsContents}
use Rattle.m36_link.specs.Fields.{KnownFields}
use Rattle.m36_link.specs.Known.{linkage_segment}
use Rattle.m36_boot.specs.Segments.{linkage_pages, bound_of_pages}
use Rattle.m36_boot.specs.Image.{HasPages}
use Rattle.m36_link.specs.Laws.{IsConsistent}
use Rattle.m36_super.specs.Library.{Library}
use Rattle.m36_super.specs.NextEvent.{NextEvent, Step, Link, Print, Over}
use Rattle.m36_super.specs.BootedRun.{Booted}

-- A system: its library, registers and core, the pager with the kept words, what the rings know,
-- what the next turn is, and whether an LDBR has been executed.
pub record SuperFields : Type 0 where
  pub lib : Library
  pub regs : RegsFields
  pub core : List ℕ
  pub pager : PagerFields
  pub known : KnownFields
  pub next_event : NextEvent
  pub loaded : Bool

-- the paged state of a processor and its pager
abbrev pub paged_of : State (List ℕ) → PagerFields → PagedState
paged_of s p = record { regs = s.regs; memory = paged_by s.store p }

-- a state of the booted run, from the parts of a system
abbrev pub run_of : State (List ℕ) → PagerFields → KnownFields → NextEvent → Bool → Booted
run_of s p known next_event loaded =
    record { state = paged_of s p; known = known; next_event = next_event; loaded = loaded }

-- the state of the booted run of a system
abbrev pub booted_of : SuperFields → Booted
booted_of s =
    run_of (record { regs = s.regs; store = s.core }) s.pager s.known s.next_event s.loaded

-- Segment `seg` is live and has all the pages that a segment can have, as a linkage segment does.
pub record IsLinkageSegment (core : List ℕ) (seg : ℕ) : Type 0 where
  pub sdw : SdwFields
  pub live : core_sdw core booted_dbr seg ≡ Ok sdw
  pub whole : sdw.bound ≡ bound_of_pages linkage_pages

-- The core is laid out as that of the image, and the pager has exactly the page tables of the
-- image. The page table words are as the pager left them, except for marks. The linkage segments
-- have all the pages that a segment can have.
pub record IsManaged (frames : ℕ) (core : List ℕ) (p : PagerFields) : Type 0 where
  pub pages : HasPages frames core p
  pub reads : AgreesWithCore p core
  pub linkage : (ring : ℕ) → ring < 8 → IsLinkageSegment core (linkage_segment ring)

-- The descriptor segment base register is that of the image, and the core and the pager satisfy
-- `IsManaged`. So segments are found by the descriptors of the image.
pub record IsRunning (frames : ℕ) (regs : RegsFields) (core : List ℕ)
    (p : PagerFields) : Type 0 where
  pub dbr : regs.dbr ≡ booted_dbr
  pub managed : IsManaged frames core p

-- `IsRunning` holds, until an LDBR has been executed.
abbrev pub RunningUntilLdbr : Bool → ℕ → RegsFields → List ℕ → PagerFields → Type 0
RunningUntilLdbr false frames regs core p = IsRunning frames regs core p
RunningUntilLdbr true frames regs core p = Unit {0}

-- once an LDBR has been executed, the next turn is not a service
abbrev pub NoServiceAfterLdbr : NextEvent → Bool → Type 0
NoServiceAfterLdbr Step loaded = Unit {0}
NoServiceAfterLdbr (Link at) loaded = loaded ≡ false
NoServiceAfterLdbr Print loaded = loaded ≡ false
NoServiceAfterLdbr (Over e) loaded = Unit {0}

-- The invariant of a booted system: each segment of the catalog has a file, the pager has the
-- frames of the catalog, the core is that of a running image until an LDBR has been executed, what
-- the rings know agrees with catalog and files, and no service is next after an LDBR.
pub record IsSuper (s : SuperFields) : Type 0 where
  pub files : length s.lib.files ≡ length s.lib.catalog.segments
  pub frames : length s.pager.holders ≡ s.lib.catalog.frames
  pub manages : RunningUntilLdbr s.loaded (length s.pager.holders) s.regs s.core s.pager
  pub made : IsConsistent s.lib.catalog s.lib.files s.known
  pub due : NoServiceAfterLdbr s.next_event s.loaded

-- the frame of a page, if the pager has the page (true)
abbrev pub frame_by : Bool → Option ℕ → Option ℕ
frame_by true frame = frame
frame_by false frame = None

-- the frame of a page of a pager, if the pager has the page and it is in one
abbrev pub frame_in_pager : PagerFields → List ℕ → ℕ → ℕ → Option ℕ
frame_in_pager p core seg page = frame_by (has_page p seg page) (frame_of p core seg page)

-- The result of a call of the pager: pages have moved, and the pager and its core satisfy
-- `IsManaged`.
pub record IsPaging
    (frames : ℕ) (core now : List ℕ) (p q : PagerFields) : Type 0 where
  pub moved :
      IsMoved frames (paged_by core p) (paged_by now q)
  pub before_is : (seg page : ℕ) → moved.before seg page ≡ frame_in_pager p core seg page
  pub after_is : (seg page : ℕ) → moved.after seg page ≡ frame_in_pager q now seg page
  pub manages : IsManaged frames now q

-- A call of the pager that keeps all content moves pages.
abbrev pub PagingLaw : Type 0
PagingLaw =
    (frames : ℕ) (core now : List ℕ) (p q : PagerFields)
    → IsManaged frames core p → IsPager q → AgreesWithCore q now → KeepsContents p core q now
    → IsPaging frames core now p q

-- A step keeps `IsManaged`.
abbrev pub StepManagedLaw : Type 0
StepManagedLaw =
    (frames : ℕ) (s : State (List ℕ)) (p : PagerFields) → s.regs.dbr ≡ booted_dbr
    → IsManaged frames s.store p → IsManaged frames (state_after core_store s).store p
