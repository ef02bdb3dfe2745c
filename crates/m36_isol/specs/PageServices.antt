-- Page services: an instruction that ends with a page fault is restarted after its page was brought
-- into a frame. How often this can happen.
use Rattle.std.specs.Prelude.{◌≡◌, ◌≢◌, ℕ, zero, suc, ◌+◌, ◌*◌, ◌/◌, ◌<◌, ◌≤◌, ◌⊎◌, List}
use Rattle.std.specs.Prelude.{slice_index, Some}
use Rattle.m36_model.specs.Registers.{RegsFields}
use Rattle.m36_model.specs.Store.{State}
use Rattle.m36_model.specs.StoreLaw.{Each}
use Rattle.m36_model.specs.Core.{core_store}
use Rattle.m36_model.specs.Place.{without_used}
use Rattle.m36_model.specs.Step.{indirect_words, record_of, state_after}
use Rattle.m36_model.specs.BootedCore.{booted_dbr, table_at, resident_ptw, absent_ptw}
use Rattle.m36_model.specs.BootedCore.{IsPage, page_word, IsLaid}
use Rattle.m36_model.specs.Residence.{Paged, IsMoved, StaysIn}
use Rattle.m36_model.specs.PagedStep.{IsPageFault, IsNoPageFault}
use Rattle.m36_model.specs.declared.place.Reference.{Reference}

-- a page of the image is in this frame
pub record Occupies (core : List ℕ) (seg page frame : ℕ) : Type 0 where
  pub is : IsPage core seg page
  pub word : page_word core seg page ≡ resident_ptw frame

-- no reference is to this page
abbrev pub IsUnreferenced : List Reference → ℕ → ℕ → Type 0
IsUnreferenced refs seg page =
    Each (λ e. (e.at.seg ≡ seg) × (e.at.word / 1024 ≡ page) → ⊥) refs

-- The core word at an address is the PTW of a page that is in a frame and that no reference is to.
pub record MayLoseUsedBit (core : List ℕ) (refs : List Reference) (a : ℕ) : Type 0 where
  pub seg : ℕ
  pub page : ℕ
  pub frame : ℕ
  pub occupies : Occupies core seg page frame
  pub free : IsUnreferenced refs seg page
  pub is : table_at seg + page ≡ a

-- the address is outside of a frame
abbrev pub IsOutsideFrame : ℕ → ℕ → Type 0
IsOutsideFrame frame a = (a < 1024 * frame) ⊎ (1024 * frame + 1024 ≤ a)

-- A page service. The page is brought into a frame, and the page that was there, if any, is
-- evicted. The frame is any one, except that pages which the instruction has referenced stay. No
-- content changes. The PTWs of the two pages are given exactly. Every other core word outside of
-- the frame is unchanged, except that used bits of pages without a reference may be turned off. The
-- kept words of every page except the evicted one are unchanged.
pub record IsPageService
    (frames seg page : ℕ) (refs : List Reference) (old new : Paged) : Type 0 where
  pub moved : IsMoved frames old new
  pub stay : Each (StaysIn moved.before moved.after) refs
  pub frame : ℕ
  pub brought : moved.after seg page ≡ Some frame
  pub comes : slice_index new.core (table_at seg + page) ≡ resident_ptw frame
  pub goes :
      (s q : ℕ) → Occupies old.core s q frame
      → slice_index new.core (table_at s + q) ≡ absent_ptw
  pub words :
      (a : ℕ) → a ≢ table_at seg + page
      → ((s q : ℕ) → Occupies old.core s q frame → a ≢ table_at s + q)
      → IsOutsideFrame frame a
      → (slice_index new.core a ≡ slice_index old.core a)
      ⊎ (MayLoseUsedBit old.core refs a
      × (slice_index new.core a ≡ without_used (slice_index old.core a)))
  pub kept :
      (s w : ℕ) → (Occupies old.core s (w / 1024) frame → ⊥) → new.kept s w ≡ old.kept s w

-- the registers of a processor, and paged memory
pub record PagedState : Type 0 where
  pub regs : RegsFields
  pub memory : Paged

-- the state over core alone
abbrev pub core_state : PagedState → State (List ℕ)
core_state s = record { regs = s.regs; store = s.memory.core }

-- the paged memory after a step
abbrev pub stepped_memory : PagedState → Paged
stepped_memory s =
    record { core = (state_after core_store (core_state s)).store; kept = s.memory.kept }

-- a step that ends with a page fault, and the service of that page; the registers are unchanged
pub record IsPageFaultServed (frames : ℕ) (old new : PagedState) : Type 0 where
  pub fault : IsPageFault old.memory.kept (core_state old)
  pub regs : new.regs ≡ old.regs
  pub service :
      IsPageService frames fault.fault.at.seg (fault.fault.at.word / 1024)
      (record_of core_store (core_state old)).refs.items (stepped_memory old) new.memory

-- n page faults with their services, as in `IsPageFaultServed`, one after another
unfoldable pub ArePageFaultsServed : ℕ → ℕ → PagedState → PagedState → Type 0
ArePageFaultsServed frames zero old new = new ≡ old
ArePageFaultsServed frames (suc n) old new =
    (mid : PagedState) × IsPageFaultServed frames old mid × ArePageFaultsServed frames n mid new

-- the most pages that an instruction references: its own, one for each indirect word, and that of
-- its operand
abbrev pub pages_of_an_instruction : ℕ
pages_of_an_instruction = indirect_words + 2

-- After as many page services as an instruction can reference pages, it has no page fault.
abbrev pub PagesLaw : Type 0
PagesLaw =
    (frames : ℕ) (old new : PagedState) → old.regs.dbr ≡ booted_dbr → IsLaid old.memory.core frames
    → ArePageFaultsServed frames pages_of_an_instruction old new
    → IsNoPageFault (record_of core_store (core_state new)).outcome
