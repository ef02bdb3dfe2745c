-- A step over the core of a booted image, where pages may be in frames or not, related to the step
-- over the flat memory that core and the kept words represent.
use Rattle.std.specs.Prelude.{◌≡◌, ◌≢◌, ℕ, ◌⊎◌, List, take}
use Rattle.m36_inst.specs.declared.effect.Effect.TheVariants as effect
use Rattle.m36_model.specs.Faults.{missing_page}
use Rattle.m36_model.specs.Registers.{RegsFields}
use Rattle.m36_model.specs.Store.{State}
use Rattle.m36_model.specs.Core.{core_store}
use Rattle.m36_model.specs.Step.{record_of, state_after}
use Rattle.m36_model.specs.Audit.{IsAudited}
use Rattle.m36_model.specs.Laws.{ExecutesLdbr}
use Rattle.m36_model.specs.Isolation.{Executes}
use Rattle.m36_model.specs.Flat.{Flat, flat_store, IsFlatAudited}
use Rattle.m36_model.specs.BootedCore.{booted_dbr, descriptor_words, IsLaid, IsPage, page_word}
use Rattle.m36_model.specs.Residence.{Paged, flat_of, PageIsAbsent, IsMoved}
use Rattle.m36_model.specs.declared.outcome.Fault.{Fault}
use Rattle.m36_model.specs.declared.outcome.Outcome.{Outcome}
use Rattle.m36_model.specs.declared.outcome.Outcome.TheVariants.{Next, Faulted, Stopped}
use Rattle.m36_model.specs.declared.record.StepRecord.{StepRecord}

-- the flat state that a state over core and kept words represents
abbrev pub flat_state : (ℕ → ℕ → ℕ) → State (List ℕ) → State Flat
flat_state kept s =
    record { regs = s.regs; store = flat_of (record { core = s.store; kept = kept }) }

-- the step has executed ABSA to its end
abbrev pub ExecutesAbsa : StepRecord → Type 0
ExecutesAbsa e = Executes effect.Absa e

-- the registers differ only in A and in the indicators
pub record DifferInA (x y : RegsFields) : Type 0 where
  pub others : record x { a = y.a; ind = y.ind } ≡ y

-- the outcome is not a page fault
abbrev pub IsNoPageFault : Outcome → Type 0
IsNoPageFault Next = Unit {0}
IsNoPageFault (Faulted f) = f.number ≢ missing_page
IsNoPageFault (Stopped s) = Unit {0}

-- The step has the record and the state of the flat step, and is not a page fault. The DBR is
-- unchanged unless the step executes LDBR.
pub record IsFlatStep (kept : ℕ → ℕ → ℕ) (s : State (List ℕ)) : Type 0 where
  pub told : record_of core_store s ≡ record_of flat_store (flat_state kept s)
  pub state :
      flat_state kept (state_after core_store s) ≡ state_after flat_store (flat_state kept s)
  pub present : IsNoPageFault (record_of core_store s).outcome
  pub dbr :
      ((state_after core_store s).regs.dbr ≡ booted_dbr) ⊎ ExecutesLdbr (record_of core_store s)

-- The step ends with a page fault at a word whose page is in no frame. Registers and content are
-- unchanged.
pub record IsPageFault (kept : ℕ → ℕ → ℕ) (s : State (List ℕ)) : Type 0 where
  pub fault : Fault
  pub outcome : (record_of core_store s).outcome ≡ Faulted fault
  pub number : fault.number ≡ missing_page
  pub lacks : PageIsAbsent s.store fault.at.seg fault.at.word
  pub state : flat_state kept (state_after core_store s) ≡ flat_state kept s

-- the step executes ABSA, and differs from the flat step only in what it loads
pub record IsAbsaStep (kept : ℕ → ℕ → ℕ) (s : State (List ℕ)) : Type 0 where
  pub executes : ExecutesAbsa (record_of core_store s)
  pub store :
      (flat_state kept (state_after core_store s)).store ≡
      (state_after flat_store (flat_state kept s)).store
  pub regs :
      DifferInA (state_after core_store s).regs (state_after flat_store (flat_state kept s)).regs
  pub dbr : (state_after core_store s).regs.dbr ≡ booted_dbr

-- A step over a booted core is the flat step, or ends with a page fault, or executes ABSA. Core is
-- still that of a booted image.
pub record IsPagedStep (frames : ℕ) (kept : ℕ → ℕ → ℕ) (s : State (List ℕ)) : Type 0 where
  pub cases : IsFlatStep kept s ⊎ IsPageFault kept s ⊎ IsAbsaStep kept s
  pub laid : IsLaid (state_after core_store s).store frames
  pub descriptors :
      take descriptor_words (state_after core_store s).store ≡ take descriptor_words s.store
  -- PTWs are unchanged, except for marks
  pub pages :
      (seg page : ℕ) → IsPage s.store seg page
      → page_word (state_after core_store s).store seg page ≡ page_word s.store seg page

-- `IsPagedStep` holds of every step of a booted image with its own DBR.
abbrev pub PagedStepLaw : Type 0
PagedStepLaw =
    (frames : ℕ) (kept : ℕ → ℕ → ℕ) (s : State (List ℕ)) → s.regs.dbr ≡ booted_dbr
    → IsLaid s.store frames → IsPagedStep frames kept s

-- Core is still that of a booted image, and represents the same flat memory.
pub record IsSameImage (frames : ℕ) (old new : Paged) : Type 0 where
  pub laid : IsLaid new.core frames
  pub flat : flat_of new ≡ flat_of old

-- After pages of a booted core have moved, `IsSameImage` holds.
abbrev pub MovedLaw : Type 0
MovedLaw =
    (frames : ℕ) (old new : Paged) → IsLaid old.core frames → IsMoved frames old new
    → IsSameImage frames old new

-- With the same descriptors, the audit conditions hold of a booted core whatever frames its pages
-- are in.
abbrev pub SameAuditLaw : Type 0
SameAuditLaw =
    (frames : ℕ) (core now : List ℕ) → IsAudited core booted_dbr → IsLaid now frames
    → take descriptor_words now ≡ take descriptor_words core → IsAudited now booted_dbr

-- If the audit conditions hold of a booted core, those about descriptors hold of the flat memory
-- that it represents.
abbrev pub FlatAuditLaw : Type 0
FlatAuditLaw =
    (frames : ℕ) (m : Paged) → IsLaid m.core frames → IsAudited m.core booted_dbr
    → IsFlatAudited (flat_of m) booted_dbr
