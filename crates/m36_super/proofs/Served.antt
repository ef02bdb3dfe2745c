-- Page services, one after another, change nothing of the flat memory.
use Rattle.std.proofs.Common.{◌≡◌, refl, sym, ◌∙◌, ap, subst}
use Rattle.std.specs.Prelude.{ℕ, zero, suc, take}
use Rattle.m36_model.specs.Registers.{RegsFields}
use Rattle.m36_model.specs.Store.{State}
use Rattle.m36_model.specs.Flat.{Flat}
use Rattle.m36_model.specs.BootedCore.{descriptor_words}
use Rattle.m36_model.specs.Residence.{flat_of}
use Rattle.m36_isol.specs.PageServices.{PagedState, core_state, stepped_memory, IsPageFaultServed, ArePageFaultsServed}
use Rattle.m36_isol.proofs.PagedStep.{paged_step_law}
use Rattle.m36_isol.proofs.Moved.{moved_law}
use Rattle.m36_super.specs.BootedRun.{IsLaidOut}

-- a state of the same image, with other pages in frames
pub record IsAlike (frames : ℕ) (old new : PagedState) : Type 0 where
  pub regs : new.regs ≡ old.regs
  pub standing : IsLaidOut frames new
  pub flat : flat_of new.memory ≡ flat_of old.memory
  pub low : take descriptor_words new.memory.core ≡ take descriptor_words old.memory.core

one_service : (frames : ℕ) (old new : PagedState) → IsLaidOut frames old → IsPageFaultServed frames old new → IsAlike frames old new
one_service frames old new stands served =
    let step = paged_step_law frames old.memory.kept (core_state old) stands.dbr stands.laid in
    let moved = served.service.moved in
    let image = moved_law frames (stepped_memory old) new.memory step.laid moved in
    record {
      regs = served.regs;
      standing = record { dbr = ap (λ (r : RegsFields). r.dbr) served.regs ∙ stands.dbr; laid = image.laid };
      flat = image.flat ∙ ap (λ (s : State Flat). s.store) served.fault.state;
      low = moved.descriptors ∙ step.descriptors;
    }

pub services_alike : (frames n : ℕ) (old new : PagedState) → IsLaidOut frames old → ArePageFaultsServed frames n old new → IsAlike frames old new
unfolding ArePageFaultsServed
services_alike frames zero old new stands same =
    subst (IsAlike frames old) (sym same) (record { regs = refl; standing = stands; flat = refl; low = refl })
services_alike frames (suc n) old new stands served =
    let first = one_service frames old served.0 stands served.1 in
    let rest = services_alike frames n served.0 new first.standing served.2 in
    record {
      regs = rest.regs ∙ first.regs;
      standing = rest.standing;
      flat = rest.flat ∙ first.flat;
      low = rest.low ∙ first.low;
    }
