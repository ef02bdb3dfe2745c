-- Segments boot one system, and plain turns of it are one run.
use Rattle.std.proofs.Common.{◌≡◌, ℕ, List, length, refl, sym, inl, inr}
use Rattle.m36_model.specs.StoreLaw.{Each}
use Rattle.m36_step.specs.declared.turns.Turn.{Turn}
use Rattle.m36_super.specs.Library.{Library}
use Rattle.m36_super.specs.BootedRun.{Booted, AreTurns}
use Rattle.m36_super.specs.SuperFields.{SuperFields, booted_of}
use Rattle.m36_super.specs.TurnLaws.{IsPlainTurn}
use Rattle.m36_super.specs.BootResult.{IsBooted}
use Rattle.m36_super.proofs.BootTurns.{start_unloaded}
use Rattle.cmd_folder.specs.declared.finish.Finish.{Finish}
use Rattle.cmd_folder.specs.BootedLaw.{with_frames, HasMemory, AreOneRun, BootedLaw}
use Rattle.cmd_folder.specs.Runs.{Goes, Finishes}
use Rattle.cmd_folder.proofs.OneSystem.{one_system}
use Rattle.cmd_folder.proofs.OneRun.{AreAlike, Look, IsFresh, Meet, turns_meet, ends_there, finish_one, turns_one}
use Rattle.cmd_folder.proofs.FramesAlike.{frames_alike, booted_alike}

-- ---- the same turns

fresh_of : (lib : Library) (system : SuperFields) → IsBooted lib system → IsFresh lib (booted_of system)
fresh_of lib system booted = record { loaded = start_unloaded lib system booted; stands = booted.stands }

same_turns :
    (lib : Library) (frames : ℕ) (system other : SuperFields) (turns same : List Turn) (last end : Booted)
    → IsBooted lib system → IsBooted (with_frames lib frames) other → AreTurns lib (booted_of system) turns last
    → AreTurns (with_frames lib frames) (booted_of other) same end → Each IsPlainTurn turns → Each HasMemory same
    → length turns ≡ length same → turns ≡ same
same_turns lib frames system other turns same last end booted booted' are are' plain has count =
    turns_one lib (with_frames lib frames) (booted_of system) (booted_of other) last end turns same
    (frames_alike lib frames) (booted_alike lib frames system other booted booted') (fresh_of lib system booted)
    (fresh_of (with_frames lib frames) other booted') are are' plain has count

-- ---- one run

one_by :
    (lib other : Library) (limit : ℕ) (r s : Booted) (turns same : List Turn) (last end : Booted) (how how' : Finish)
    → AreAlike lib other → Goes lib limit r turns last → Goes other limit s same end
    → Finishes how lib limit turns last → Finishes how' other limit same end → Meet lib other turns same last end
    → AreOneRun turns same last end how how'
one_by lib other limit r s turns same last end how how' alike goes goes' is is' (inl are) = record {
  turns_are = are.turns_are;
  end_is = finish_one lib other limit turns same last end how how' alike are is is';
  left_is = are.look;
}
one_by lib other limit r s turns same last end how how' alike goes goes' is is' (inr (inl on)) =
    absurd (ends_there lib other limit turns same last how alike on goes'.few is)
one_by lib other limit r s turns same last end how how' alike goes goes' is is' (inr (inr on)) =
    absurd (ends_there other lib limit same turns end how' (λ x. sym (alike x)) on goes.few is')

run_from :
    (lib other : Library) (limit : ℕ) (r s : Booted) (turns same : List Turn) (last end : Booted) (how how' : Finish)
    → AreAlike lib other → Look r s → IsFresh lib r → IsFresh other s → Goes lib limit r turns last
    → Goes other limit s same end
    → Finishes how lib limit turns last → Finishes how' other limit same end → Each IsPlainTurn turns
    → AreOneRun turns same last end how how'
run_from lib other limit r s turns same last end how how' alike look fresh fresh' goes goes' is is' plain =
    one_by lib other limit r s turns same last end how how' alike goes goes' is is'
    (turns_meet lib other r s last end turns same alike look fresh fresh' goes.turns_are
    goes'.turns_are goes.events goes'.events plain)

one_run_of :
    (lib : Library) (frames limit : ℕ) (system other : SuperFields) (turns same : List Turn) (last end : Booted)
    (how how' : Finish)
    → IsBooted lib system → IsBooted (with_frames lib frames) other → Goes lib limit (booted_of system) turns last
    → Goes (with_frames lib frames) limit (booted_of other) same end → Finishes how lib limit turns last
    → Finishes how' (with_frames lib frames) limit same end → Each IsPlainTurn turns
    → AreOneRun turns same last end how how'
one_run_of lib frames limit system other turns same last end how how' booted booted' goes goes' is is' plain =
    run_from lib (with_frames lib frames) limit (booted_of system) (booted_of other) turns same last end how how'
    (frames_alike lib frames) (booted_alike lib frames system other booted booted') (fresh_of lib system booted)
    (fresh_of (with_frames lib frames) other booted') goes goes' is is' plain

-- two runs of one system
pub one_run_here :
    (lib : Library) (limit : ℕ) (system : SuperFields) (turns same : List Turn) (last end : Booted) (how how' : Finish)
    → IsBooted lib system → Goes lib limit (booted_of system) turns last → Goes lib limit (booted_of system) same end
    → Finishes how lib limit turns last → Finishes how' lib limit same end → Each IsPlainTurn turns
    → AreOneRun turns same last end how how'
one_run_here lib limit system turns same last end how how' booted goes goes' is is' plain =
    let fresh = fresh_of lib system booted in
    run_from lib lib limit (booted_of system) (booted_of system) turns same last end how how'
    (λ r. refl) refl fresh fresh goes goes' is is' plain

-- plain turns of a system, and any turns of it
pub meet_here :
    (lib : Library) (limit : ℕ) (system : SuperFields) (turns same : List Turn) (last end : Booted)
    → IsBooted lib system → Goes lib limit (booted_of system) turns last → Goes lib limit (booted_of system) same end
    → Each IsPlainTurn turns → Meet lib lib turns same last end
meet_here lib limit system turns same last end booted goes goes' plain =
    let fresh = fresh_of lib system booted in
    turns_meet lib lib (booted_of system) (booted_of system) last end turns same
    (λ r. refl) refl fresh fresh goes.turns_are goes'.turns_are goes.events goes'.events plain

pub booted_law : BootedLaw
booted_law = record { system = one_system; turns = same_turns; runs = one_run_of }
