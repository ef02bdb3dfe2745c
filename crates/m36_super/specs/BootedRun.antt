-- The booted run: what the next turn may be, and the state after it. Page services are not
-- reported. Which frame a page service takes, and which used marks it clears, is open within its
-- rules. A link service may run out of memory, and then changes nothing. Everything else of a
-- turn, and of the state after it, is a function of the state before.
use Rattle.std.specs.Prelude.{◌≡◌, ℕ, ◌≤◌, Bool, true, false, List, [], ◌∷◌}
use Rattle.std.specs.Prelude.{Result, Ok, Err}
use Rattle.m36_model.specs.Fields.{AtFields}
use Rattle.m36_model.specs.Results.{advanced}
use Rattle.m36_model.specs.Store.{Change}
use Rattle.m36_model.specs.Core.{core_store}
use Rattle.m36_model.specs.Step.{record_of, state_after}
use Rattle.m36_model.specs.Flat.{flat_put}
use Rattle.m36_model.specs.BootedCore.{booted_dbr, IsLaid}
use Rattle.m36_model.specs.Residence.{Paged, flat_of}
use Rattle.m36_model.specs.PagedStep.{IsNoPageFault}
use Rattle.m36_model.specs.declared.endings.End.TheVariants as end
use Rattle.m36_model.specs.declared.outcome.Fault.{Fault}
use Rattle.m36_model.specs.declared.record.StepRecord.{StepRecord}
use Rattle.m36_isol.specs.PageServices.{PagedState, core_state, stepped_memory, ArePageFaultsServed}
use Rattle.m36_isol.specs.PageServices.{pages_of_an_instruction}
use Rattle.m36_link.specs.Fields.{KnownFields, SnapFields}
use Rattle.m36_link.specs.Snap.{RefusedFields, snap_of}
use Rattle.m36_link.specs.Accepted.{known_after}
use Rattle.m36_step.specs.LinkNoteFields.{LinkNoteFields}
use Rattle.m36_step.specs.declared.turns.Turn.{Turn}
use Rattle.m36_step.specs.declared.turns.Turn.TheVariants.{Stepped, Linked, Console, Ended}
use Rattle.m36_step.specs.declared.turns.Turn.TheVariants.{NoMemory}
use Rattle.m36_super.specs.Library.{Library}
use Rattle.m36_super.specs.PagedPut.{paged_put}
use Rattle.m36_super.specs.Services.{link_changes, note_snapped, note_refused, asks_too_much}
use Rattle.m36_super.specs.Services.{console_text}
use Rattle.m36_super.specs.NextEvent.{NextEvent, Step, Link, Print, Over, loaded_after}
use Rattle.m36_super.specs.NextEvent.{next_event_after}
use Rattle.m36_super.specs.FlatRun.{FlatRun}

-- a state of the booted run: registers and memory, what the rings know of links, what the next turn
-- is, and whether an LDBR has been executed
pub record Booted : Type 0 where
  pub state : PagedState
  pub known : KnownFields
  pub next_event : NextEvent
  pub loaded : Bool

-- ---- steps

-- the record of a step from this state, over its core
abbrev pub record_of_state : PagedState → StepRecord
record_of_state s = record_of core_store (core_state s)

-- the state of the run after a step from this paged state
abbrev pub with_step : Booted → PagedState → Booted
with_step r s =
    record r {
      state =
          record {
            regs = (state_after core_store (core_state s)).regs;
            memory = stepped_memory s;
          };
      next_event = next_event_after r.loaded (record_of_state s);
      loaded = loaded_after r.loaded (record_of_state s);
    }

-- The turn is the step from this paged state, and `after` is the state after it.
pub record IsStepTo (s : PagedState) (before : Booted) (turn : Turn) (after : Booted) : Type 0 where
  pub told : turn ≡ Stepped (record_of_state s)
  pub after_is : after ≡ with_step before s

-- A turn that is a step: some pages are served, and then the step is taken, which meets no absent
-- page.
pub record IsStepWithPages (frames : ℕ) (before : Booted) (turn : Turn)
    (after : Booted) : Type 0 where
  pub services : ℕ
  pub few : services ≤ pages_of_an_instruction
  pub last : PagedState
  pub served : ArePageFaultsServed frames services before.state last
  pub present : IsNoPageFault (record_of_state last).outcome
  pub takes : IsStepTo last before turn after

-- Pages are served until an LDBR has been executed, and none after that.
abbrev pub IsStepTurn : Bool → ℕ → Booted → Turn → Booted → Type 0
IsStepTurn false frames before turn after = IsStepWithPages frames before turn after
IsStepTurn true frames before turn after = IsStepTo before.state before turn after

-- ---- services

-- Words of segments are written, each where its page is. Nothing else of the memory changes, and no
-- mark of a page table word. So the core is still laid out as that of the image, and the flat
-- memory changes by the same words.
pub record IsWrittenBy (frames : ℕ) (old new : Paged) (changes : List Change) : Type 0 where
  pub put : new ≡ paged_put old changes
  -- what follows
  pub laid : IsLaid new.core frames
  pub flat : flat_of new ≡ flat_put (flat_of old) changes

-- A link was snapped: the turn, and the state after it.
pub record IsLinked
    (frames : ℕ) (at : AtFields) (s : SnapFields) (before : Booted) (turn : Turn) (after : Booted)
    : Type 0 where
  pub told : turn ≡ Linked (note_snapped at s)
  pub regs : after.state.regs ≡ before.state.regs
  pub written : IsWrittenBy frames before.state.memory after.state.memory (link_changes at s)
  pub known : after.known ≡ known_after before.known s
  pub next_event : after.next_event ≡ Step
  pub loaded : after.loaded ≡ before.loaded

-- a link service, by its answer; NoMemory is always allowed, and changes nothing
abbrev pub IsLinkTurn :
    Result SnapFields RefusedFields → ℕ → AtFields → Booted → Turn → Booted → Type 0
IsLinkTurn answer frames at before NoMemory after = after ≡ before
IsLinkTurn (Ok s) frames at before turn after = IsLinked frames at s before turn after
IsLinkTurn (Err why) frames at before turn after =
    (turn ≡ Linked (note_refused at why))
    × (after ≡ record before { next_event = Over (end.Link why.code) })

-- the turn that a link service is: its note, or that memory ran out
abbrev pub link_turn : {E : Type 0} → Result LinkNoteFields E → Turn
link_turn (Ok note) = Linked note
link_turn (Err cause) = NoMemory

-- A console service: refused if it asks for too much (true); otherwise a text, or the fault of
-- reading it.
abbrev pub IsConsoleTurn : Bool → Result (List ℕ) Fault → Booted → Turn → Booted → Type 0
IsConsoleTurn true text before turn after =
    (turn ≡ Ended end.Console) × (after ≡ record before { next_event = Over end.Console })
IsConsoleTurn false (Err f) before turn after =
    (turn ≡ Ended (end.Fault f)) × (after ≡ record before { next_event = Over (end.Fault f) })
IsConsoleTurn false (Ok text) before turn after =
    (turn ≡ Console text)
    × (after
    ≡ record before {
      state = record { regs = advanced before.state.regs; memory = before.state.memory };
      next_event = Step;
    })

-- ---- one turn

-- what a turn may be, by what the next turn is
abbrev pub IsTurnBy : NextEvent → Library → Booted → Turn → Booted → Type 0
IsTurnBy Step lib before turn after =
    IsStepTurn before.loaded lib.catalog.frames before turn after
IsTurnBy (Link at) lib before turn after =
    IsLinkTurn (snap_of before.known lib.catalog lib.files at) lib.catalog.frames at before turn
    after
IsTurnBy Print lib before turn after =
    IsConsoleTurn (asks_too_much before.state.regs)
    (console_text before.state.regs (flat_of before.state.memory)) before turn after
IsTurnBy (Over e) lib before turn after = (turn ≡ Ended e) × (after ≡ before)

-- the run may make this turn, and then be in the state `after`
unfoldable pub IsTurn : Library → Booted → Turn → Booted → Type 0
IsTurn lib before turn after = IsTurnBy before.next_event lib before turn after

-- ---- the run

-- the run may make these turns, one after another, and then be in the state `last`
unfoldable pub AreTurns : Library → Booted → List Turn → Booted → Type 0
AreTurns lib r [] last = last ≡ r
AreTurns lib r (turn ∷ turns) last =
    (mid : Booted) × IsTurn lib r turn mid × AreTurns lib mid turns last

-- ---- the invariant of a run until an LDBR is executed

-- The registers have the descriptor segment of the image, and the core is laid out as that of the
-- image.
pub record IsLaidOut (frames : ℕ) (s : PagedState) : Type 0 where
  pub dbr : s.regs.dbr ≡ booted_dbr
  pub laid : IsLaid s.memory.core frames

-- `IsLaidOut` holds, until an LDBR has been executed.
abbrev pub LaidOutUntilLdbr : Bool → ℕ → PagedState → Type 0
LaidOutUntilLdbr false frames s = IsLaidOut frames s
LaidOutUntilLdbr true frames s = Unit {0}

-- the state of the flat run that a state of the booted run represents
abbrev pub flat_run_of : Booted → FlatRun
flat_run_of r =
    record {
      state = record { regs = r.state.regs; store = flat_of r.state.memory };
      known = r.known;
      next_event = r.next_event;
      loaded = r.loaded;
    }
