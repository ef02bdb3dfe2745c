-- Isolation over every schedule: several processes that run in ring r and above do not change words
-- that ring r may not write, and do not depend on words that it may not read, until one of them
-- faults, stops, or leaves through a gate.
use Rattle.std.specs.Prelude.{◌≡◌, ℕ, ◌<◌, ◌≤◌, List, map, length, slice_get, Some}
use Rattle.m36_model.specs.Registers.{RegsFields}
use Rattle.m36_model.specs.Store.{Store, Tables}
use Rattle.m36_model.specs.Sight.{Unreached, tables_of}
use Rattle.m36_model.specs.Agree.{Agree}
use Rattle.m36_model.specs.StoreLaw.{Each}
use Rattle.m36_model.specs.Isolation.{EachTwo, IsGateCall}
use Rattle.m36_model.specs.Laws.{IsAbove}
use Rattle.m36_model.specs.Schedule.{Processes, process_of, Event, window_of}

-- equal registers, and each process of one state agrees with the same process of the other
pub record AgreeAll {S : Type 0} (o : Store S) (r : ℕ) (a b : Processes S) : Type 0 where
  pub regs : a.regs ≡ b.regs
  pub each :
      (i : ℕ) (g : RegsFields) → slice_get a.regs i ≡ Some g
      → Agree o r (process_of a g) (process_of b g)

-- each process has its tables, except for marks, has eight pointer registers, and runs in ring r or
-- above
pub record AreAbove {S : Type 0} (o : Store S) (T : List Tables) (r : ℕ)
    (s : Processes S) : Type 0 where
  pub count : length s.regs ≡ length T
  pub each :
      (i : ℕ) (g : RegsFields) (t : Tables) → slice_get s.regs i ≡ Some g → slice_get T i ≡ Some t
      → IsAbove o t r (process_of s g)

-- For an event of a window: no word that is out of reach of ring r in any process has changed since
-- the start of the window, the tables of each process are its own in T, and the ring of the event's
-- process falls below r only by a gate call.
pub record IsEventKept {S : Type 0} (o : Store S) (T : List Tables) (r : ℕ) (start : Processes S)
    (e : Event S) : Type 0 where
  pub unreached :
      (i : ℕ) (g h : RegsFields) → slice_get start.regs i ≡ Some g
      → slice_get e.after.regs i ≡ Some h
      → Unreached o r (process_of start g) (process_of e.after h)
  pub tables :
      (i : ℕ) (g : RegsFields) (t : Tables) → slice_get e.after.regs i ≡ Some g
      → slice_get T i ≡ Some t → tables_of o (process_of e.after g) ≡ t
  pub falls :
      e.told.after.ppr.prr < r → (g : RegsFields) → slice_get e.before.regs e.process ≡ Some g
      → IsGateCall o (process_of e.before g) r e.told

-- the windows of two states under one schedule have the same processes and records, the states
-- after their events agree, and `IsEventKept` holds of each event of both
pub record AreJointlyIsolated {S : Type 0} (o : Store S) (T : List Tables) (r : ℕ)
    (schedule : List ℕ) (a b : Processes S) : Type 0 where
  pub processes :
      map (λ e. e.process) (window_of o r schedule a) ≡ map (λ e. e.process)
      (window_of o r schedule b)
  pub told :
      map (λ e. e.told) (window_of o r schedule a) ≡ map (λ e. e.told) (window_of o r schedule b)
  pub agree :
      EachTwo (λ e f. AgreeAll o r e.after f.after) (window_of o r schedule a)
      (window_of o r schedule b)
  pub kept : Each (IsEventKept o T r a) (window_of o r schedule a)
  pub kept_other : Each (IsEventKept o T r b) (window_of o r schedule b)

-- Processes with the tables T, one for each process, are isolated over every schedule, for each
-- ring from 1 to 7.
abbrev pub JointlyIsolated : {S : Type 0} → Store S → List Tables → Type 0
JointlyIsolated {S} o T =
    (r : ℕ) → 1 ≤ r → r ≤ 7 → (a b : Processes S) → AreAbove o T r a → AgreeAll o r a b
    → (schedule : List ℕ) → AreJointlyIsolated o T r schedule a b
