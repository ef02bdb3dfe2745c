-- Isolation: programs of ring r and above do not change words that ring r may not write, and do not
-- depend on words that it may not read, until they fault, stop, or leave through a gate.
use Rattle.std.specs.Prelude.{◌≡◌, ℕ, ◌<◌, ◌≤◌, true, false, List, [], ◌∷◌, map, length}
use Rattle.std.specs.Prelude.{slice_get, Some, Ok}
use Rattle.m36_desc.specs.Fields.{SdwFields}
use Rattle.m36_inst.specs.declared.effect.Effect.{Effect}
use Rattle.m36_inst.specs.declared.effect.Effect.TheVariants as effect
use Rattle.m36_model.specs.Fields.{FinalFields}
use Rattle.m36_model.specs.Pointers.{pointer}
use Rattle.m36_model.specs.Registers.{RegsFields}
use Rattle.m36_model.specs.Store.{Store, State, Tables}
use Rattle.m36_model.specs.Step.{decode}
use Rattle.m36_model.specs.Sight.{IsLive, tables_of, Unreached}
use Rattle.m36_model.specs.Agree.{Agree}
use Rattle.m36_model.specs.Audit.{is_stack_of}
use Rattle.m36_model.specs.Run.{RunStep, window}
use Rattle.m36_model.specs.StoreLaw.{Each}
use Rattle.m36_model.specs.declared.outcome.Outcome.TheVariants.{Next}
use Rattle.m36_model.specs.declared.record.StepRecord.{StepRecord}

-- the step has executed this instruction to its end
pub record Executes (instruction : Effect) (e : StepRecord) : Type 0 where
  pub word : ℕ
  pub fetched : e.word ≡ Some word
  pub number : ℕ
  pub does : decode word ≡ Some (instruction, number)
  pub next : e.outcome ≡ Next

-- A gate call out of ring r: a CALL6 to a word below the call limiter of a live gate, with R2 below
-- r and R3 not below r. The new ring is R2, and PR7 is the base of a stack of the new ring.
pub record IsGateCall {S : Type 0} (o : Store S) (s : State S) (r : ℕ)
    (e : StepRecord) : Type 0 where
  pub executes : Executes effect.Call6 e
  pub final : FinalFields
  pub formed : e.at ≡ Some final
  pub target : (e.after.ppr.psr ≡ final.at.seg) × (e.after.ppr.ic ≡ final.at.word)
  pub sdw : SdwFields
  pub live : IsLive o s final.at.seg sdw
  pub gate : sdw.no_gate ≡ false
  pub below : sdw.r2 < r
  pub callable : r ≤ sdw.r3
  pub entry : final.at.word < sdw.limit
  pub new_ring : e.after.ppr.prr ≡ sdw.r2
  pub stack : ℕ
  pub stack_pointer : slice_get e.after.pr 7 ≡ Some (pointer stack sdw.r2 0)
  pub stack_sdw : SdwFields
  pub stack_live : IsLive o s stack stack_sdw
  pub stack_is : is_stack_of sdw.r2 (Ok stack_sdw) ≡ true

-- two lists have equal lengths, and P holds of their elements in pairs
abbrev pub EachTwo : {A B : Type 0} → (A → B → Type 0) → List A → List B → Type 0
EachTwo P [] [] = Unit {0}
EachTwo P [] (y ∷ ys) = ⊥
EachTwo P (x ∷ xs) [] = ⊥
EachTwo P (x ∷ xs) (y ∷ ys) = P x y × EachTwo P xs ys

-- For a step of a window: no word out of reach of ring r has changed since the start of the window,
-- the tables are T, and the ring falls below r only by a gate call.
pub record IsKept {S : Type 0} (o : Store S) (T : Tables) (r : ℕ) (start : State S)
    (v : RunStep S) : Type 0 where
  pub unreached : Unreached o r start v.after
  pub tables : tables_of o v.after ≡ T
  pub falls : v.told.after.ppr.prr < r → IsGateCall o v.before r v.told

-- The windows of two states have equal records, the states after their steps agree for ring r, and
-- `IsKept` holds of each step of both.
pub record AreIsolated {S : Type 0} (o : Store S) (T : Tables) (r n : ℕ)
    (a b : State S) : Type 0 where
  pub told : map (λ v. v.told) (window o r n a) ≡ map (λ v. v.told) (window o r n b)
  pub agree : EachTwo (λ v w. Agree o r v.after w.after) (window o r n a) (window o r n b)
  pub kept : Each (IsKept o T r a) (window o r n a)
  pub kept_other : Each (IsKept o T r b) (window o r n b)

-- the processor has eight pointer registers
abbrev pub HasPointers : RegsFields → Type 0
HasPointers g = length g.pr ≡ 8

-- The tables T isolate each ring from 1 to 7: if two states with these tables agree for ring r, and
-- run in ring r or above, then their windows of any length are isolated.
abbrev pub Isolated : {S : Type 0} → Store S → Tables → Type 0
Isolated {S} o T =
    (r : ℕ) → 1 ≤ r → r ≤ 7 → (a b : State S) → HasPointers a.regs → tables_of o a ≡ T
    → tables_of o b ≡ T → r ≤ a.regs.ppr.prr → Agree o r a b → (n : ℕ) → AreIsolated o T r n a b
