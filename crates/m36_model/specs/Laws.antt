-- The laws on which isolation rests, each about one step.
use Rattle.std.specs.Prelude.{◌≡◌, ℕ, ◌<◌, ◌≤◌, ◌⊎◌, false, List, length, slice_get, slice_index}
use Rattle.std.specs.Prelude.{Some, Ok, Err}
use Rattle.m36_desc.specs.Fields.{DbrFields}
use Rattle.m36_inst.specs.Operands.{operand_of}
use Rattle.m36_inst.specs.declared.effect.Effect.{Effect}
use Rattle.m36_inst.specs.declared.effect.Effect.TheVariants as effect
use Rattle.m36_model.specs.Fields.{FinalFields}
use Rattle.m36_model.specs.Registers.{RegsFields}
use Rattle.m36_model.specs.Results.{OperandFields, EffectFields}
use Rattle.m36_model.specs.Effect.{exec}
use Rattle.m36_model.specs.WordsPut.{words_written}
use Rattle.m36_model.specs.CallReturn.{stack_pointer}
use Rattle.m36_model.specs.Step.{record_of, state_after}
use Rattle.m36_model.specs.Store.{Store, State, Tables, place}
use Rattle.m36_model.specs.Core.{core_store, core_tables}
use Rattle.m36_model.specs.Sight.{InSight, InReach, Unreached, content, tables_of}
use Rattle.m36_model.specs.Agree.{Agree}
use Rattle.m36_model.specs.Audit.{IsAudited, IsSegmentWord}
use Rattle.m36_model.specs.CoreLaw.{IsSameExceptMarks}
use Rattle.m36_model.specs.Isolation.{Executes, IsGateCall, HasPointers}
use Rattle.m36_model.specs.StoreLaw.{Each}
use Rattle.m36_model.specs.declared.place.Kind.{Kind}
use Rattle.m36_model.specs.declared.place.Kind.TheVariants as reference
use Rattle.m36_model.specs.declared.place.Reference.{Reference}
use Rattle.m36_model.specs.declared.record.StepRecord.{StepRecord}

-- CALL6 goes to the final address in the ring of the operand, and PR7 becomes the base of the stack
-- of that ring.
pub record IsCalled (g : RegsFields) (f : FinalFields) (o : OperandFields)
    (x : EffectFields) : Type 0 where
  pub ring : x.regs.ppr.prr ≡ o.ring
  pub target : (x.regs.ppr.psr ≡ f.at.seg) × (x.regs.ppr.ic ≡ f.at.word)
  pub pointer : HasPointers g → slice_get x.regs.pr 7 ≡ Some (stack_pointer g o.ring)
  pub overflow : x.overflow ≡ false

-- What holds of every effect. Only CALL6 and RTCD change the ring, and RTCD does not enter a ring
-- below that of the address. Only LDBR changes the DBR. An effect gives as many words to write as
-- its operand kind requires.
pub record IsLawfulEffect (e : Effect) (g : RegsFields) (f : FinalFields) (o : OperandFields)
    (x : EffectFields) : Type 0 where
  pub ring :
      (x.regs.ppr.prr ≡ g.ppr.prr) ⊎ ((e ≡ effect.Call6) × IsCalled g f o x)
      ⊎ ((e ≡ effect.Rtcd) × (f.at.ring ≤ x.regs.ppr.prr))
  pub dbr : (x.regs.dbr ≡ g.dbr) ⊎ ((e ≡ effect.Ldbr) × (x.overflow ≡ false))
  pub count : length x.put ≡ words_written (operand_of e)
  pub pointers : HasPointers g → HasPointers x.regs

-- `IsLawfulEffect` holds of every effect that is not refused.
abbrev pub EffectLaw : Type 0
EffectLaw =
    (e : Effect) (n : ℕ) (g : RegsFields) (f : FinalFields) (o : OperandFields) (x : EffectFields)
    → exec e n g f o ≡ Ok x → IsLawfulEffect e g f o x

-- No effect is refused with a directed fault, an access violation, or fault tag 2 or 3.
abbrev pub EffectRefusals : Type 0
EffectRefusals =
    (e : Effect) (n : ℕ) (g : RegsFields) (f : FinalFields) (o : OperandFields) (number : ℕ)
    → exec e n g f o ≡ Err number → number < 16

-- a state to which the laws apply: its tables are T except for marks, and it runs in ring r or
-- above
pub record IsAbove {S : Type 0} (o : Store S) (T : Tables) (r : ℕ) (s : State S) : Type 0 where
  pub pointers : HasPointers s.regs
  pub tables : tables_of o s ≡ T
  pub low : r ≤ s.regs.ppr.prr

-- Whether ring r may make a reference of this kind to a segment: it can see the segment or, for a
-- Write, change it.
abbrev pub MayRefer : {S : Type 0} → Store S → ℕ → State S → ℕ → Kind → Type 0
MayRefer o r s seg reference.Fetch = InSight o s r seg
MayRefer o r s seg reference.Indirect = InSight o s r seg
MayRefer o r s seg reference.Read = InSight o s r seg
MayRefer o r s seg reference.Write = InReach o s r seg

-- a completed reference is to a segment that ring r can see or, for a Write, can change
abbrev pub IsPermittedReference : {S : Type 0} → Store S → ℕ → State S → Reference → Type 0
IsPermittedReference o r s e = MayRefer o r s e.at.seg e.kind

-- Each completed reference of a step in ring r or above is to a segment that ring r can see or, for
-- a Write, can change.
abbrev pub SightLaw : {S : Type 0} → Store S → Tables → Type 0
SightLaw {S} o T =
    (r : ℕ) (s : State S) → IsAbove o T r s
    → Each (IsPermittedReference o r s) (record_of o s).refs.items

-- What ring r cannot see does not affect the record of a step.
abbrev pub DependsLaw : {S : Type 0} → Store S → Tables → Type 0
DependsLaw {S} o T =
    (r : ℕ) (a b : State S) → IsAbove o T r a → Agree o r a b → record_of o a ≡ record_of o b

-- A step does not change the content of a segment that ring r cannot change.
abbrev pub ReachLaw : {S : Type 0} → Store S → Tables → Type 0
ReachLaw {S} o T =
    (r : ℕ) (s : State S) → 1 ≤ r → IsAbove o T r s → Unreached o r s (state_after o s)

-- the address is that of a word of a segment that ring r can change
pub record IsReachable (r : ℕ) (s : State (List ℕ)) (a : ℕ) : Type 0 where
  pub seg : ℕ
  pub w : ℕ
  pub reach : InReach core_store s r seg
  pub word : IsSegmentWord s.store s.regs.dbr seg w a

-- In core, a step changes only words of segments that ring r can change, and marks of PTWs.
abbrev pub CoreReachLaw : List ℕ → DbrFields → Type 0
CoreReachLaw core dbr =
    (r : ℕ) (s : State (List ℕ)) → IsAbove core_store (core_tables core dbr) r s → (a : ℕ)
    → (IsReachable r s a → ⊥)
    → IsSameExceptMarks core dbr a (slice_index s.store a)
    (slice_index (state_after core_store s).store a)

-- A step ends in a ring below r only by a gate call.
abbrev pub FallLaw : {S : Type 0} → Store S → Tables → Type 0
FallLaw {S} o T =
    (r : ℕ) (s : State S) → 1 ≤ r → IsAbove o T r s → (state_after o s).regs.ppr.prr < r
    → IsGateCall o s r (record_of o s)

-- Marks affect no descriptor, no place and no record: these are the same for two states with equal
-- registers, tables that are equal except for marks, and equal content.
pub record MarksAlterNothing {S : Type 0} (o : Store S) (a b : State S) : Type 0 where
  pub descriptors : (seg : ℕ) → o.sdw a.store a.regs.dbr seg ≡ o.sdw b.store b.regs.dbr seg
  pub places : (seg w : ℕ) → place o a.store a.regs.dbr seg w ≡ place o b.store b.regs.dbr seg w
  pub told : record_of o a ≡ record_of o b

-- the law of marks, for states whose tables are T
abbrev pub MarksLaw : {S : Type 0} → Store S → Tables → Type 0
MarksLaw {S} o T =
    (a b : State S) → a.regs ≡ b.regs → tables_of o a ≡ T → tables_of o b ≡ T
    → ((seg w : ℕ) → content o a seg w ≡ content o b seg w) → MarksAlterNothing o a b

-- one step of two states that agree: their records are equal, and the states agree again
pub record IsAlike {S : Type 0} (o : Store S) (T : Tables) (r : ℕ) (a b : State S) : Type 0 where
  pub told : record_of o a ≡ record_of o b
  pub agree : Agree o r (state_after o a) (state_after o b)
  -- Content that was equal is equal again, whether ring r can see it or not. So the half of a word
  -- that a store keeps affects nothing else.
  pub words :
      (seg w : ℕ) → content o a seg w ≡ content o b seg w
      → content o (state_after o a) seg w ≡ content o (state_after o b) seg w
  pub tables : tables_of o (state_after o a) ≡ T

-- A step of two states that agree, in ring r and above, leaves them alike.
abbrev pub AgreeLaw : {S : Type 0} → Store S → Tables → Type 0
AgreeLaw {S} o T =
    (r : ℕ) (a b : State S) → 1 ≤ r → IsAbove o T r a → Agree o r a b → IsAlike o T r a b

-- The step has executed an LDBR.
abbrev pub ExecutesLdbr : StepRecord → Type 0
ExecutesLdbr e = Executes effect.Ldbr e

-- A step with this record that executes no LDBR preserves the audit conditions.
abbrev pub PreservesAudit : State (List ℕ) → State (List ℕ) → StepRecord → Type 0
PreservesAudit old new e =
    IsAudited old.store old.regs.dbr → (ExecutesLdbr e → ⊥) → IsAudited new.store new.regs.dbr

-- Each step, in any ring, preserves the audit conditions unless it executes LDBR.
abbrev pub AuditKeptLaw : Type 0
AuditKeptLaw =
    (s : State (List ℕ)) → PreservesAudit s (state_after core_store s) (record_of core_store s)
