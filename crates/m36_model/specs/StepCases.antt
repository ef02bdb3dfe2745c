-- A step as a relation: its cases, and the state after each.
--
--   The fetch, the address, the operand or the effect is refused: a fault or a stop; the registers
--   are unchanged.
--   No instruction, no right to it, MME, DRL, DIS: a fault or a stop; the registers are unchanged.
--   The effect has turned overflow on, and the mask is off: the overflow fault; the full effect.
--   Otherwise: the next instruction; the full effect.
--
-- If the registers are unchanged, no word is written. The full effect is the new tally word and the
-- tally runout of the chain, the new registers, and the words that the instruction writes. In all
-- cases the marks of the completed references are set.
use Rattle.std.specs.Prelude.{ℕ, ◌≡◌, Bool, true, false, List, [], ◌∷◌, ◌++◌, map, length, Option}
use Rattle.std.specs.Prelude.{Some, None, Ok, Err, slice_index}
use Rattle.m36_inst.specs.Instruction.{inst_of}
use Rattle.m36_inst.specs.Operands.{operand_of, forms_address, is_privileged, takes_direct}
use Rattle.m36_inst.specs.declared.effect.Effect.{Effect}
use Rattle.m36_inst.specs.declared.operand.Operand.{Operand}
use Rattle.m36_inst.specs.declared.operand.Operand.TheVariants as kind
use Rattle.m36_model.specs.Faults.{illegal_procedure}
use Rattle.m36_model.specs.Fields.{FinalFields}
use Rattle.m36_model.specs.Registers.{RegsFields}
use Rattle.m36_model.specs.Act.{Read, Write, Transfer, Call, Locate, Part, Whole, Request, Answer}
use Rattle.m36_model.specs.Store.{Spot, Change, Store, Midstep, State, serve, run}
use Rattle.m36_model.specs.Core.{core_store}
use Rattle.m36_model.specs.Modification.{halt_here}
use Rattle.m36_model.specs.Chain.{ChainEnd}
use Rattle.m36_model.specs.Results.{OperandFields, EffectFields, words_only}
use Rattle.m36_model.specs.Transfers.{is_taken}
use Rattle.m36_model.specs.Effect.{exec, is_absa}
use Rattle.m36_model.specs.WordsPut.{words_written, part_written}
use Rattle.m36_model.specs.Step.{with_chain_tally, no_operand, request_at, got_word, got_words}
use Rattle.m36_model.specs.Step.{got_place}
use Rattle.m36_model.specs.Step.{got_nothing, got_ring, direct_word, operate, outcome_of}
use Rattle.m36_model.specs.Step.{outcome_after, formation, decode, has_right, fetch_request}
use Rattle.m36_model.specs.Step.{immediate_halt, is_barred, start_of_step, record_of, state_after}
use Rattle.m36_model.specs.declared.outcome.Fault.{Fault}
use Rattle.m36_model.specs.declared.outcome.Halt.{Halt}
use Rattle.m36_model.specs.declared.outcome.Halt.TheVariants as halt
use Rattle.m36_model.specs.declared.outcome.Stop.TheVariants as stop
use Rattle.m36_model.specs.declared.outcome.Outcome.{Outcome}
use Rattle.m36_model.specs.declared.outcome.Outcome.TheVariants.{Faulted}
use Rattle.m36_model.specs.declared.record.StepRecord.{StepRecord}

-- A step that changed only marks: its record and its state.
pub record ChangedOnlyMarks {S : Type 0} (s : State S) (e : StepRecord) (t : State S)
    (m : Midstep S)
    (word : Option ℕ) (at : Option FinalFields) (outcome : Outcome) : Type 0 where
  pub told :
      e
      ≡ record {
        ppr = s.regs.ppr;
        word = word;
        at = at;
        refs = record { items = m.refs };
        after = s.regs;
        outcome = outcome;
      }
  pub left : t ≡ record { regs = s.regs; store = m.store }

-- The instruction word was fetched. `right` says whether the step may execute privileged
-- instructions.
pub record IsFetched {S : Type 0} (o : Store S) (s : State S) (word : ℕ) (right : Bool)
    (m : Midstep S) : Type 0 where
  pub answer : Answer
  pub served :
      serve o s.regs (start_of_step s) (fetch_request s.regs)
      ≡ record { reply = Ok answer; mid = m }
  pub word_is : slice_index answer.words 0 ≡ word
  pub right_is : has_right answer.sdw s.regs.ppr.prr ≡ right

-- The instruction may be executed.
pub record IsAdmitted {S : Type 0} (o : Store S) (s : State S) (word : ℕ) (e : Effect) (n : ℕ)
    (m : Midstep S) : Type 0 where
  pub right : Bool
  pub fetched : IsFetched o s word right m
  pub decoded : decode word ≡ Some (e, n)
  pub allowed : is_barred e right ≡ false

-- The address of the instruction was formed.
pub record IsFormed {S : Type 0} (o : Store S) (s : State S) (word : ℕ) (e : Effect) (n : ℕ)
    (c : ChainEnd) (m : Midstep S) : Type 0 where
  pub before : Midstep S
  pub admitted : IsAdmitted o s word e n before
  pub forms : forms_address (operand_of e) ≡ true
  pub formed :
      run o s.regs (formation s.regs (inst_of word)) before ≡ record { value = Ok c; mid = m }

-- An operand that was referenced: what the effect gets, the part of words that it writes, the spots
-- of these words, and the state within the step.
pub record Reached (S : Type 0) : Type 0 where
  pub operand : OperandFields
  pub part : Part
  pub spots : List Spot
  pub mid : Midstep S

-- Nothing was referenced; the effect gets `got`.
pub record IsUnreferenced {S : Type 0} (m : Midstep S) (got : OperandFields)
    (u : Reached S) : Type 0 where
  pub operand : u.operand ≡ got
  pub nothing : u.spots ≡ []
  pub mid : u.mid ≡ m

-- One reference was made that claims nothing; the effect gets what `gives` takes of its answer.
pub record IsReferenced {S : Type 0} (o : Store S) (g : RegsFields) (q : Request)
    (gives : Answer → OperandFields) (m : Midstep S) (u : Reached S) : Type 0 where
  pub answer : Answer
  pub served : serve o g m q ≡ record { reply = Ok answer; mid = u.mid }
  pub operand : u.operand ≡ gives answer
  pub nothing : u.spots ≡ []

-- One request claimed words to be written; the effect gets `got`.
pub record IsClaimed {S : Type 0} (o : Store S) (g : RegsFields) (q : Request) (part : Part)
    (got : OperandFields) (m : Midstep S) (u : Reached S) : Type 0 where
  pub answer : Answer
  pub served : serve o g m q ≡ record { reply = Ok answer; mid = u.mid }
  pub operand : u.operand ≡ got
  pub part_is : u.part ≡ part
  pub claims : u.mid.claims ≡ m.claims ++ u.spots

-- A word was read and then claimed, to be written.
pub record IsReadAndClaimed {S : Type 0} (o : Store S) (g : RegsFields) (c : ChainEnd) (part : Part)
    (m : Midstep S) (u : Reached S) : Type 0 where
  pub answer : Answer
  pub between : Midstep S
  pub read : serve o g m (request_at Read c 1) ≡ record { reply = Ok answer; mid = between }
  pub write : IsClaimed o g (request_at Write c 1) part (got_word answer) between u

-- The operand of an instruction that uses only its address: nothing was referenced, or the word was
-- located for ABSA (true).
abbrev pub IsAddressed :
    {S : Type 0} → Store S → RegsFields → ChainEnd → Bool → Midstep S → Reached S → Type 0
IsAddressed o g c false m u = IsUnreferenced m no_operand u
IsAddressed o g c true m u = IsReferenced o g (request_at Locate c 1) got_place m u

-- The target of a transfer was checked, if the transfer is taken (true); otherwise nothing was
-- referenced.
abbrev pub IsTargeted :
    {S : Type 0} → Store S → RegsFields → ChainEnd → Bool → Midstep S → Reached S → Type 0
IsTargeted o g c false m u = IsUnreferenced m no_operand u
IsTargeted o g c true m u = IsReferenced o g (request_at Transfer c 1) got_nothing m u

-- The words that an operand kind writes were claimed.
abbrev pub IsClaimedFor :
    {S : Type 0} → Store S → RegsFields → ChainEnd → Operand → Midstep S → Reached S → Type 0
IsClaimedFor o g c k m u =
    IsClaimed o g (request_at Write c (words_written k)) (part_written k) no_operand m u

-- the operand is referenced by its kind
abbrev pub IsOperandOf :
    {S : Type 0} → Store S → RegsFields → Effect → ChainEnd → Operand → Midstep S → Reached S
    → Type 0
IsOperandOf o g e c kind.R m u = IsReferenced o g (request_at Read c 1) got_word m u
IsOperandOf o g e c kind.R2 m u = IsReferenced o g (request_at Read c 2) got_words m u
IsOperandOf o g e c kind.R16 m u = IsReferenced o g (request_at Read c 16) got_words m u
IsOperandOf o g e c kind.W m u = IsClaimedFor o g c kind.W m u
IsOperandOf o g e c kind.W2 m u = IsClaimedFor o g c kind.W2 m u
IsOperandOf o g e c kind.W16 m u = IsClaimedFor o g c kind.W16 m u
IsOperandOf o g e c kind.Wl m u = IsClaimedFor o g c kind.Wl m u
IsOperandOf o g e c kind.Wr m u = IsClaimedFor o g c kind.Wr m u
IsOperandOf o g e c kind.Rw m u = IsReadAndClaimed o g c (part_written kind.Rw) m u
IsOperandOf o g e c kind.Rwl m u = IsReadAndClaimed o g c (part_written kind.Rwl) m u
IsOperandOf o g e c kind.A m u = IsAddressed o g c (is_absa e) m u
IsOperandOf o g e c kind.T m u = IsTargeted o g c (is_taken e (with_chain_tally g c)) m u
IsOperandOf o g e c kind.N m u = IsUnreferenced m no_operand u
IsOperandOf o g e c kind.Call6 m u =
    IsReferenced o g (request_at Call c 1) (got_ring c.last.at.ring) m u

-- the operand is referenced, or is a direct one that the instruction accepts
abbrev pub IsOperand :
    {S : Type 0} → Store S → RegsFields → Effect → ChainEnd → Option ℕ → Midstep S → Reached S
    → Type 0
IsOperand o g e c None m u = IsOperandOf o g e c (operand_of e) m u
IsOperand o g e c (Some w) m u =
    (takes_direct e ≡ true) × IsUnreferenced m (words_only (direct_word (operand_of e) w)) u

-- the changes that write words, or a part of each, at spots, in order
abbrev pub changes_at_spots : Part → List Spot → List ℕ → List Change
changes_at_spots part [] words = []
changes_at_spots part (spot ∷ spots) [] = []
changes_at_spots part (spot ∷ spots) (w ∷ words) =
    record { spot = spot; part = part; value = w } ∷ changes_at_spots part spots words

-- The full effect. The tally word, whose spot the chain has claimed, is written first, and then the
-- words of the operand.
pub record HasEffect {S : Type 0} (o : Store S) (s : State S) (e : StepRecord)
    (t : State S) : Type 0 where
  pub word : ℕ
  pub instruction : Effect
  pub number : ℕ
  pub end : ChainEnd
  pub chained : Midstep S
  pub formed : IsFormed o s word instruction number end chained
  pub reached : Reached S
  pub operand : IsOperand o s.regs instruction end end.last.direct chained reached
  pub result : EffectFields
  pub effected : exec instruction number (with_chain_tally s.regs end) end.last reached.operand
      ≡ Ok result
  pub tallies : length chained.claims ≡ length end.pending
  pub words : length reached.spots ≡ length result.put
  pub told : e ≡ record {
    ppr = s.regs.ppr;
    word = Some word;
    at = Some end.last;
    refs = record { items = reached.mid.refs };
    after = result.regs;
    outcome = outcome_after result.overflow result.regs.ind.mask s.regs;
  }
  pub left : t ≡ record {
    regs = result.regs;
    store =
        o.put reached.mid.store
        (changes_at_spots Whole chained.claims (map (λ p. p.value) end.pending)
        ++ changes_at_spots reached.part reached.spots result.put);
  }

-- the cases of a step with this record and this state after it
pub data StepCase {S : Type 0} (o : Store S) (s : State S) (e : StepRecord)
    (t : State S) : Type 0 where
  fetch_refused :
      (f : Fault) (m : Midstep S)
      → serve o s.regs (start_of_step s) (fetch_request s.regs) ≡ record { reply = Err f; mid = m }
      → ChangedOnlyMarks s e t m None None (Faulted f) → StepCase o s e t
  no_instruction :
      (word : ℕ) (right : Bool) (m : Midstep S) → IsFetched o s word right m → decode word ≡ None
      → ChangedOnlyMarks s e t m (Some word) None (outcome_of (halt.Stop stop.Operation))
      → StepCase o s e t
  privilege_refused :
      (word : ℕ) (m : Midstep S) (i : Effect) (n : ℕ) → IsFetched o s word false m
      → decode word ≡ Some (i, n) → is_privileged i ≡ true
      → ChangedOnlyMarks s e t m (Some word) None (outcome_of (halt_here illegal_procedure s.regs))
      → StepCase o s e t
  no_address :
      (word : ℕ) (m : Midstep S) (i : Effect) (n : ℕ) → IsAdmitted o s word i n m
      → operand_of i ≡ kind.N → ChangedOnlyMarks s e t m (Some word) None
      (outcome_of (immediate_halt i s.regs))
      → StepCase o s e t
  address_refused :
      (word : ℕ) (before m : Midstep S) (i : Effect) (n : ℕ) (h : Halt)
      → IsAdmitted o s word i n before
      → forms_address (operand_of i) ≡ true
      → run o s.regs (formation s.regs (inst_of word)) before ≡ record { value = Err h; mid = m }
      → ChangedOnlyMarks s e t m (Some word) None (outcome_of h) → StepCase o s e t
  operation_refused :
      (word : ℕ) (before m : Midstep S) (i : Effect) (n : ℕ) (c : ChainEnd) (h : Halt)
      → IsFormed o s word i n c before
      → run o s.regs (operate i n s.regs c) before ≡ record { value = Err h; mid = m }
      → ChangedOnlyMarks s e t m (Some word) (Some c.last) (outcome_of h) → StepCase o s e t
  effected : HasEffect o s e t → StepCase o s e t

-- Each step is one of the cases.
abbrev pub StepHasACase : Type 0
StepHasACase =
    (s : State (List ℕ)) → StepCase core_store s (record_of core_store s) (state_after core_store s)

-- Each case is the record and the state of the step; so no other record and no other state is a
-- case.
abbrev pub CaseIsTheStep : Type 0
CaseIsTheStep =
    (s : State (List ℕ)) (e : StepRecord) (t : State (List ℕ)) → StepCase core_store s e t
    → (e ≡ record_of core_store s) × (t ≡ state_after core_store s)
