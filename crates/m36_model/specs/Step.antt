-- One step, from the fetch of an instruction to its stored result, as a program that depends only
-- on the registers. Multics Processor Manual AL39, "Instruction execution", "Processor modes"; the
-- order of the parts is this project's choice:
--
--   1. The instruction is fetched.
--   2. A code without an instruction stops the machine.
--   3. A privileged instruction without the right to it is an illegal procedure.
--   4. MME and DRL give their faults, and DIS stops the machine.
--   5. The address is formed.
--   6. A direct operand that the instruction does not accept is an illegal procedure.
--   7. The operand is referenced. Of transfers, only one that is taken examines its target.
--   8. The effect happens.
use Rattle.std.specs.Prelude.{ℕ, zero, suc, ◌+◌, ◌-◌, ◌%◌, Bool, true, false, not, ◌&&◌, ◌==◌, List}
use Rattle.std.specs.Prelude.{[], ◌∷◌, ◌++◌, Option, Some, None, option_map, Result, Ok, Err}
use Rattle.std.specs.Prelude.{slice_index}
use Rattle.m36_desc.specs.Fields.{SdwFields}
use Rattle.m36_desc.specs.Access.{ring_after_call}
use Rattle.m36_inst.specs.Fields.{InstFields}
use Rattle.m36_inst.specs.Instruction.{inst_of}
use Rattle.m36_inst.specs.Operands.{operand_of, is_privileged, takes_direct}
use Rattle.m36_inst.specs.Lookup.{row_at}
use Rattle.m36_inst.specs.declared.rows.Row.{Row}
use Rattle.m36_inst.specs.declared.effect.Effect.{Effect}
use Rattle.m36_inst.specs.declared.effect.Effect.TheVariants as effect
use Rattle.m36_inst.specs.declared.operand.Operand.{Operand}
use Rattle.m36_inst.specs.declared.operand.Operand.TheVariants as kind
use Rattle.m36_model.specs.Faults.{master_mode_entry, derail, illegal_procedure, overflow_fault}
use Rattle.m36_model.specs.Fields.{AtFields, FinalFields}
use Rattle.m36_model.specs.Registers.{RegsFields}
use Rattle.m36_model.specs.Act.{RequestKind, Fetch, Read, Write, Transfer, Call, Locate, Part}
use Rattle.m36_model.specs.Act.{Whole, Put, Request, Answer, Act, done, ask, refer}
use Rattle.m36_model.specs.Act.{otherwise}
use Rattle.m36_model.specs.Modification.{here, fault_here, halt_here}
use Rattle.m36_model.specs.FirstPoint.{first_point}
use Rattle.m36_model.specs.Chain.{ChainEnd, Formation, chain}
use Rattle.m36_model.specs.Results.{OperandFields, EffectFields, words_only, words_in_ring}
use Rattle.m36_model.specs.Results.{ring_only, place_only}
use Rattle.m36_model.specs.WordsPut.{words_written, part_written}
use Rattle.m36_model.specs.Transfers.{is_taken}
use Rattle.m36_model.specs.Effect.{exec, is_absa}
use Rattle.m36_model.specs.Store.{Store, Midstep, ProgramResult, State, initial_midstep, run}
use Rattle.m36_model.specs.Store.{changes}
use Rattle.m36_model.specs.declared.outcome.Fault.{Fault}
use Rattle.m36_model.specs.declared.outcome.Stop.TheVariants as stop
use Rattle.m36_model.specs.declared.outcome.Halt.{Halt}
use Rattle.m36_model.specs.declared.outcome.Halt.TheVariants as halt
use Rattle.m36_model.specs.declared.outcome.Outcome.{Outcome}
use Rattle.m36_model.specs.declared.outcome.Outcome.TheVariants.{Next, Faulted, Stopped}
use Rattle.m36_model.specs.declared.record.StepRecord.{StepRecord}

-- an operation that was not refused: the new registers, the words to write in order, and whether
-- the overflow indicator was turned on
pub record Performed : Type 0 where
  pub regs : RegsFields
  pub puts : List Put
  pub overflow : Bool

-- the program that references the operand and performs the effect
abbrev pub Operation : Type 0
Operation = Act (Result Performed Halt)

-- puts that write these words, or the same part of each, into the claimed words from number `first`
-- on
abbrev pub puts_from : Part → ℕ → List ℕ → List Put
puts_from part first [] = []
puts_from part first (w ∷ words) =
    record { claim = first; part = part; value = w } ∷ puts_from part (first + 1) words

-- the puts of a step: the new tally word, if there is one, and then the words of the operand
abbrev pub puts_with : List Put → Part → ℕ → List ℕ → List Put
puts_with pending part first words = pending ++ puts_from part first words

-- The result of an operation, from that of its effect. A refusal of the effect is a fault at the
-- instruction.
abbrev pub operation_result :
    RegsFields → ChainEnd → Part → ℕ → Result EffectFields ℕ → Result Performed Halt
operation_result g c part first (Ok e) =
    Ok (record {
      regs = e.regs;
      puts = puts_with c.pending part first e.put;
      overflow = e.overflow;
    })
operation_result g c part first (Err number) = Err (halt_here number g)

-- the tally runout indicator after a chain, which may have set it (Some)
abbrev pub tally_after_chain : Bool → Option Bool → Bool
tally_after_chain old None = old
tally_after_chain old (Some b) = b

-- the registers with tally runout on or off
abbrev pub with_tally : Bool → RegsFields → RegsFields
with_tally runout g = record g { ind = record g.ind { tally = runout } }

-- the registers with tally runout as the chain has set it
unfoldable pub with_chain_tally : RegsFields → ChainEnd → RegsFields
with_chain_tally g c = with_tally (tally_after_chain g.ind.tally c.runout) g

-- The operation that performs the effect with an operand that is known. The effect sees tally
-- runout as the chain has set it.
abbrev pub perform : Effect → ℕ → RegsFields → ChainEnd → Part → ℕ → OperandFields → Operation
perform e n g c part first o =
    done (operation_result g c part first (exec e n (with_chain_tally g c) c.last o))

-- the operand of an effect that gets no word, ring or address
abbrev pub no_operand : OperandFields
no_operand = words_only []

-- the word number rounded down to a multiple of count, which is 1, 2 or 16: a pair or a block
-- begins there
abbrev pub aligned : ℕ → ℕ → ℕ
aligned zero w = w
aligned (suc zero) w = w
aligned (suc (suc n)) w = w - w % suc (suc n)

-- a place with its word number rounded down to a multiple of count
abbrev pub aligned_at : ℕ → AtFields → AtFields
aligned_at count at = record { seg = at.seg; word = aligned count at.word; ring = at.ring }

-- a request for `count` words at the end of the chain; a read sees the new tally word
abbrev pub request_at : RequestKind → ChainEnd → ℕ → Request
request_at kind c count =
    record {
      kind = kind;
      count = count;
      pending = c.pending;
      at = aligned_at count c.last.at;
    }

-- what the effect gets of the answer to a read of one word: the word
abbrev pub got_word : Answer → OperandFields
got_word a = words_only a.words

-- what the effect gets of the answer to a read of a pair or a block: its words, and R1 of their
-- segment
abbrev pub got_words : Answer → OperandFields
got_words a = words_in_ring a.words a.sdw.r1

-- what ABSA gets of the answer to its Locate: the core address
abbrev pub got_place : Answer → OperandFields
got_place a = place_only a.place

-- what a transfer gets of the answer to the check of its target: nothing
abbrev pub got_nothing : Answer → OperandFields
got_nothing a = no_operand

-- what CALL6 gets of the answer to the check of its target: the new ring, for a reference in ring
-- trr
abbrev pub got_ring : ℕ → Answer → OperandFields
got_ring trr a = ring_only (ring_after_call a.sdw trr)

-- the operation that reads one word and performs the effect with it
abbrev pub reading_word : Effect → ℕ → RegsFields → ChainEnd → Operation
reading_word e n g c =
    refer (request_at Read c 1) (λ a. perform e n g c Whole 0 (got_word a))

-- the operation that reads a pair or a block and performs the effect with it and with R1 of its
-- segment
abbrev pub reading_words : Effect → ℕ → RegsFields → ChainEnd → ℕ → Operation
reading_words e n g c count =
    refer (request_at Read c count) (λ a. perform e n g c Whole 0 (got_words a))

-- the operation that claims words, or a half of one word, and performs the effect, which gives
-- their values
abbrev pub writing : Effect → ℕ → RegsFields → ChainEnd → ℕ → Part → Operation
writing e n g c count part =
    refer (request_at Write c count) (λ a. perform e n g c part a.first no_operand)

-- the operation that reads a word, claims the same word, and performs the effect: two references
abbrev pub changing : Effect → ℕ → RegsFields → ChainEnd → Part → Operation
changing e n g c part =
    refer (request_at Read c 1) (λ a.
    refer (request_at Write c 1) (λ b.
    perform e n g c part b.first (got_word a)))

-- The operation that performs the effect with the address alone. For ABSA (true), the effect also
-- gets the core address.
abbrev pub addressing : Effect → ℕ → RegsFields → ChainEnd → Bool → Operation
addressing e n g c false = perform e n g c Whole 0 no_operand
addressing e n g c true =
    refer (request_at Locate c 1) (λ a. perform e n g c Whole 0 (got_place a))

-- the operation of a transfer: examines the target only if the transfer is taken (true)
abbrev pub transferring : Effect → ℕ → RegsFields → ChainEnd → Bool → Operation
transferring e n g c false = perform e n g c Whole 0 no_operand
transferring e n g c true =
    refer (request_at Transfer c 1) (λ a. perform e n g c Whole 0 (got_nothing a))

-- the operation of CALL6: examines the target, whose descriptor gives the new ring
abbrev pub calling : Effect → ℕ → RegsFields → ChainEnd → Operation
calling e n g c =
    refer (request_at Call c 1) (λ a. perform e n g c Whole 0 (got_ring c.last.at.ring a))

-- the operation of an instruction whose operand is not direct, by how it references its operand
abbrev pub operate_by_kind : Effect → ℕ → RegsFields → ChainEnd → Operand → Operation
operate_by_kind e n g c kind.R = reading_word e n g c
operate_by_kind e n g c kind.R2 = reading_words e n g c 2
operate_by_kind e n g c kind.R16 = reading_words e n g c 16
operate_by_kind e n g c kind.W = writing e n g c (words_written kind.W) (part_written kind.W)
operate_by_kind e n g c kind.W2 = writing e n g c (words_written kind.W2) (part_written kind.W2)
operate_by_kind e n g c kind.W16 = writing e n g c (words_written kind.W16) (part_written kind.W16)
operate_by_kind e n g c kind.Wl = writing e n g c (words_written kind.Wl) (part_written kind.Wl)
operate_by_kind e n g c kind.Wr = writing e n g c (words_written kind.Wr) (part_written kind.Wr)
operate_by_kind e n g c kind.Rw = changing e n g c (part_written kind.Rw)
operate_by_kind e n g c kind.Rwl = changing e n g c (part_written kind.Rwl)
operate_by_kind e n g c kind.A = addressing e n g c (is_absa e)
operate_by_kind e n g c kind.T = transferring e n g c (is_taken e (with_chain_tally g c))
operate_by_kind e n g c kind.N = perform e n g c Whole 0 no_operand
operate_by_kind e n g c kind.Call6 = calling e n g c

-- The words that the effect gets of the direct operand w. NOP accepts one and does not use it.
abbrev pub direct_word : Operand → ℕ → List ℕ
direct_word kind.R w = w ∷ []
direct_word _ w = []

-- what the effect gets of the direct operand w, if the instruction accepts one (true); otherwise an
-- illegal procedure
abbrev pub direct_operand : Effect → RegsFields → ℕ → Bool → Result OperandFields Fault
direct_operand e g w true = Ok (words_only (direct_word (operand_of e) w))
direct_operand e g w false = Err (fault_here illegal_procedure g)

-- performs the effect with this operand, or ends with the fault
abbrev pub with_operand :
    Effect → ℕ → RegsFields → ChainEnd → Result OperandFields Fault → Operation
with_operand e n g c (Ok o) = perform e n g c Whole 0 o
with_operand e n g c (Err f) = done (Err (halt.Fault f))

-- the operation with the direct operand w; an illegal procedure unless the instruction accepts one
-- (true)
abbrev pub operate_direct : Effect → ℕ → RegsFields → ChainEnd → ℕ → Bool → Operation
operate_direct e n g c w taken = with_operand e n g c (direct_operand e g w taken)

-- the operation with a direct operand (Some), or with the operand at the end of the chain (None)
abbrev pub operate_on : Effect → ℕ → RegsFields → ChainEnd → Option ℕ → Operation
operate_on e n g c None = operate_by_kind e n g c (operand_of e)
operate_on e n g c (Some w) = operate_direct e n g c w (takes_direct e)

-- The operation of an instruction: references its operand, and then performs the effect.
unfoldable pub operate : Effect → ℕ → RegsFields → ChainEnd → Operation
operate e n g c = operate_on e n g c c.last.direct

-- the result of a step's program: the instruction word, the final address, the registers after the
-- step, the words to write, and the outcome
pub record Ending : Type 0 where
  pub word : Option ℕ
  pub at : Option FinalFields
  pub after : RegsFields
  pub puts : List Put
  pub outcome : Outcome

-- the outcome of a step that was ended before its effect
abbrev pub outcome_of : Halt → Outcome
outcome_of (halt.Fault f) = Faulted f
outcome_of (halt.Stop s) = Stopped s

-- The end of a step that is refused or stops: the registers are unchanged, and nothing is written.
abbrev pub end_halted : RegsFields → Option ℕ → Option FinalFields → Halt → Act Ending
end_halted g word at h =
    done (record { word = word; at = at; after = g; puts = []; outcome = outcome_of h })

-- The outcome of a step whose effect happened: an overflow fault (true), or the next instruction.
abbrev pub outcome_by : Bool → RegsFields → Outcome
outcome_by true g = Faulted (fault_here overflow_fault g)
outcome_by false g = Next

-- The outcome of a step whose effect happened. It is an overflow fault if the effect has turned the
-- overflow indicator on and the overflow mask is off; the effect is kept.
abbrev pub outcome_after : Bool → Bool → RegsFields → Outcome
outcome_after overflow mask g = outcome_by (overflow && not mask) g

-- the end of a step whose operation was performed
abbrev pub end_completed : RegsFields → ℕ → FinalFields → Performed → Act Ending
end_completed g w last e =
    done (record {
      word = Some w;
      at = Some last;
      after = e.regs;
      puts = e.puts;
      outcome = outcome_after e.overflow e.regs.ind.mask g;
    })

-- performs the operation, once the address is formed, and ends the step
abbrev pub operate_and_end : Effect → ℕ → RegsFields → ℕ → ChainEnd → Act Ending
operate_and_end e n g w c =
    otherwise (operate e n g c) (end_completed g w c.last) (end_halted g (Some w) (Some c.last))

-- the most indirect words that one address may have (this project's choice)
abbrev pub indirect_words : ℕ
indirect_words = 16

-- the program that forms the address of an instruction
abbrev pub formation : RegsFields → InstFields → Formation
formation g i = chain indirect_words g (first_point g i)

-- forms the address, performs the operation, and ends the step
abbrev pub form_and_operate : Effect → ℕ → RegsFields → ℕ → Act Ending
form_and_operate e n g w =
    otherwise (formation g (inst_of w)) (operate_and_end e n g w) (end_halted g (Some w) None)

-- the fault or stop with which MME, DRL or DIS ends the step
abbrev pub immediate_halt : Effect → RegsFields → Halt
immediate_halt effect.Mme g = halt_here master_mode_entry g
immediate_halt effect.Drl g = halt_here derail g
immediate_halt _ g = halt.Stop stop.Dis

-- The end of a step of MME, DRL or DIS. They form no address (this project's choice).
abbrev pub no_address : Effect → RegsFields → ℕ → Act Ending
no_address e g w = end_halted g (Some w) None (immediate_halt e g)

-- executes an instruction that may be executed, in the word w, by how it references its operand
abbrev pub execute_admitted : Effect → ℕ → RegsFields → ℕ → Operand → Act Ending
execute_admitted e n g w kind.N = no_address e g w
execute_admitted e n g w _ = form_and_operate e n g w

-- whether an instruction is privileged and there is no right to it
abbrev pub is_barred : Effect → Bool → Bool
is_barred e right = is_privileged e && not right

-- executes an instruction, unless it is barred (true): then it is an illegal procedure
abbrev pub execute_unless_barred : Effect → ℕ → RegsFields → ℕ → Bool → Act Ending
execute_unless_barred e n g w true = end_halted g (Some w) None (halt_here illegal_procedure g)
execute_unless_barred e n g w false = execute_admitted e n g w (operand_of e)

-- the effect of a row, and the number of the register in the name of its instruction
abbrev pub effect_and_number : Row → Effect × ℕ
effect_and_number row = (row.effect, row.reg)

-- The instruction in a word and the number in its name; None if its code has no instruction. The
-- inhibit bit is ignored.
unfoldable pub decode : ℕ → Option (Effect × ℕ)
decode w = option_map effect_and_number (row_at (inst_of w).code (inst_of w).bit27)

-- executes the instruction that was decoded from the word w; the machine stops if there is none
abbrev pub execute_decoded : RegsFields → ℕ → Bool → Option (Effect × ℕ) → Act Ending
execute_decoded g w privileged None = end_halted g (Some w) None (halt.Stop stop.Operation)
execute_decoded g w privileged (Some row) =
    execute_unless_barred row.0 row.1 g w (is_barred row.0 privileged)

-- The right to privileged instructions: the segment that has the instruction is privileged, and the
-- ring is 0.
abbrev pub has_right : SdwFields → ℕ → Bool
has_right d ring = d.privileged && (ring == 0)

-- executes the instruction that was fetched, or ends with the fault of the fetch
abbrev pub execute_fetched : RegsFields → Result Answer Fault → Act Ending
execute_fetched g (Err f) = end_halted g None None (halt.Fault f)
execute_fetched g (Ok a) =
    execute_decoded g (slice_index a.words 0) (has_right a.sdw g.ppr.prr)
    (decode (slice_index a.words 0))

-- the request for the instruction word, in the ring of execution
abbrev pub fetch_request : RegsFields → Request
fetch_request g = record { kind = Fetch; at = here g; count = 1; pending = [] }

-- the program of one step, which depends only on the registers
unfoldable pub program : RegsFields → Act Ending
program g = ask (fetch_request g) (execute_fetched g)

-- the record of a step, from the run of its program over a store; g are the registers before it
abbrev pub step_record : {S : Type 0} → RegsFields → ProgramResult Ending S → StepRecord
step_record g t =
    record {
      ppr = g.ppr;
      word = t.value.word;
      at = t.value.at;
      refs = record { items = t.mid.refs };
      after = t.value.after;
      outcome = t.value.outcome;
    }

-- the state after a step: all words of an instruction are written together, once nothing can refuse
-- it
abbrev pub state_after_run : {S : Type 0} → Store S → ProgramResult Ending S → State S
state_after_run o t =
    record { regs = t.value.after; store = o.put t.mid.store (changes t.mid.claims t.value.puts) }

-- the state within a step at its beginning: nothing is claimed or completed
abbrev pub start_of_step : {S : Type 0} → State S → Midstep S
start_of_step s = initial_midstep s.store

-- the run of a step's program over a store
abbrev pub run_of_step : {S : Type 0} → Store S → State S → ProgramResult Ending S
run_of_step o s = run o s.regs (program s.regs) (start_of_step s)

-- the record of a step
unfoldable pub record_of : {S : Type 0} → Store S → State S → StepRecord
record_of o s = step_record s.regs (run_of_step o s)

-- the state after a step
unfoldable pub state_after : {S : Type 0} → Store S → State S → State S
state_after o s = state_after_run o (run_of_step o s)
