-- Worked steps on addresses: a load and a stop, the bound, indirect words, pairs, tally words.
use Rattle.std.specs.Prelude.{ℕ, ◌≡◌, ◌++◌, false, true, List, [], ◌∷◌, replicate, slice_set, Some}
use Rattle.std.specs.Prelude.{None}
use Rattle.m36_desc.specs.Fields.{SdwFields}
use Rattle.m36_desc.specs.Violations.{no_write_right, out_of_read_bracket, out_of_segment_bounds}
use Rattle.m36_model.specs.Faults.{fault_tag_1, fault_tag_2, fault_tag_3, illegal_procedure}
use Rattle.m36_model.specs.Faults.{lockup_fault}
use Rattle.m36_model.specs.Store.{State}
use Rattle.m36_model.specs.Core.{core_store}
use Rattle.m36_model.specs.Step.{record_of, state_after}
use Rattle.m36_model.specs.Pointers.{pointer}
use Rattle.m36_model.specs.Tally.{tally}
use Rattle.m36_model.specs.Worked.{words_from, descriptor_entry, descriptor_with_rings, readable}
use Rattle.m36_model.specs.Worked.{writable, privileged}
use Rattle.m36_model.specs.Worked.{gate_with_entries, with_last_block, procedure}
use Rattle.m36_model.specs.Worked.{core_of, at_instruction, at_word, final_address_at, reference_to}
use Rattle.m36_model.specs.Worked.{fault_outcome, violation_outcome, outcome_of_step}
use Rattle.m36_model.specs.Worked.{address_of_step}
use Rattle.m36_model.specs.Worked.{references_of_step, registers_after, word_after}
use Rattle.m36_model.specs.declared.place.Kind.TheVariants.{Fetch, Indirect, Read, Write}
use Rattle.m36_model.specs.declared.outcome.Stop.TheVariants as stop
use Rattle.m36_model.specs.declared.outcome.Outcome.TheVariants.{Next, Stopped}

-- Segment 1 is at core word 40, in ring 0, with R, E and P on: `lda 2`, `dis`, and the number 5.
abbrev pub load_core : List ℕ
load_core =
    core_of 0o100
    (descriptor_entry 1 0o40 (privileged (procedure (descriptor_with_rings 0 0 0)))
    ++ words_from 0o40 (0o000002235000 ∷ 0o000000616000 ∷ 5 ∷ []))

-- this core, at the load, in ring 0
abbrev pub at_load : State (List ℕ)
at_load = record { regs = at_instruction 1 0 0; store = load_core }

-- The load reads its word into A and advances; the whole record of the step.
abbrev pub LoadReadsItsWord : Type 0
LoadReadsItsWord = record_of core_store at_load ≡ record {
  refs = record { items = reference_to Fetch 1 0 0 1 ∷ reference_to Read 1 2 0 1 ∷ [] };
  after = record (at_instruction 1 0 1) { a = 5 };
  word = Some 0o000002235000;
  at = Some (final_address_at 1 2 0);
  outcome = Next;
  ppr = record { psr = 1; prr = 0; ic = 0 };
}

-- The next step is the stop: it forms no address and changes nothing.
abbrev pub StopFollows : Type 0
StopFollows = record_of core_store (state_after core_store at_load) ≡ record {
  refs = record { items = reference_to Fetch 1 1 0 1 ∷ [] };
  after = record (at_instruction 1 0 1) { a = 5 };
  word = Some 0o000000616000;
  at = None;
  outcome = Stopped stop.Dis;
  ppr = record { psr = 1; prr = 0; ic = 1 };
}

-- The core of the load, with another instruction at word 0 of segment 1. The bound counts blocks of
-- 16 words. With bound 0, word 17 is read (here by `lda 15`), and word 20 is not (`lda 16`).
abbrev pub bound_state : ℕ → State (List ℕ)
bound_state instruction =
    record { regs = at_instruction 1 0 0; store = slice_set load_core 0o40 instruction }

-- `lda 15` reads word 17, the last one within the bound.
abbrev pub LastWordOfTheBoundIsRead : Type 0
LastWordOfTheBoundIsRead = outcome_of_step (bound_state 0o000017235000) ≡ Next

-- `lda 16` of word 20 is an access violation: out of segment bounds.
abbrev pub WordPastTheBoundIsRefused : Type 0
WordPastTheBoundIsRefused =
    outcome_of_step (bound_state 0o000020235000)
    ≡ violation_outcome out_of_segment_bounds (at_word 1 0o20 0)

-- `lda pr0|0,*` in ring 1 reads the ITS pair 000123100043 000000000000 in segment 2, whose R1 is 4,
-- so the ring is raised to 4. Segment 123 has brackets 0, 3, 3, and may not be read from ring 4.
abbrev pub pair_core : List ℕ
pair_core =
    core_of 0o400
    (descriptor_entry 1 0o320 (procedure (descriptor_with_rings 1 1 1))
    ++ descriptor_entry 2 0o340 (gate_with_entries 0 (readable (descriptor_with_rings 4 4 4)))
    ++ descriptor_entry 0o123 0o360 (readable (descriptor_with_rings 0 3 3))
    ++ words_from 0o320 (0o000000235120 ∷ [])
    ++ words_from 0o340 (0o000123100043 ∷ []))

-- this core, at the instruction in ring 1; pointer register 0 points to segment 2
abbrev pub at_pair : State (List ℕ)
at_pair =
    record {
      regs =
          record (at_instruction 1 1 0)
          { pr = slice_set (replicate 8 (pointer 0 0 0)) 0 (pointer 2 1 0) };
      store = pair_core;
    }

-- The address has ring 4, the read is refused, and the pair is one reference to two words.
abbrev pub PairTakesTheBracketOfItsSegment : Type 0
PairTakesTheBracketOfItsSegment =
    (address_of_step at_pair ≡ Some (final_address_at 0o123 0 4))
    × (outcome_of_step at_pair ≡ violation_outcome out_of_read_bracket (at_word 0o123 0 4))
    × (references_of_step at_pair ≡ reference_to Fetch 1 0 1 1 ∷ reference_to Indirect 2 0 1 2 ∷ [])

-- Words 1 to 16 of segment 1 each point to the next one, indirectly, and word 17 points to word 18,
-- which is `5`. `lda 1,*` has 17 indirect words, and `lda 2,*` has 16.
abbrev pub long_chain_core : ℕ → List ℕ
long_chain_core instruction =
    core_of 0o100
    (descriptor_entry 1 0o40 (with_last_block 2 (procedure (descriptor_with_rings 0 0 0)))
    ++ words_from 0o40
    (instruction
    ∷ 0o000002000020 ∷ 0o000003000020 ∷ 0o000004000020 ∷ 0o000005000020
    ∷ 0o000006000020 ∷ 0o000007000020 ∷ 0o000010000020 ∷ 0o000011000020
    ∷ 0o000012000020 ∷ 0o000013000020 ∷ 0o000014000020 ∷ 0o000015000020
    ∷ 0o000016000020 ∷ 0o000017000020 ∷ 0o000020000020 ∷ 0o000021000020
    ∷ 0o000022000000 ∷ 5 ∷ []))

-- this core, at the instruction in ring 0
abbrev pub long_chain : ℕ → State (List ℕ)
long_chain instruction = record { regs = at_instruction 1 0 0; store = long_chain_core instruction }

-- The 17th indirect word is a lockup fault at this word.
abbrev pub SeventeenthIndirectWordLocksUp : Type 0
SeventeenthIndirectWordLocksUp =
    outcome_of_step (long_chain 0o000001235020) ≡ fault_outcome lockup_fault (at_word 1 0o21 0)

-- With 16 indirect words the load reads the 5.
abbrev pub SixteenIndirectWordsAreServed : Type 0
SixteenIndirectWordsAreServed =
    (outcome_of_step (long_chain 0o000002235020) ≡ Next)
    × ((registers_after (long_chain 0o000002235020)).a ≡ 5)

-- `lda 8,*x1` holds X1 while it reads the word at 10, which is 000020000000: the address is 20 plus
-- 5.
abbrev pub held_core : List ℕ
held_core =
    core_of 0o100
    (descriptor_entry 1 0o40 (with_last_block 2 (procedure (descriptor_with_rings 0 0 0)))
    ++ words_from 0o40 (0o000010235071 ∷ [])
    ++ words_from 0o50 (0o000020000000 ∷ []))

-- this core, at the instruction in ring 0, with 5 in X1
abbrev pub at_held : State (List ℕ)
at_held =
    record {
      regs = record (at_instruction 1 0 0) { x = slice_set (replicate 8 0) 1 0o5 };
      store = held_core;
    }

-- The index that was held is added to the address of the last indirect word.
abbrev pub HeldIndexIsAddedAtTheEnd : Type 0
HeldIndexIsAddedAtTheEnd = address_of_step at_held ≡ Some (final_address_at 1 0o25 0)

-- Tally words: ID twice, the second time with a runout; then SD, AD and DI.
abbrev pub TallyWordsCount : Type 0
TallyWordsCount =
    (tally 0o16 0o000100000200 ≡ record {
      address = 0o100;
      word = 0o000101000100;
      runs_out = false;
    })
    × (tally 0o16 0o000101000100 ≡ record {
      address = 0o101;
      word = 0o000102000000;
      runs_out = true;
    })
    × (tally 0o4 0o000100777703 ≡ record { address = 0o75; word = 0o000075000003; runs_out = true })
    × (tally 0o13 0o000100000103 ≡ record {
      address = 0o100;
      word = 0o000103000003;
      runs_out = true;
    })
    × (tally 0o14 0 ≡ record { address = 0o777777; word = 0o777777000100; runs_out = false })

-- a segment of instructions that may be read and written too
abbrev pub data_and_procedure : SdwFields → SdwFields
data_and_procedure d = writable (procedure d)

-- Core with one segment, with these rights. Its tally word at 10 is 000010000200, so its own
-- address is its first operand. `lda 8,id` loads its new value. `sta 8,id` leaves A in it, since
-- the operand is written after it.
abbrev pub tally_core : (SdwFields → SdwFields) → ℕ → List ℕ
tally_core rights instruction =
    core_of 0o100
    (descriptor_entry 1 0o40 (rights (descriptor_with_rings 0 0 0))
    ++ words_from 0o40 (instruction ∷ [])
    ++ words_from 0o50 (0o000010000200 ∷ []))

-- this core, at the instruction in ring 0, with 123456 in A
abbrev pub at_tally : (SdwFields → SdwFields) → ℕ → State (List ℕ)
at_tally rights instruction =
    record {
      regs = record (at_instruction 1 0 0) { a = 0o123456 };
      store = tally_core rights instruction;
    }

-- the state at `lda 8,id`, in a segment that may be written
abbrev pub load_through_tally : State (List ℕ)
load_through_tally = at_tally data_and_procedure 0o000010235056

-- the state at `sta 8,id`, in a segment that may be written
abbrev pub store_through_tally : State (List ℕ)
store_through_tally = at_tally data_and_procedure 0o000010755056

-- The load gets the new value of the tally word; the Write of this word comes before the Read.
abbrev pub LoadSeesTheNewTallyWord : Type 0
LoadSeesTheNewTallyWord =
    (outcome_of_step load_through_tally ≡ Next)
    × ((registers_after load_through_tally).a ≡ 0o000011000100)
    × (word_after load_through_tally 0o50 ≡ 0o000011000100)
    × (references_of_step load_through_tally
    ≡ reference_to Fetch 1 0 0 1 ∷ reference_to Indirect 1 0o10 0 1 ∷ reference_to Write 1 0o10 0 1
    ∷ reference_to Read 1 0o10 0 1 ∷ [])

-- The store overwrites the new value of the tally word.
abbrev pub StoreComesAfterTheTallyWord : Type 0
StoreComesAfterTheTallyWord =
    (outcome_of_step store_through_tally ≡ Next) × (word_after store_through_tally 0o50 ≡ 0o123456)

-- Without W, the Write of the tally word is refused, and nothing has changed.
abbrev pub RefusedTallyWordChangesNothing : Type 0
RefusedTallyWordChangesNothing =
    (record_of core_store (at_tally procedure 0o000010235056) ≡ record {
      refs = record { items = reference_to Fetch 1 0 0 1 ∷ reference_to Indirect 1 0o10 0 1 ∷ [] };
      after = record (at_instruction 1 0 0) { a = 0o123456 };
      word = Some 0o000010235056;
      at = None;
      outcome = violation_outcome no_write_right (at_word 1 0o10 0);
      ppr = record { psr = 1; prr = 0; ic = 0 };
    })
    × (state_after core_store (at_tally procedure 0o000010755056)
    ≡ at_tally procedure 0o000010755056)

-- `lda 3,dl` has its operand in the address: no word is read.
abbrev pub DirectOperandIsTheAddress : Type 0
DirectOperandIsTheAddress =
    ((registers_after (bound_state 0o000003235007)).a ≡ 3)
    × (references_of_step (bound_state 0o000003235007) ≡ reference_to Fetch 1 0 0 1 ∷ [])
    × (address_of_step (bound_state 0o000003235007) ≡ Some (record {
      at = at_word 1 3 0;
      bit = 0;
      direct = Some 3;
    }))

-- `tze 3,du` with zero off is not taken, but its direct operand is refused nevertheless. `lprp4
-- 3,dl` does not accept one, and `nop 3,dl` does.
abbrev pub DirectOperandsAreRefused : Type 0
DirectOperandsAreRefused =
    (outcome_of_step (bound_state 0o000003600003) ≡ fault_outcome illegal_procedure (at_word 1 0 0))
    × (outcome_of_step (bound_state 0o000003764007)
    ≡ fault_outcome illegal_procedure (at_word 1 0 0))
    × (outcome_of_step (bound_state 0o000003011007) ≡ Next)

-- The instruction `lda 3` with tags 40, 41, 46, 47 and 50: three fault tags, reported at the
-- instruction; a tag of a pair where none may be; a modification that is not provided.
abbrev pub TagsOfTheInstruction : Type 0
TagsOfTheInstruction =
    (outcome_of_step (bound_state 0o000003235040) ≡ fault_outcome fault_tag_1 (at_word 1 0 0))
    × (outcome_of_step (bound_state 0o000003235041)
    ≡ fault_outcome illegal_procedure (at_word 1 0 0))
    × (outcome_of_step (bound_state 0o000003235046) ≡ fault_outcome fault_tag_2 (at_word 1 0 0))
    × (outcome_of_step (bound_state 0o000003235047) ≡ fault_outcome fault_tag_3 (at_word 1 0 0))
    × (outcome_of_step (bound_state 0o000003235050) ≡ Stopped stop.Tag)

-- `lda pr0|0,*` again, through a word with tag 46 in the segment whose R1 is 4: the fault tag is
-- reported at that word, in ring 4.
abbrev pub at_fault_tag : State (List ℕ)
at_fault_tag = record { regs = at_pair.regs; store = slice_set pair_core 0o340 0o000000000046 }

-- The fault is reported in ring 4, although the reference was made in ring 1.
abbrev pub FaultTagTakesTheBracketOfItsSegment : Type 0
FaultTagTakesTheBracketOfItsSegment =
    outcome_of_step at_fault_tag ≡ fault_outcome fault_tag_2 (at_word 2 0 4)
