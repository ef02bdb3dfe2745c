-- Worked steps of calls, returns and pointer registers.
use Rattle.std.specs.Prelude.{ℕ, ◌≡◌, ◌++◌, List, [], ◌∷◌, replicate, slice_set, true, false}
use Rattle.m36_desc.specs.Fields.{SdwFields}
use Rattle.m36_desc.specs.Violations.{bad_outward_call, not_a_gate, out_of_call_bracket}
use Rattle.m36_desc.specs.Violations.{outward_call}
use Rattle.m36_model.specs.Faults.{command, illegal_procedure}
use Rattle.m36_model.specs.Store.{State}
use Rattle.m36_model.specs.Core.{core_store}
use Rattle.m36_model.specs.Step.{state_after}
use Rattle.m36_model.specs.Modification.{ptr}
use Rattle.m36_model.specs.Pointers.{pointer}
use Rattle.m36_model.specs.Worked.{words_from, descriptor_entry, descriptor_with_rings, readable}
use Rattle.m36_model.specs.Worked.{executable, writable}
use Rattle.m36_model.specs.Worked.{privileged, gate_with_entries, procedure}
use Rattle.m36_model.specs.Worked.{core_of, at_instruction, at_word, fault_outcome}
use Rattle.m36_model.specs.Worked.{violation_outcome}
use Rattle.m36_model.specs.Worked.{outcome_of_step, registers_after, word_after}
use Rattle.m36_model.specs.declared.outcome.Outcome.TheVariants.{Next}

-- Core with two segments. Segment 1 has one instruction and may be executed in every ring. Segment
-- 3 is a gate: E on, G off, brackets 0, 0, 5, two entries.
abbrev pub gate_core : ℕ → List ℕ
gate_core instruction =
    core_of 0o100
    (descriptor_entry 1 0o40 (procedure (descriptor_with_rings 0 7 7))
    ++ descriptor_entry 3 0o60 (gate_with_entries 2 (executable (descriptor_with_rings 0 0 5)))
    ++ words_from 0o40 (instruction ∷ []))

-- this core, at the instruction in a ring; pointer register 2 points to word 0 of the gate
abbrev pub at_gate : ℕ → ℕ → State (List ℕ)
at_gate ring instruction =
    record {
      regs =
          record (at_instruction 1 ring 0)
          { pr = slice_set (replicate 8 (pointer 0 0 0)) 2 (pointer 3 ring 0) };
      store = gate_core instruction;
    }

-- `call6 pr2|1` from ring 4 enters ring 0 at word 1, and PR7 is the base of ring 0's
-- stack, segment 10.
abbrev pub CallThroughAGate : Type 0
CallThroughAGate =
    (outcome_of_step (at_gate 4 0o200001713100) ≡ Next)
    × ((registers_after (at_gate 4 0o200001713100)).ppr ≡ record { psr = 3; prr = 0; ic = 1 })
    × (ptr (registers_after (at_gate 4 0o200001713100)) 7 ≡ pointer 0o10 0 0)

-- `call6 pr2|2` is refused: word 2 is not an entry.
abbrev pub CallPastTheLimiter : Type 0
CallPastTheLimiter =
    outcome_of_step (at_gate 4 0o200002713100) ≡ violation_outcome not_a_gate (at_word 3 2 4)

-- A call from ring 6 is refused: the ring is above the call bracket.
abbrev pub CallFromAboveTheBracket : Type 0
CallFromAboveTheBracket =
    outcome_of_step (at_gate 6 0o200001713100)
    ≡ violation_outcome out_of_call_bracket (at_word 3 1 6)

-- Core with two segments. Segment 1 has `call6 pr2|1`. Segment 4 has E and G on and brackets 2, 3,
-- 3.
abbrev pub call_core : List ℕ
call_core =
    core_of 0o100
    (descriptor_entry 1 0o40 (procedure (descriptor_with_rings 0 7 7))
    ++ descriptor_entry 4 0o60 (executable (descriptor_with_rings 2 3 3))
    ++ words_from 0o40 (0o200001713100 ∷ []))

-- This core, at the call in a ring. Pointer register 2 points to segment 4, in the ring `pointed`;
-- pointer register 6 points to segment 5.
abbrev pub at_call : ℕ → ℕ → State (List ℕ)
at_call ring pointed =
    record {
      regs =
          record (at_instruction 1 ring 0) {
            pr =
                slice_set (slice_set (replicate 8 (pointer 0 0 0)) 2 (pointer 4 pointed 0)) 6
                (pointer 5 ring 7);
          };
      store = call_core;
    }

-- A call from ring 1, which is below R1, is refused.
abbrev pub OutwardCall : Type 0
OutwardCall = outcome_of_step (at_call 1 1) ≡ violation_outcome outward_call (at_word 4 1 1)

-- A call from ring 1 through a pointer of ring 3 is refused: R2 is above ring 1.
abbrev pub CallWithRaisedRing : Type 0
CallWithRaisedRing =
    outcome_of_step (at_call 1 3) ≡ violation_outcome bad_outward_call (at_word 4 1 3)

-- A call from ring 3 stays in ring 3, and PR7 is the base of the segment of PR6.
abbrev pub CallWithinTheRing : Type 0
CallWithinTheRing =
    (outcome_of_step (at_call 3 3) ≡ Next)
    × ((registers_after (at_call 3 3)).ppr ≡ record { psr = 4; prr = 3; ic = 1 })
    × (ptr (registers_after (at_call 3 3)) 7 ≡ pointer 5 3 0)

-- `rtcd pr2|0` through the pair of segment 2, to word 1 of segment 1, which is `dis`. The brackets
-- of segment 2 are a parameter.
abbrev pub return_core : SdwFields → ℕ → List ℕ
return_core brackets pair =
    core_of 0o200
    (descriptor_entry 1 0o40 (privileged (procedure (descriptor_with_rings 0 7 7)))
    ++ descriptor_entry 2 0o100 (readable (writable brackets))
    ++ words_from 0o40 (0o200000610100 ∷ 0o000000616000 ∷ [])
    ++ words_from 0o100 (pair ∷ 0o000001000000 ∷ []))

-- this core, at the return in a ring; pointer register 2 points to the pair
abbrev pub at_return : ℕ → SdwFields → ℕ → State (List ℕ)
at_return ring brackets pair =
    record {
      regs =
          record (at_instruction 1 ring 0)
          { pr = slice_set (replicate 8 (pointer 0 0 0)) 2 (pointer 2 ring 0) };
      store = return_core brackets pair;
    }

-- at the return, in ring 0, through a pair of ring 4
abbrev pub returns_outward : State (List ℕ)
returns_outward = at_return 0 (descriptor_with_rings 0 0 0) 0o000001400043

-- The return goes to ring 4, all pointer registers get this ring, and the DIS there is an illegal
-- procedure.
abbrev pub ReturnTakesThePairsRing : Type 0
ReturnTakesThePairsRing =
    ((registers_after returns_outward).ppr ≡ record { psr = 1; prr = 4; ic = 1 })
    ×
    ((registers_after returns_outward).pr
    ≡ slice_set (replicate 8 (pointer 0 4 0)) 2 (pointer 2 4 0))
    ×
    (outcome_of_step (state_after core_store returns_outward)
    ≡ fault_outcome illegal_procedure (at_word 1 1 4))

-- From ring 4 through a pair of ring 0 in a segment with R1 4: execution continues in ring 4.
abbrev pub ReturnTakesTheGreatestRing : Type 0
ReturnTakesTheGreatestRing =
    (registers_after (at_return 4 (descriptor_with_rings 4 4 4) 0o000001000043)).ppr
    ≡ record { psr = 1; prr = 4; ic = 1 }

-- core with one segment: `lprp4 1`, and a word that begins with octal 60
abbrev pub packed_core : List ℕ
packed_core =
    core_of 0o100
    (descriptor_entry 1 0o40 (procedure (descriptor_with_rings 0 7 7))
    ++ words_from 0o40 (0o000001764000 ∷ 0o600003000007 ∷ []))

-- this core, at the instruction in ring 0
abbrev pub at_packed : State (List ℕ)
at_packed = record { regs = at_instruction 1 0 0; store = packed_core }

-- The load of that word is a command fault, and PR4 is unchanged.
abbrev pub PackedPointerWithAWrongBitNumber : Type 0
PackedPointerWithAWrongBitNumber =
    (outcome_of_step at_packed ≡ fault_outcome command (at_word 1 0 0))
    × (registers_after at_packed ≡ at_instruction 1 0 0)

-- A lock: `stac pr1|0` stores A into word 0 of segment 2 if it is zero, and the zero indicator
-- shows whether it did. A second one finds the lock taken.
abbrev pub lock_core : List ℕ
lock_core =
    core_of 0o200
    (descriptor_entry 1 0o40 (procedure (descriptor_with_rings 0 7 7))
    ++ descriptor_entry 2 0o100 (readable (writable (descriptor_with_rings 4 4 4)))
    ++ words_from 0o42 (0o100000354100 ∷ []))

-- at the first `stac`, in ring 4; A has the value for the lock
abbrev pub at_lock : State (List ℕ)
at_lock =
    record {
      regs =
          record (at_instruction 1 4 2)
          { a = 0o000002000000; pr = slice_set (replicate 8 (pointer 0 0 0)) 1 (pointer 2 4 0) };
      store = lock_core;
    }

-- at the same `stac`, with another value in A, after the first one was executed
abbrev pub at_taken_lock : State (List ℕ)
at_taken_lock =
    record {
      regs = record at_lock.regs { a = 0o000004000000 };
      store = (state_after core_store at_lock).store;
    }

-- The first `stac` stores its value and turns zero on; the second stores nothing and turns it off.
abbrev pub OneTakesTheLock : Type 0
OneTakesTheLock =
    ((registers_after at_lock).ind.zero ≡ true) × (word_after at_lock 0o100 ≡ 0o000002000000)
    × ((registers_after at_taken_lock).ind.zero ≡ false)
    × (word_after at_taken_lock 0o100 ≡ 0o000002000000)
