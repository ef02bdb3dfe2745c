-- Calls and returns between rings: CALL6 and RTCD.
-- Multics Processor Manual AL39, "Call (using PR6 and PR7)", "Return control double"; Schroeder and
-- Saltzer (1972).
use Rattle.std.specs.Prelude.{ℕ, ◌==◌, if◌then◌else◌, List, map, Result, slice_index}
use Rattle.m36_desc.specs.Fields.{PtrFields, ItsFields}
use Rattle.m36_desc.specs.Descriptors.{its_of}
use Rattle.m36_model.specs.Fields.{FinalFields}
use Rattle.m36_model.specs.Registers.{RegsFields}
use Rattle.m36_model.specs.Modification.{ptr, pair_ring}
use Rattle.m36_model.specs.Place.{ring_stack}
use Rattle.m36_model.specs.Pointers.{with_pr, pointer}
use Rattle.m36_model.specs.Results.{OperandFields, EffectFields, yields_registers}

-- The segment of the stack that CALL6 puts into PR7. If the ring changes, it is the stack of the
-- new ring by the DBR, and otherwise the segment of PR6.
abbrev pub stack_segment : RegsFields → ℕ → ℕ
stack_segment g ring = if ring == g.ppr.prr then (ptr g 6).seg else ring_stack g.dbr ring

-- what PR7 is after CALL6: a pointer to word 0 of the stack of the new ring
abbrev pub stack_pointer : RegsFields → ℕ → PtrFields
stack_pointer g ring = pointer (stack_segment g ring) ring 0

-- the registers after a transfer to the final address, in the ring `ring`
abbrev pub registers_in_ring : FinalFields → ℕ → RegsFields → RegsFields
registers_in_ring f ring g =
    record g { ppr = record { psr = f.at.seg; prr = ring; ic = f.at.word } }

-- CALL6: transfers to the final address in the new ring, which is given as the operand: the lesser
-- of TRR and R2 of the target. PR7 is set to the base of a stack of the new ring.
unfoldable pub call : FinalFields → ℕ → RegsFields → Result EffectFields ℕ
call f ring g = yields_registers (registers_in_ring f ring (with_pr 7 (stack_pointer g ring) g))

-- the ring after RTCD, which is the ring after its pair (`pair_ring`)
abbrev pub return_ring : ItsFields → FinalFields → OperandFields → ℕ
return_ring its f o = pair_ring f.at.ring o.ring its.ring

-- a pointer with this ring
abbrev pub pointer_in_ring : ℕ → PtrFields → PtrFields
pointer_in_ring ring p = record p { ring = ring }

-- pointers, each with this ring
abbrev pub all_in_ring : ℕ → List PtrFields → List PtrFields
all_in_ring ring pointers = map (pointer_in_ring ring) pointers

-- the registers after a return to the word that the pair names
abbrev pub registers_after_return : ItsFields → ℕ → RegsFields → RegsFields
registers_after_return its ring g =
    record g {
      pr = all_in_ring ring g.pr;
      ppr = record { psr = its.seg; prr = ring; ic = its.word };
    }

-- RTCD, given the ITS pair that it reads
abbrev pub return_through :
    ItsFields → FinalFields → OperandFields → RegsFields → Result EffectFields ℕ
return_through its f o g = yields_registers (registers_after_return its (return_ring its f o) g)

-- RTCD: returns to the pointer of its pair, in the ring after the pair. All pointer registers get
-- this ring. The target is examined by the next fetch (this project's choice).
unfoldable pub return_to : FinalFields → OperandFields → RegsFields → Result EffectFields ℕ
return_to f o g = return_through (its_of (slice_index o.got 0) (slice_index o.got 1)) f o g
