-- Transfers. Multics Processor Manual AL39, "Transfer of control instructions".
use Rattle.std.specs.Prelude.{ℕ, Bool, true, false, not, ◌&&◌, ◌||◌, Result}
use Rattle.m36_desc.specs.Fields.{PtrFields}
use Rattle.m36_inst.specs.declared.effect.Effect.{Effect}
use Rattle.m36_inst.specs.declared.effect.Effect.TheVariants as effect
use Rattle.m36_model.specs.Fields.{FinalFields}
use Rattle.m36_model.specs.Registers.{RegsFields}
use Rattle.m36_model.specs.Pointers.{with_pr, pointer}
use Rattle.m36_model.specs.Results.{EffectFields, X, with_value, next_word, yields_registers}
use Rattle.m36_model.specs.Results.{completes}

-- Whether a transfer is taken, by the indicators. A transfer that is not taken examines no target
-- (this project's choice).
unfoldable pub is_taken : Effect → RegsFields → Bool
is_taken effect.Tze g = g.ind.zero
is_taken effect.Tnz g = not g.ind.zero
is_taken effect.Tmi g = g.ind.negative
is_taken effect.Tpl g = not g.ind.negative
is_taken effect.Trc g = g.ind.carry
is_taken effect.Tnc g = not g.ind.carry
is_taken effect.Tmoz g = g.ind.negative || g.ind.zero
is_taken effect.Tpnz g = not g.ind.negative && not g.ind.zero
is_taken effect.Tov g = g.ind.overflow
is_taken effect.Ttf g = not g.ind.tally
is_taken _ g = true

-- the registers after a transfer: the segment and the word of the final address, in the same ring
unfoldable pub registers_after_transfer : FinalFields → RegsFields → RegsFields
registers_after_transfer f g = record g { ppr = record g.ppr { psr = f.at.seg; ic = f.at.word } }

-- the effect that transfers to the final address and writes nothing
abbrev pub transfer_to : FinalFields → RegsFields → Result EffectFields ℕ
transfer_to f g = yields_registers (registers_after_transfer f g)

-- A transfer that is taken (true) goes to the final address with the registers `left`. One that is
-- not taken continues with the next instruction and the registers g.
abbrev pub transfer_by : Bool → FinalFields → RegsFields → RegsFields → Result EffectFields ℕ
transfer_by true f left g = transfer_to f left
transfer_by false f left g = completes g

-- TRA, and the conditional transfers except TOV: goes to the final address if the transfer is taken
-- (true)
unfoldable pub transfer_if : Bool → FinalFields → RegsFields → Result EffectFields ℕ
transfer_if taken f g = transfer_by taken f g g

-- the registers with overflow turned off
abbrev pub without_overflow : RegsFields → RegsFields
without_overflow g = record g { ind = record g.ind { overflow = false } }

-- TOV: as `transfer_if`; overflow is turned off if the transfer is taken
unfoldable pub transfer_on_overflow : Bool → FinalFields → RegsFields → Result EffectFields ℕ
transfer_on_overflow taken f g = transfer_by taken f (without_overflow g) g

-- TSX: the word number of the next instruction to the index register
unfoldable pub transfer_and_set_index : ℕ → FinalFields → RegsFields → Result EffectFields ℕ
transfer_and_set_index n f g = transfer_to f (with_value (X n) (next_word g) g)

-- the pointer to the next instruction, in the procedure ring
abbrev pub return_pointer : RegsFields → PtrFields
return_pointer g = pointer g.ppr.psr g.ppr.prr (next_word g)

-- TSP: a pointer to the next instruction to the pointer register, and a transfer
unfoldable pub transfer_and_set_pointer : ℕ → FinalFields → RegsFields → Result EffectFields ℕ
transfer_and_set_pointer n f g = transfer_to f (with_pr n (return_pointer g) g)
