-- The instructions that are executed directly in the registers, since they occur most often.
use Rattle.std.specs.Prelude.{ℕ, ◌≡◌, Bool, false, not, ◌&&◌, List, [], ◌∷◌, Result, Ok}
use Rattle.m36_word.specs.declared.pair.Pair.{Pair}
use Rattle.m36_word.specs.Pairs.{pair_words}
use Rattle.m36_inst.specs.declared.effect.Effect.{Effect}
use Rattle.m36_model.specs.Effect.{exec}
use Rattle.m36_model.specs.Fields.{FinalFields}
use Rattle.m36_model.specs.Registers.{RegsFields}
use Rattle.m36_model.specs.Results.{OperandFields, EffectFields, words_only, words_in_ring}

-- the operand with a word that was read
abbrev pub operand_of_word : ℕ → OperandFields
operand_of_word w = words_only (w ∷ [])

-- the operand with a pair that was read, and the first ring bracket of its segment
abbrev pub operand_of_pair : Pair → ℕ → OperandFields
operand_of_pair p ring = words_in_ring (pair_words p) ring

-- The effect of an instruction: it leaves the registers `after`, puts the words `put` and
-- overflows or not. It depends on the words that were read, but not on the rest of the operand.
abbrev pub GivesEffect :
    Effect → ℕ → RegsFields → List ℕ → RegsFields → List ℕ → Bool → Type 0
GivesEffect e n before got after put overflow =
    (f : FinalFields) (ring place : ℕ)
    → Ok (record { regs = after; put = put; overflow = overflow })
    ≡ exec e n before f (record { got = got; ring = ring; place = place })

-- The effect of an instruction, which is not refused and gives no overflow fault: it leaves the
-- registers `after`, and puts the words `words`.
pub record IsQuietEffect (after : RegsFields) (words : List ℕ)
    (e : Result EffectFields ℕ) : Type 0 where
  pub overflow : Bool
  pub effect : Ok (record { regs = after; put = words; overflow = overflow }) ≡ e
  pub quiet : (overflow && not after.ind.mask) ≡ false
