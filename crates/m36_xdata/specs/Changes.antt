-- How the changes of the code map to the effects of the definitions, on the registers before the
-- instruction.
use Rattle.std.specs.Prelude.{◌≡◌, ℕ, Bool, List, [], ◌∷◌, Result, Ok, Err}
use Rattle.m36_word.specs.Pairs.{pair_words}
use Rattle.m36_model.specs.Registers.{RegsFields}
use Rattle.m36_model.specs.Results.{EffectFields, A, Q, X, with_value, with_indicators, advanced}
use Rattle.m36_model.specs.Results.{words_of_held}
use Rattle.m36_model.specs.Effect.{refused_here}
use Rattle.m36_model.specs.declared.effects.Held.{Held}
use Rattle.m36_model.specs.declared.outcome.Fault.{Fault}
use Rattle.m36_xdata.specs.declared.changes.Change.{Change}
use Rattle.m36_xdata.specs.declared.changes.NewValues.{NewValues}
use Rattle.m36_xdata.specs.declared.changes.NewValues.TheVariants as taken_by
use Rattle.m36_xdata.specs.declared.changes.WordsToWrite.{WordsToWrite}
use Rattle.m36_xdata.specs.declared.changes.WordsToWrite.TheVariants as put_as

-- the registers with the new values
abbrev pub with_new_values : NewValues → RegsFields → RegsFields
with_new_values taken_by.Nothing g = g
with_new_values (taken_by.A w) g = with_value A w g
with_new_values (taken_by.Q w) g = with_value Q w g
with_new_values (taken_by.Aq p) g = record g { a = p.even; q = p.odd }
with_new_values (taken_by.X i) g = with_value (X i.n) i.value g

-- the words to write, as a list
abbrev pub words_to_write : WordsToWrite → List ℕ
words_to_write put_as.Nothing = []
words_to_write (put_as.One w) = w ∷ []
words_to_write (put_as.Two p) = pair_words p

-- the effect of a change on these registers
abbrev pub effect_of_change : Change → RegsFields → EffectFields
effect_of_change c g =
    record {
      regs = advanced (with_indicators c.ind (with_new_values c.taken g));
      put = words_to_write c.put;
      overflow = c.overflow;
    }

-- The change is the effect that the definition gives on these registers, which is not refused.
abbrev pub IsEffect : Change → RegsFields → Result EffectFields ℕ → Type 0
IsEffect c g definition = Ok (effect_of_change c g) ≡ refused_here g definition

-- the effect of a change, or the fault, on these registers
abbrev pub effect_or_fault : Result Change Fault → RegsFields → Result EffectFields Fault
effect_or_fault (Ok c) g = Ok (effect_of_change c g)
effect_or_fault (Err f) g = Err f

-- The code changed the registers from g to g', and returned these words to write and whether there
-- is an overflow. Together they are the effect that the definition gives. If the instruction is
-- refused, the registers are unchanged.
abbrev pub LeavesEffect :
    RegsFields → RegsFields → Held → Result Bool Fault → Result EffectFields Fault → Type 0
LeavesEffect g g' put (Ok overflow) definition =
    Ok (record { regs = g'; put = words_of_held put; overflow = overflow }) ≡ definition
LeavesEffect g g' put (Err f) definition = (Err f ≡ definition) × (g' ≡ g)
