-- The number of words that a pointer instruction writes, by its effect.
use Rattle.std.proofs.Common.{ℕ, ◌≡◌, ◌∙◌, ap, List, Result, Ok, Err, IfOk, IsTrue, length}
use Rattle.m36_inst.specs.Groups.{is_pointer_instruction}
use Rattle.m36_inst.specs.Operands.{operand_of}
use Rattle.m36_inst.specs.declared.effect.Effect.{Effect}
use Rattle.m36_inst.specs.declared.effect.Effect.TheVariants as effect
use Rattle.m36_model.specs.Fields.{FinalFields}
use Rattle.m36_model.specs.Registers.{RegsFields}
use Rattle.m36_model.specs.Results.{OperandFields, EffectFields, words_of_held}
use Rattle.m36_model.specs.Effect.{exec, answer_fields, refused_here}
use Rattle.m36_model.specs.WordsPut.{words_written, PutsFor}
use Rattle.m36_model.specs.declared.effects.Effect36.{Effect36}
use Rattle.m36_model.specs.declared.outcome.Fault.{Fault}
use Rattle.m36_model.proofs.PutLaw.{PutsSo, puts_so}

-- two equal effects write the same number of words
same_count : (n : ℕ) (g : RegsFields) (x : Effect36) (v : Result EffectFields ℕ) → answer_fields (Ok x) ≡ refused_here g v → PutsSo n v → length (words_of_held x.put) ≡ n
same_count n g x (Ok y) h p = let e : words_of_held x.put ≡ y.put = cc in ap length e ∙ p
same_count n g x (Err number) h p = cc

-- no pointer instruction writes a half
no_half : (e : Effect) (words : List ℕ) → IsTrue (is_pointer_instruction e) → length words ≡ words_written (operand_of e) → PutsFor (operand_of e) words
no_half effect.EppN words p h = h
no_half effect.EpbpN words p h = h
no_half effect.SpriN words p h = h
no_half effect.SpbpN words p h = h
no_half effect.Spri words p h = h
no_half effect.Lpri words p h = h
no_half effect.LprpN words p h = h
no_half effect.Epaq words p h = h
no_half effect.Stcd words p h = h
no_half _ words p h = cc

pub words_put : (e : Effect) (n : ℕ) (g : RegsFields) (f : FinalFields) (o : OperandFields) (r : Result Effect36 Fault) → IsTrue (is_pointer_instruction e) → answer_fields r ≡ refused_here g (exec e n g f o) → IfOk r (λ x. PutsFor (operand_of e) (words_of_held x.put))
words_put e n g f o (Ok x) p h =
    no_half e (words_of_held x.put) p (same_count (words_written (operand_of e)) g x (exec e n g f o) h (puts_so e n g f o))
words_put e n g f o (Err fault) p h = tt
