-- How an operation continues from a direct operand.
use Rattle.std.proofs.Common.{ℕ, ◌≡◌, ◌∙◌, refl, sym, ap, Bool, true, false, List, Result, Ok, Err, IfOk, arith}
use Rattle.m36_inst.specs.Operands.{operand_of, takes_direct}
use Rattle.m36_inst.specs.declared.effect.Effect.{Effect}
use Rattle.m36_inst.specs.declared.operand.Operand.{Operand}
use Rattle.m36_inst.specs.declared.operand.Operand.TheVariants as kind
use Rattle.m36_model.specs.Act.{Whole}
use Rattle.m36_model.specs.Chain.{chain_end_fields}
use Rattle.m36_model.specs.WordsPut.{words_written}
use Rattle.m36_model.specs.Modification.{here}
use Rattle.m36_model.specs.Registers.{RegsFields}
use Rattle.m36_model.specs.Results.{OperandFields, operand_fields}
use Rattle.m36_model.specs.Step.{perform, direct_operand, operate_direct, direct_word}
use Rattle.m36_model.specs.Store.{run}
use Rattle.m36_model.specs.declared.effects.Formed.{Formed}
use Rattle.m36_model.specs.declared.effects.Operand36.{Operand36}
use Rattle.m36_model.specs.declared.outcome.Fault.{Fault}
use Rattle.m36_model.specs.declared.place.Reference.{Reference}
use Rattle.m36_step.specs.Operated.{part_of, run_after_address}
use Rattle.m36_step.specs.Reached.{refused_end, unwritten_end, reached_end, operand_or_fault, IsDirectOperand}
use Rattle.m36_step.specs.declared.operated.Part as code
use Rattle.m36_step.specs.declared.operated.Part.TheVariants as part
use Rattle.m36_step.specs.declared.operated.Reached.{Reached}

module _ (e : Effect) (n : ℕ) (g : RegsFields) (f : Formed) (core : List ℕ) (refs : List Reference) (o : Operand36) where
  -- a kind that writes no words
  nothing_written : (k : Operand) (u : Reached) → words_written k ≡ 0 → unwritten_end e n g f core refs o (Ok u) ≡ reached_end e n g f k core refs o (Ok u)
  nothing_written kind.W u l = absurd (omega arith)
  nothing_written kind.W2 u l = absurd (omega arith)
  nothing_written kind.W16 u l = absurd (omega arith)
  nothing_written kind.Wl u l = absurd (omega arith)
  nothing_written kind.Wr u l = absurd (omega arith)
  nothing_written kind.Rw u l = absurd (omega arith)
  nothing_written kind.Rwl u l = absurd (omega arith)
  nothing_written _ u l = refl

  refused_alike : (k : Operand) (fault : Fault) → refused_end f core refs fault ≡ reached_end e n g f k core refs o (Err fault)
  refused_alike kind.W fault = refl
  refused_alike kind.W2 fault = refl
  refused_alike kind.W16 fault = refl
  refused_alike kind.Wl fault = refl
  refused_alike kind.Wr fault = refl
  refused_alike kind.Rw fault = refl
  refused_alike kind.Rwl fault = refl
  refused_alike _ fault = refl

  by_taken : (k : Operand) (w : ℕ) (b : Bool) (r : Result Reached Fault) → operand_or_fault o r ≡ direct_operand e g w b → IfOk r (λ u. u.part ≡ part.Whole) → IfOk r (λ u. words_written k ≡ 0) → run_after_address g (operate_direct e n g (chain_end_fields f) w b) f core refs ≡ reached_end e n g f k core refs o r
  unfolding run
  by_taken k w true (Ok u) h p l =
      let same : operand_fields o ≡ record { got = direct_word (operand_of e) w; ring = 0; place = 0 } = cc in
      ap (λ (x : OperandFields). run_after_address g (perform e n g (chain_end_fields f) Whole 0 x) f core refs) (sym same)
      ∙ ap (λ (x : code.Part). run_after_address g (perform e n g (chain_end_fields f) (part_of x) 0 (operand_fields o)) f core refs) (sym p)
      ∙ nothing_written k u l
  by_taken k w true (Err fault) h p l = cc
  by_taken k w false (Ok u) h p l = cc
  by_taken k w false (Err fault) h p l =
      let e : fault ≡ record { at = here g; number = 10; acv = 0 } = cc in
      ap (refused_end f core refs) (sym e) ∙ refused_alike k fault

  pub direct_reached : (k : Operand) (w : ℕ) (r : Result Reached Fault) → IsDirectOperand e g w o r → IfOk r (λ u. u.part ≡ part.Whole) → IfOk r (λ u. words_written k ≡ 0) → run_after_address g (operate_direct e n g (chain_end_fields f) w (takes_direct e)) f core refs ≡ reached_end e n g f k core refs o r
  direct_reached k w r h p l = by_taken k w (takes_direct e) r h p l
