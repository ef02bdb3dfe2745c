-- How an operation ends, given its operand and its effect.
use Rattle.std.proofs.Common.{ℕ, ◌≡◌, ◌∙◌, refl, sym, ap, List, [], ◌∷◌, ◌++◌, length, append-nil, Result, Ok, Err, arith}
use Rattle.m36_inst.specs.Operands.{operand_of}
use Rattle.m36_inst.specs.declared.effect.Effect.{Effect}
use Rattle.m36_inst.specs.declared.effect.Effect.TheVariants as effect
use Rattle.m36_inst.specs.declared.operand.Operand.{Operand}
use Rattle.m36_inst.specs.declared.operand.Operand.TheVariants as kind
use Rattle.m36_model.specs.Act.{Part, Put}
use Rattle.m36_model.specs.Chain.{chain_end_fields, claimed_by}
use Rattle.m36_model.specs.Effect.{exec, answer_fields, refused_here}
use Rattle.m36_model.specs.Fields.{FinalFields}
use Rattle.m36_model.specs.WordsPut.{words_written, PutsFor}
use Rattle.m36_model.specs.Registers.{RegsFields}
use Rattle.m36_model.specs.Results.{OperandFields, EffectFields, effect_fields, operand_fields, words_of_held}
use Rattle.m36_model.specs.Step.{Performed, puts_from, operation_result, with_chain_tally}
use Rattle.m36_model.specs.Store.{Spot, ProgramResult, run}
use Rattle.m36_model.specs.declared.effects.Effect36.{Effect36}
use Rattle.m36_model.specs.declared.effects.Formed.{Formed}
use Rattle.m36_model.specs.declared.effects.Held.{Held}
use Rattle.m36_model.specs.declared.effects.Operand36.{Operand36}
use Rattle.m36_model.specs.declared.outcome.Fault.{Fault}
use Rattle.m36_model.specs.declared.outcome.Halt.{Halt}
use Rattle.m36_model.specs.declared.outcome.Halt.TheVariants as halt
use Rattle.m36_model.specs.declared.place.Reference.{Reference}
use Rattle.m36_model.proofs.Computed.{everything}
use Rattle.m36_walk.specs.Runs.{run_from}
use Rattle.m36_walk.specs.Served.{midstep_with}
use Rattle.m36_step.specs.Operated.{part_of, operated_end}
use Rattle.m36_step.specs.Reached.{unwritten_end, written_end, reached_end}
use Rattle.m36_step.specs.declared.operated.Operated.{Operated}
use Rattle.m36_step.specs.declared.operated.Reached.{Reached}

-- the effect of the definition, given that of the code
effect_is : (g : RegsFields) (x : Effect36) (v : Result EffectFields ℕ) → answer_fields (Ok x) ≡ refused_here g v → v ≡ Ok (effect_fields x)
effect_is g x (Ok y) h = let e : effect_fields x ≡ y = cc in ap (λ (z : EffectFields). Ok z) (sym e)
effect_is g x (Err number) h = cc

-- If the effect is refused, nothing is performed, whatever would have been written.
refusal_is : (g : RegsFields) (fault : Fault) (v : Result EffectFields ℕ) (f : Formed) (part : Part) (first : ℕ) → answer_fields (Err fault) ≡ refused_here g v → operation_result g (chain_end_fields f) part first v ≡ Err (halt.Fault fault)
refusal_is g fault (Ok y) f part first h = cc
refusal_is g fault (Err number) f part first h = let e = sym h in cc

-- if no words are put, the number of the claim does not matter
no_puts : (part : Part) (first : ℕ) (words : List ℕ) → length words ≡ 0 → puts_from part 0 words ≡ puts_from part first words
no_puts part first [] l = refl
no_puts part first (w ∷ words) l = absurd (omega arith)

no_claims : (claims : List Spot) (place : ℕ) (n : ℕ) → n ≡ 0 → claims ≡ claims ++ run_from place n
unfolding run_from
no_claims claims place n e = rw e (sym (append-nil claims))

module _ (e : Effect) (n : ℕ) (g : RegsFields) (f : Formed) (core : List ℕ) (refs : List Reference) (o : Operand36) (u : Reached) where
  abbrev effect_on : Result EffectFields ℕ
  effect_on = exec e n (with_chain_tally g (chain_end_fields f)) f.last (operand_fields o)

  abbrev claimed : List Spot
  claimed = claimed_by f.tally f.place

  abbrev end_by_outcome : List Spot → Result Performed Halt → ProgramResult (Result Performed Halt) (List ℕ)
  end_by_outcome claims value = record { value = value; mid = midstep_with core claims refs }

  module _ (x : Effect36) (h : answer_fields (Ok x) ≡ refused_here g effect_on) where
    abbrev operated : Operated
    operated = record { place = u.place; part = u.part; overflow = x.overflow }

    abbrev performs : ℕ → Result Performed Halt
    performs first = operation_result g (chain_end_fields f) (part_of u.part) first (Ok (effect_fields x))

    performed_is : (first : ℕ) → operation_result g (chain_end_fields f) (part_of u.part) first effect_on ≡ performs first
    performed_is first = ap (λ (v : Result EffectFields ℕ). operation_result g (chain_end_fields f) (part_of u.part) first v) (effect_is g x effect_on h)

    unwritten_performed : length (words_of_held x.put) ≡ 0 → unwritten_end e n g f core refs o (Ok u) ≡ operated_end core refs f x.regs x.put (Ok operated)
    unfolding run
    unwritten_performed l =
        ap (end_by_outcome claimed) (performed_is 0)
        ∙ ap (λ (ps : List Put). end_by_outcome claimed (Ok (record { regs = x.regs; puts = (chain_end_fields f).pending ++ ps; overflow = x.overflow }))) (no_puts (part_of u.part) (length claimed) (words_of_held x.put) l)
        ∙ ap (λ (cs : List Spot). end_by_outcome cs (performs (length claimed))) (no_claims claimed u.place (length (words_of_held x.put)) l)

    written_performed : (count : ℕ) → length (words_of_held x.put) ≡ count → written_end e n g f count core refs o (Ok u) ≡ operated_end core refs f x.regs x.put (Ok operated)
    unfolding run
    written_performed count l =
        ap (end_by_outcome (claimed ++ run_from u.place count)) (performed_is (length claimed))
        ∙ ap (λ (k : ℕ). end_by_outcome (claimed ++ run_from u.place k) (performs (length claimed))) (sym l)

    pub performed_by_kind : (k : Operand) → length (words_of_held x.put) ≡ words_written k → reached_end e n g f k core refs o (Ok u) ≡ operated_end core refs f x.regs x.put (Ok operated)
    performed_by_kind kind.W l = written_performed 1 l
    performed_by_kind kind.W2 l = written_performed 2 l
    performed_by_kind kind.W16 l = written_performed 16 l
    performed_by_kind kind.Wl l = written_performed 1 l
    performed_by_kind kind.Wr l = written_performed 1 l
    performed_by_kind kind.Rw l = written_performed 1 l
    performed_by_kind kind.Rwl l = written_performed 1 l
    performed_by_kind _ l = unwritten_performed l

  module _ (fault : Fault) (g' : RegsFields) (put : Held) (h : answer_fields (Err fault) ≡ refused_here g effect_on) where
    unwritten_refused : unwritten_end e n g f core refs o (Ok u) ≡ operated_end core refs f g' put (Err (halt.Fault fault))
    unfolding run
    unwritten_refused = ap (end_by_outcome claimed) (refusal_is g fault effect_on f (part_of u.part) 0 h)

    pub refused_by_kind : (k : Operand) → words_written k ≡ 0 → reached_end e n g f k core refs o (Ok u) ≡ operated_end core refs f g' put (Err (halt.Fault fault))
    refused_by_kind kind.W l = absurd (omega arith)
    refused_by_kind kind.W2 l = absurd (omega arith)
    refused_by_kind kind.W16 l = absurd (omega arith)
    refused_by_kind kind.Wl l = absurd (omega arith)
    refused_by_kind kind.Wr l = absurd (omega arith)
    refused_by_kind kind.Rw l = absurd (omega arith)
    refused_by_kind kind.Rwl l = absurd (omega arith)
    refused_by_kind _ l = unwritten_refused

-- An effect that puts words is not refused.
abbrev RefusedSo : ℕ → Result EffectFields ℕ → Type 0
RefusedSo n (Ok x) = Unit {0}
RefusedSo n (Err number) = n ≡ 0

puts_none : (v : Result EffectFields ℕ) → RefusedSo 0 v
puts_none (Ok x) = tt
puts_none (Err number) = refl

refused_so : (e : Effect) (n : ℕ) (g : RegsFields) (f : FinalFields) (o : OperandFields) → RefusedSo (words_written (operand_of e)) (exec e n g f o)
unfolding everything
refused_so effect.Tra n g f o = puts_none (exec effect.Tra n g f o)
refused_so effect.Tze n g f o = puts_none (exec effect.Tze n g f o)
refused_so effect.Tnz n g f o = puts_none (exec effect.Tnz n g f o)
refused_so effect.Tmi n g f o = puts_none (exec effect.Tmi n g f o)
refused_so effect.Tpl n g f o = puts_none (exec effect.Tpl n g f o)
refused_so effect.Trc n g f o = puts_none (exec effect.Trc n g f o)
refused_so effect.Tnc n g f o = puts_none (exec effect.Tnc n g f o)
refused_so effect.Tmoz n g f o = puts_none (exec effect.Tmoz n g f o)
refused_so effect.Tpnz n g f o = puts_none (exec effect.Tpnz n g f o)
refused_so effect.Tov n g f o = puts_none (exec effect.Tov n g f o)
refused_so effect.Ttf n g f o = puts_none (exec effect.Ttf n g f o)
refused_so effect.Div n g f o = puts_none (exec effect.Div n g f o)
refused_so effect.LprpN n g f o = puts_none (exec effect.LprpN n g f o)
refused_so _ n g f o = tt

by_refusal : (k : ℕ) (g : RegsFields) (fault : Fault) (v : Result EffectFields ℕ) → answer_fields (Err fault) ≡ refused_here g v → RefusedSo k v → k ≡ 0
by_refusal k g fault (Ok y) h r = cc
by_refusal k g fault (Err number) h r = r

pub refused_puts_nothing : (e : Effect) (n : ℕ) (g g' : RegsFields) (f : FinalFields) (o : OperandFields) (fault : Fault) → answer_fields (Err fault) ≡ refused_here g' (exec e n g f o) → words_written (operand_of e) ≡ 0
refused_puts_nothing e n g g' f o fault h =
    by_refusal (words_written (operand_of e)) g' fault (exec e n g f o) h (refused_so e n g f o)

-- the number of words that are put, by the operand kind
pub puts_count : (k k' : Operand) (words : List ℕ) → k ≡ k' → PutsFor k' words → length words ≡ words_written k
puts_count k k' words e p = rw e (count k' p)
  where
    count : (j : Operand) → PutsFor j words → length words ≡ words_written j
    count kind.W p = p
    count kind.W2 p = p
    count kind.W16 p = p
    count kind.Wl p = p.0
    count kind.Wr p = p.0
    count kind.Rw p = p
    count kind.Rwl p = p.0
    count _ p = p
