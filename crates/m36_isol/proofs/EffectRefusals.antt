-- The faults with which an effect may be refused.
use Rattle.std.proofs.Common.{◌≡◌, arith}
use Rattle.std.specs.Prelude.{ℕ, ◌<◌, Result, Ok, Err}
use Rattle.m36_inst.specs.Operands.{operand_of}
use Rattle.m36_model.specs.Results.{EffectFields}
use Rattle.m36_model.specs.Effect.{exec}
use Rattle.m36_model.specs.Laws.{EffectRefusals}
use Rattle.m36_model.specs.WordsPut.{words_written}
use Rattle.m36_model.proofs.PutLaw.{PutsSo, puts_so}

by_answer : (count : ℕ) (v : Result EffectFields ℕ) (number : ℕ) → PutsSo count v → v ≡ Err number → number < 16
by_answer count (Ok x) number h e = cc
by_answer count (Err k) number h e = let same : k ≡ number = cc in omega arith

pub effect_refusals : EffectRefusals
effect_refusals e n g f o number h =
    by_answer (words_written (operand_of e)) (exec e n g f o) number (puts_so e n g f o) h
