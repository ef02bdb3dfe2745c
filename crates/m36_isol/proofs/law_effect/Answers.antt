use Rattle.m36_isol.proofs.EffectRefusals.{effect_refusals}
use Rattle.m36_isol.proofs.Effects.{effect_law}
use Rattle.m36_isol.proofs.law_effect.Goals as goal

pub returns-clause-effects : goal.returns-clause-effects
returns-clause-effects c = effect_law

pub returns-clause-refusals : goal.returns-clause-refusals
returns-clause-refusals c = effect_refusals
