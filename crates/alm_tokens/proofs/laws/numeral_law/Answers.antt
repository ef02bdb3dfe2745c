use Rattle.alm_tokens.proofs.Negatives.{negatives_mean}
use Rattle.alm_tokens.proofs.laws.numeral_law.Goals as goal

pub returns : goal.returns
returns c = negatives_mean
