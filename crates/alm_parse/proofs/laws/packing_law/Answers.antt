use Rattle.alm_parse.proofs.TextsBack.{texts_back}
use Rattle.alm_parse.proofs.laws.packing_law.Goals as goal

pub returns : goal.returns
returns c = texts_back
