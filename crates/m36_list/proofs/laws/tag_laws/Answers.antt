use Rattle.m36_list.proofs.TagMoves.{registers_mean, tags_mean}
use Rattle.m36_list.proofs.laws.tag_laws.Goals as goal

pub returns-clause-tags : goal.returns-clause-tags
returns-clause-tags c = tags_mean

pub returns-clause-registers : goal.returns-clause-registers
returns-clause-registers c = registers_mean
