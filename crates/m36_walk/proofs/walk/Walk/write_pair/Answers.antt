use Rattle.std.proofs.Common.{[], refl}
use Rattle.m36_model.specs.Step.{aligned_at}
use Rattle.m36_walk.specs.Served.{sdw_in}
use Rattle.m36_word.specs.Pairs.{pair_words}
use Rattle.m36_walk.proofs.Claims.{written_refused, written_answered}
use Rattle.m36_walk.proofs.walk.Walk.write_pair.Goals as goal

pub returns-in-Err-clause-writes : goal.returns-in-Err-clause-writes
returns-in-Err-clause-writes c = λ g e.
    written_refused (aligned_at 2 c.args.at) 2 (sdw_in c.args.self.now c.args.at.seg) (pair_words c.args.p) _ c.claim.new.self.core c.in-Err.fault (c.in-Err.ensures.serves g e [] [] [])

pub returns-in-Ok-clause-writes : goal.returns-in-Ok-clause-writes
returns-in-Ok-clause-writes c = λ g e.
    written_answered (aligned_at 2 c.args.at) 2 (sdw_in c.args.self.now c.args.at.seg) (pair_words c.args.p) _ c.claim.new.self.core _ c.in-Ok.words.place (c.in-Ok.ensures.serves g e [] [] []) refl c.store_pair.ensures.core
