use Rattle.std.proofs.Common.{[]}
use Rattle.m36_model.specs.Results.{words_of_pairs}
use Rattle.m36_model.specs.Step.{aligned_at}
use Rattle.m36_walk.specs.Served.{sdw_in}
use Rattle.m36_walk.proofs.Claims.{written_refused, written_answered}
use Rattle.m36_walk.proofs.walk.Walk.write_block.Goals as goal

pub returns-in-Err-clause-writes : goal.returns-in-Err-clause-writes
returns-in-Err-clause-writes c = λ g e.
    written_refused (aligned_at 16 c.args.at) 16 (sdw_in c.args.self.now c.args.at.seg) (words_of_pairs c.args.b) _ c.claim.new.self.core c.in-Err.fault (c.in-Err.ensures.serves g e [] [] [])

pub returns-in-Ok-clause-writes : goal.returns-in-Ok-clause-writes
returns-in-Ok-clause-writes c = λ g e.
    written_answered (aligned_at 16 c.args.at) 16 (sdw_in c.args.self.now c.args.at.seg) (words_of_pairs c.args.b) _ c.claim.new.self.core _ c.in-Ok.words.place (c.in-Ok.ensures.serves g e [] [] []) c.store_block.ensures.words c.store_block.ensures.core
