use Rattle.std.proofs.Common.{◌∷◌, [], ◌∙◌, refl}
use Rattle.m36_walk.specs.Served.{sdw_in}
use Rattle.m36_walk.proofs.Claims.{put_one_word, written_refused, written_answered}
use Rattle.m36_walk.proofs.walk.Walk.write.Goals as goal

pub returns-in-Err-clause-writes : goal.returns-in-Err-clause-writes
returns-in-Err-clause-writes c = λ g e.
    written_refused c.args.at 1 (sdw_in c.args.self.now c.args.at.seg) (c.args.w ∷ []) _ c.claim.new.self.core c.in-Err.fault (c.in-Err.ensures.serves g e [] [] [])

pub returns-in-Ok-clause-writes : goal.returns-in-Ok-clause-writes
returns-in-Ok-clause-writes c = λ g e.
    written_answered c.args.at 1 (sdw_in c.args.self.now c.args.at.seg) (c.args.w ∷ []) _ c.claim.new.self.core _ c.in-Ok.words.place (c.in-Ok.ensures.serves g e [] [] []) refl (c.store.ensures.core ∙ put_one_word c.claim.new.self.core c.in-Ok.words.place c.args.w)
