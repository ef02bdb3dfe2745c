use Rattle.std.proofs.Common.{[]}
use Rattle.m36_model.specs.Core.{core_put}
use Rattle.m36_walk.specs.Runs.{words_from}
use Rattle.m36_walk.proofs.walk.Walk.quick_change.Goals as goal

pub returns-clause-reads : goal.returns-clause-reads
unfolding words_from core_put
returns-clause-reads c = λ psr. rw (← c.self.view_is) (λ g e k claims refs puts h. (c.in_ok-place.ensures.read psr) g e k claims refs puts [] h)
