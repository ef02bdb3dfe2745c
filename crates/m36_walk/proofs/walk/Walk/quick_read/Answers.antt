use Rattle.std.proofs.Common.{[]}
use Rattle.m36_model.specs.Core.{core_put}
use Rattle.m36_walk.specs.Runs.{words_from}
use Rattle.m36_walk.specs.Words.{pending_changes}
use Rattle.m36_walk.proofs.walk.Walk.quick_read.Goals as goal

pub returns-clause-serves : goal.returns-clause-serves
unfolding words_from core_put
returns-clause-serves c = λ psr. rw (← c.self.view_is) (λ g e k claims refs puts h. (c.in_ok-place.ensures.read psr) g e k claims refs puts [] h)

pub returns-clause-sees : goal.returns-clause-sees
unfolding words_from
returns-clause-sees c = λ psr pending. rw (← c.self.view_is) (λ g e k claims refs puts h. (c.in_ok-place.ensures.read psr) g e k claims refs puts (pending_changes pending) h)
