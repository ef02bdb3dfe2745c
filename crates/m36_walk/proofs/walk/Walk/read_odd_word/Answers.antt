use Rattle.std.proofs.Common.{[], refl}
use Rattle.m36_model.specs.Store.{changes}
use Rattle.m36_model.specs.Core.{core_put}
use Rattle.m36_walk.specs.Runs.{words_from}
use Rattle.m36_walk.proofs.walk.Walk.read_odd_word.Goals as goal

pub returns-clause-serves : goal.returns-clause-serves
unfolding changes core_put words_from
returns-clause-serves c = rw (← c.self.view_is, c.peek.ensures) (λ g e k claims refs. c.in_ok-found.ensures.odd g e k claims refs [] [] refl)
