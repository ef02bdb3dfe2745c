use Rattle.m36_walk.specs.Runs.{words_from}
use Rattle.m36_walk.specs.Words.{pending_changes}
use Rattle.m36_walk.proofs.walk.Walk.read_operand.Goals as goal

pub returns-clause-serves : goal.returns-clause-serves
unfolding words_from
returns-clause-serves c = rw (← c.self.view_is, c.with_pending.ensures) (λ g e k claims refs puts h. c.in_ok-found.ensures.read g e k claims refs puts (pending_changes c.args.pending.now) h)
