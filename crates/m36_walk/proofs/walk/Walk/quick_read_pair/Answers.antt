use Rattle.std.proofs.Common.{◌≡◌, ◌+◌, ◌≤◌, ◌^◌, [], Ok, subst, arith}
use Rattle.m36_model.specs.Act.{Read}
use Rattle.m36_model.specs.Core.{core_put}
use Rattle.m36_model.specs.Fields.{AtFields}
use Rattle.m36_model.specs.Place.{wrapped_address}
use Rattle.m36_walk.specs.Runs.{words_from}
use Rattle.m36_walk.specs.Served.{ServesRun}
use Rattle.m36_walk.proofs.walk.Walk.quick_read_pair.Goals as goal

pub returns-clause-serves : goal.returns-clause-serves
unfolding words_from core_put
returns-clause-serves c = λ psr.
    let bound : c.in_ok-place.place + 2 ≤ 2 ^ 24 = c.in_ok-place.ensures.bound in
    let same : wrapped_address (c.in_ok-place.place + 1) ≡ c.in_ok-place.place + 1 = omega arith in
    let serves = subst (λ (p : AtFields). ServesRun (λ g. g.ppr.psr ≡ psr) Read (record { core = c.self.inside.core; dbr = c.self.inside.dbr }) c.self.inside.core p 2 (Ok c.in_ok-place.place)) c.start_of_pair.ensures.value (c.in_ok-place.ensures.read psr) in
    rw (← c.self.view_is) (λ g e k claims refs puts h. rw same at (serves g e k claims refs puts [] h))
