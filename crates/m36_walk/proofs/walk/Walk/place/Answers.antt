use Rattle.std.proofs.Common.{sym}
use Rattle.m36_walk.proofs.TargetLaws.{locate_served}
use Rattle.m36_walk.proofs.Placing.{place_told}
use Rattle.m36_walk.proofs.walk.Walk.place.Goals as goal

pub returns-clause-value : goal.returns-clause-value
returns-clause-value c = rw (← c.self.view_is) (sym (place_told c.self.inside.core c.self.inside.dbr c.args.at _ c.find_place.result c.find_place.ensures.asked))

pub returns-clause-serves : goal.returns-clause-serves
returns-clause-serves c = rw (← c.self.view_is) (λ g e k claims refs puts. locate_served g c.self.inside.dbr e c.self.inside.core c.args.at _ claims refs puts c.find_place.ensures.asked)
