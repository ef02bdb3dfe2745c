use Rattle.std.proofs.Common.{Ok, Err, ap, sym, ◌∙◌}
use Rattle.m36_walk.specs.Runs.{IsInCore}
use Rattle.m36_walk.proofs.ReturnedWords.{found_sdw, fetch_told}
use Rattle.m36_walk.proofs.refer.refer_fetch.Goals as goal

pub returns-in-Ok-clause-fetch : goal.returns-in-Ok-clause-fetch
returns-in-Ok-clause-fetch c = λ g e k claims refs puts changed h.
    rw c.fetch_result.ensures.place (fetch_told g c.args.dbr e c.args.core.now c.fetch_by_tables.new.core c.args.at 1 claims refs puts changed h k (Ok c.in-Ok.found) c.in-Ok.ensures.spots_in_core c.in-Ok.ensures.marked)

pub returns-in-Err-clause-fetch : goal.returns-in-Err-clause-fetch
returns-in-Err-clause-fetch c = λ g e k claims refs puts changed h.
    fetch_told g c.args.dbr e c.args.core.now c.fetch_by_tables.new.core c.args.at 1 claims refs puts changed h k (Err c.in-Err.fault) c.in-Err.ensures.spots_in_core c.in-Err.ensures.marked

pub returns-in-Ok-clause-privileged : goal.returns-in-Ok-clause-privileged
returns-in-Ok-clause-privileged c = c.fetch_result.ensures.privileged ∙ ap (λ d. d.privileged) (sym (found_sdw _ c.args.core.now c.args.dbr c.args.at 1 c.in-Ok.found c.in-Ok.ensures.spots_in_core))

pub returns-in-Ok-clause-inside : goal.returns-in-Ok-clause-inside
unfolding IsInCore
returns-in-Ok-clause-inside c = rw c.fetch_result.ensures.place c.in-Ok.ensures.inside.0
