use Rattle.outside_tests.proofs.EachClause.{is_put}
use Rattle.outside_tests.proofs.clauses.put.Goals as goal

pub returns : goal.returns
returns g c =
    let all = is_put _ _ _ _ c.put.ensures in
    record { says = all.says; took = all.took; cause = all.cause; count = all.count; count_bound = all.bound }
