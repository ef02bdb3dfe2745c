use Rattle.outside_tests.proofs.EachClause.{is_put_block}
use Rattle.outside_tests.proofs.clauses.put_block.Goals as goal

pub returns : goal.returns
returns g c =
    let all = is_put_block _ _ _ _ c.put_block.ensures in
    record { says = all.says; took = all.took; cause = all.cause; count = all.count; count_bound = all.bound }
