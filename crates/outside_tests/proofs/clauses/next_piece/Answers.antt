use Rattle.outside_tests.proofs.EachClause.{is_next_piece}
use Rattle.outside_tests.proofs.clauses.next_piece.Goals as goal

pub returns : goal.returns
returns g c =
    let all = is_next_piece _ _ _ _ c.next_piece.ensures in
    record { says = all.says; gives = all.gives; cause = all.cause; count = all.count; count_bound = all.bound }
