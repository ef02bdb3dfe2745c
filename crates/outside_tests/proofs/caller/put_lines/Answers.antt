-- What two puts, one after the other, wrote and took.
use Rattle.m36_outside.proofs.Grown.{grew_on, grew_more, grew_longer}
use Rattle.m36_outside.proofs.LinesTaken.{takes_some_of_lines, takes_line_on, takes_line_more, takes_some_of_line}
use Rattle.outside_tests.proofs.caller.put_lines.Goals as goal

-- the first put failed
pub returns-in-Failed-clause-through : goal.returns-in-Failed-clause-through
returns-in-Failed-clause-through g c = takes_some_of_lines _ _ _ _ _ _ c.in-Failed.ensures.took

pub returns-in-Failed-clause-says : goal.returns-in-Failed-clause-says
returns-in-Failed-clause-says g c = grew_longer _ _ _ _ c.in-Failed.ensures.says

-- both puts succeeded
pub returns-in-Done-put-clause-through : goal.returns-in-Done-put-clause-through
returns-in-Done-put-clause-through g c =
    takes_line_on _ _ _ _ _ c.in-Done.ensures.took c.in-Done-put.ensures.took

pub returns-in-Done-put-clause-says : goal.returns-in-Done-put-clause-says
returns-in-Done-put-clause-says g c = grew_on _ _ _ _ _ c.in-Done.ensures.says c.in-Done-put.ensures.says

-- the second put failed
pub returns-in-Failed-put-clause-through : goal.returns-in-Failed-put-clause-through
returns-in-Failed-put-clause-through g c =
    takes_line_more _ _ _ _ _ c.in-Done.ensures.took (takes_some_of_line _ _ _ _ _ c.in-Failed-put.ensures.took)

pub returns-in-Failed-put-clause-says : goal.returns-in-Failed-put-clause-says
returns-in-Failed-put-clause-says g c = grew_more _ _ _ _ _ c.in-Done.ensures.says c.in-Failed-put.ensures.says
