use Rattle.std.proofs.Common.{arith}
use Rattle.std.proofs.lemmas.Grind.{common_steps}
use Rattle.alm_tokens.proofs.RowLaws.{row_steps, row_more, rows_done}
use Rattle.alm_tokens.proofs.rows.rows_of.Goals as goal
use Rattle.alm_tokens.proofs.rows.rows_of.Goals.{then-byte-eq10+in_ok-push, else-byte-eq10}

pub loop-byte-preserved : goal.loop-byte-preserved
loop-byte-preserved c =
    elim c.if-byte-eq10.branch [
      | then-byte-eq10+in_ok-push w ↦ record {
        place = omega arith;
        begun = omega arith;
        counted = omega arith;
        count = grind (arith, common_steps, row_more);
        whole = grind (arith, common_steps, row_steps);
      }
      | else-byte-eq10 w ↦ record {
        place = omega arith;
        begun = omega arith;
        counted = omega arith;
        count = grind (arith, common_steps);
        whole = grind (arith, common_steps, row_steps);
      }
    ]

pub returns-then-from-at-clause-value : goal.returns-then-from-at-clause-value
returns-then-from-at-clause-value c =
    rows_done c.loop-byte.rows _ c.loop-byte.number c.loop-byte.from c.loop-byte.at c.args.text.now c.loop-byte.byte-index (omega arith) (omega arith) c.loop-byte.invariant.whole
