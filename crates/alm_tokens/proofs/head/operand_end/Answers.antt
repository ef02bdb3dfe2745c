use Rattle.std.proofs.Common.{arith}
use Rattle.std.proofs.lemmas.Grind.{common_steps}
use Rattle.alm_tokens.proofs.HeadLaws.{ends}
use Rattle.alm_tokens.proofs.head.operand_end.Goals as goal
use Rattle.alm_tokens.proofs.head.operand_end.Goals.{then-not-is_blank, else-not-is_blank}

pub loop-byte-preserved : goal.loop-byte-preserved
loop-byte-preserved c = record {
  place = omega arith;
  whole =
      elim c.if-not-is_blank.branch [
        | then-not-is_blank w ↦ grind (arith, common_steps, ends)
        | else-not-is_blank w ↦ grind (arith, common_steps, ends)
      ];
}
