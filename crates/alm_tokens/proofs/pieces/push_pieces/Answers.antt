use Rattle.std.proofs.Common.{◌≡◌, ◌≤◌, ◌+◌, arith}
use Rattle.std.proofs.lemmas.Grind.{common_steps}
use Rattle.alm_tokens.proofs.Cuts.{cuts, one_more}
use Rattle.alm_tokens.proofs.pieces.push_pieces.Goals as goal
use Rattle.alm_tokens.proofs.pieces.push_pieces.Goals.{then-separates+in_ok-push, else-separates}

pub loop-byte-preserved : goal.loop-byte-preserved
loop-byte-preserved c = record {
  place = omega arith;
  count =
      elim c.if-separates.branch [
        | then-separates+in_ok-push w ↦ grind (arith, common_steps, one_more)
        | else-separates w ↦ grind (arith, common_steps)
      ];
  whole =
      elim c.if-separates.branch [
        | then-separates+in_ok-push w ↦ grind (arith, common_steps, cuts)
        | else-separates w ↦ grind (arith, common_steps, cuts)
      ];
}
