use Rattle.std.proofs.Common.{◌<◌, length, arith, subst, sym}
use Rattle.std.specs.List.{All}
use Rattle.std.proofs.lemmas.Grind.{common_steps}
use Rattle.alm_tokens.specs.Heads.{IsLabelSpan}
use Rattle.alm_tokens.proofs.HeadLaws.{heads, marks_more}
use Rattle.alm_tokens.proofs.head.head_of.Goals as goal
use Rattle.alm_tokens.proofs.head.head_of.Goals.{in-Label+in_ok-push-in-Label, in-Skip, in-Go}

pub loop-byte-preserved : goal.loop-byte-preserved
loop-byte-preserved c =
    let within : c.loop-byte.at < length c.args.text.now = omega arith in
    elim c.match-token_step.branch [
      | in-Label+in_ok-push-in-Label w ↦ record {
        place = omega arith;
        begun = omega arith;
        marks = marks_more (length c.args.text.now) c.loop-byte.labels c.match-token_step.labels c.loop-byte.from c.loop-byte.at c.loop-byte.invariant.marks c.loop-byte.invariant.begun within (grind (arith, common_steps));
        whole = grind (arith, common_steps, heads);
      }
      | in-Skip w ↦ record {
        place = omega arith;
        begun = omega arith;
        marks = subst (λ more. All (IsLabelSpan (length c.args.text.now)) more) (sym w.labels-is) c.loop-byte.invariant.marks;
        whole = grind (arith, common_steps, heads);
      }
      | in-Go w ↦ record {
        place = omega arith;
        begun = omega arith;
        marks = subst (λ more. All (IsLabelSpan (length c.args.text.now)) more) (sym w.labels-is) c.loop-byte.invariant.marks;
        whole = grind (arith, common_steps, heads);
      }
    ]
