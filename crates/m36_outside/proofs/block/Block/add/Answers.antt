-- The earlier pieces were put.
use Rattle.std.proofs.Common.{[], ◌∷◌, ◌++◌, subst}
use Rattle.m36_outside.specs.Gathered.{FailsPartway}
use Rattle.m36_outside.proofs.Gathered.{adds_behind, loses_here}
use Rattle.m36_outside.proofs.block.Block.add.Goals as goal

pub returns-in-Done-clause-adds : goal.returns-in-Done-clause-adds
returns-in-Done-clause-adds g c =
    let written = g.S.Sink.written in
    let taken = g.S.Sink.taken in
    adds_behind c.add_first.result c.args.self.now c.push.new.self c.hand_over.new.self c.add_first.new.self (c.args.piece.now ∷ []) (written c.args.out.now) (written c.hand_over.new.out) (written c.add_first.new.out) (taken c.args.out.now) (taken c.hand_over.new.out) (taken c.add_first.new.out) c.if-push.ensures.full c.in-Done.ensures.says c.in-Done.ensures.through c.in-Done.ensures.empty c.add_first.ensures.adds

pub returns-in-Failed-clause-adds : goal.returns-in-Failed-clause-adds
returns-in-Failed-clause-adds g c =
    let written = g.S.Sink.written in
    let taken = g.S.Sink.taken in
    let due = c.args.piece.now ∷ [] in
    subst (λ l. FailsPartway (l ++ due) (written c.args.out.now) (written c.hand_over.new.out) (taken c.args.out.now) (taken c.hand_over.new.out)) c.if-push.ensures.full
    (loses_here c.push.new.self due (written c.args.out.now) (written c.hand_over.new.out) (taken c.args.out.now) (taken c.hand_over.new.out) c.in-Failed.ensures.says c.in-Failed.ensures.through)
