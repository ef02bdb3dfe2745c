use Rattle.m36_step.proofs.reach.reach_by_kind.Goals as goal

pub returns-in-R-clause-reaches : goal.returns-in-R-clause-reaches
returns-in-R-clause-reaches c = rw c.in-R.is (c.reach_word.ensures.reads c.args.row.now.effect c.args.row.now.reg)

pub returns-in-R2-clause-reaches : goal.returns-in-R2-clause-reaches
returns-in-R2-clause-reaches c = rw c.in-R2.is (c.reach_pair.ensures.reads c.args.row.now.effect c.args.row.now.reg)

pub returns-in-R16-clause-reaches : goal.returns-in-R16-clause-reaches
returns-in-R16-clause-reaches c = rw c.in-R16.is (c.reach_block.ensures.reads c.args.row.now.effect c.args.row.now.reg)

pub returns-in-W-clause-reaches : goal.returns-in-W-clause-reaches
returns-in-W-clause-reaches c = rw c.in-W.is (c.reach_written.ensures.writes c.args.row.now.effect c.args.row.now.reg)

pub returns-in-W2-clause-reaches : goal.returns-in-W2-clause-reaches
returns-in-W2-clause-reaches c = rw c.in-W2.is (c.reach_written-in-W2.ensures.writes c.args.row.now.effect c.args.row.now.reg)

pub returns-in-W16-clause-reaches : goal.returns-in-W16-clause-reaches
returns-in-W16-clause-reaches c = rw c.in-W16.is (c.reach_written-in-W16.ensures.writes c.args.row.now.effect c.args.row.now.reg)

pub returns-in-Wl-clause-reaches : goal.returns-in-Wl-clause-reaches
returns-in-Wl-clause-reaches c = rw c.in-Wl.is (c.reach_written-in-Wl.ensures.writes c.args.row.now.effect c.args.row.now.reg)

pub returns-in-Wr-clause-reaches : goal.returns-in-Wr-clause-reaches
returns-in-Wr-clause-reaches c = rw c.in-Wr.is (c.reach_written-in-Wr.ensures.writes c.args.row.now.effect c.args.row.now.reg)

pub returns-in-Rw-clause-reaches : goal.returns-in-Rw-clause-reaches
returns-in-Rw-clause-reaches c = rw c.in-Rw.is (c.reach_changed.ensures.writes c.args.row.now.effect c.args.row.now.reg)

pub returns-in-Rwl-clause-reaches : goal.returns-in-Rwl-clause-reaches
returns-in-Rwl-clause-reaches c = rw c.in-Rwl.is (c.reach_changed-in-Rwl.ensures.writes c.args.row.now.effect c.args.row.now.reg)
