use Rattle.std.proofs.Common.{length, sym, ◌∙◌}
use Rattle.m36_audit.proofs.SegmentRuns.{no_runs, disorder_at}
use Rattle.m36_audit.proofs.segment_runs.count_segment.Goals as goal

pub returns-else-has_ordered_brackets : goal.returns-else-has_ordered_brackets
returns-else-has_ordered_brackets c =
    no_runs c.args.core.now c.args.dbr c.args.seg
    (disorder_at c.args.core.now c.args.dbr c.args.seg c.in-Some.sdw c.in-Some.ensures (sym c.has_ordered_brackets.ensures ∙ c.if-has_ordered_brackets.false))
    (length c.args.core.now) c.args.counts.now.starts c.args.counts.now.stops c.requires.before

pub returns-in-None : goal.returns-in-None
returns-in-None c =
    no_runs c.args.core.now c.args.dbr c.args.seg
    (λ d live. absurd (c.in-None.ensures d live))
    (length c.args.core.now) c.args.counts.now.starts c.args.counts.now.stops c.requires.before
