use Rattle.std.proofs.Common.{◌≡◌, ap, ◌∙◌, add-one, arith}
use Rattle.m36_audit.specs.WordOwners.{segment_recorded, segments_recorded}
use Rattle.m36_audit.proofs.identities.record_tables.Goals as goal

pub loop-seg-preserved : goal.loop-seg-preserved
unfolding segments_recorded
loop-seg-preserved c =
    rw add-one (c.record_segment.ensures ∙ ap (segment_recorded c.args.core.now c.args.dbr c.args.firsts.now.items c.args.k c.loop-seg.seg) c.loop-seg.invariant)

pub returns : goal.returns
returns c =
    let past = c.loop-seg-test.false in
    let near = c.loop-seg.auto.seg-end in
    let e : c.loop-seg.seg ≡ c.segment_count-seg-end.result = omega arith in
    (c.segment_count-seg-end.result, c.segment_count-seg-end.ensures, rw (← e) c.loop-seg.invariant)
