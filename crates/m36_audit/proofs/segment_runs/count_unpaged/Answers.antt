use Rattle.std.proofs.Common.{◌+◌, ◌*◌, length, sym, ◌∙◌, arith}
use Rattle.m36_audit.specs.Runs.{run, AreCounted}
use Rattle.m36_audit.proofs.SegmentRuns.{starts_room, stops_room, counted_by, first_whole, second_whole, whole_done}
use Rattle.m36_audit.proofs.segment_runs.count_unpaged.Goals as goal

pub add-requires-clause-room : goal.add-requires-clause-room
add-requires-clause-room c =
    starts_room (run c.args.core.now c.args.dbr) (256 * c.args.seg) (length c.args.core.now) c.args.counts.now.starts c.args.counts.now.stops c.unpaged_first_run.result.first (omega arith) c.requires.before

pub add-requires-clause-room_at_end : goal.add-requires-clause-room_at_end
add-requires-clause-room_at_end c =
    stops_room (run c.args.core.now c.args.dbr) (256 * c.args.seg) (length c.args.core.now) c.args.counts.now.starts c.args.counts.now.stops c.unpaged_first_run.result.end (omega arith) c.requires.before

pub add-requires-2-clause-room : goal.add-requires-2-clause-room
add-requires-2-clause-room c =
    let once : AreCounted (run c.args.core.now c.args.dbr) (256 * c.args.seg + 1) (length c.args.core.now) c.add.new.self.starts c.add.new.self.stops =
    counted_by (run c.args.core.now c.args.dbr) (256 * c.args.seg) (length c.args.core.now) c.args.counts.now.starts c.args.counts.now.stops c.unpaged_first_run.result c.add.new.self.starts c.add.new.self.stops (first_whole c.args.core.now c.args.dbr c.args.seg c.args.sdw.now c.requires.live c.requires.order c.requires.whole ∙ sym c.unpaged_first_run.ensures) c.add.ensures.starts c.add.ensures.stops c.requires.before in
    starts_room (run c.args.core.now c.args.dbr) (256 * c.args.seg + 1) (length c.args.core.now) c.add.new.self.starts c.add.new.self.stops c.unpaged_second_run.result.first (omega arith) once

pub add-requires-2-clause-room_at_end : goal.add-requires-2-clause-room_at_end
add-requires-2-clause-room_at_end c =
    let once : AreCounted (run c.args.core.now c.args.dbr) (256 * c.args.seg + 1) (length c.args.core.now) c.add.new.self.starts c.add.new.self.stops =
    counted_by (run c.args.core.now c.args.dbr) (256 * c.args.seg) (length c.args.core.now) c.args.counts.now.starts c.args.counts.now.stops c.unpaged_first_run.result c.add.new.self.starts c.add.new.self.stops (first_whole c.args.core.now c.args.dbr c.args.seg c.args.sdw.now c.requires.live c.requires.order c.requires.whole ∙ sym c.unpaged_first_run.ensures) c.add.ensures.starts c.add.ensures.stops c.requires.before in
    stops_room (run c.args.core.now c.args.dbr) (256 * c.args.seg + 1) (length c.args.core.now) c.add.new.self.starts c.add.new.self.stops c.unpaged_second_run.result.end (omega arith) once

pub returns : goal.returns
returns c =
    let once : AreCounted (run c.args.core.now c.args.dbr) (256 * c.args.seg + 1) (length c.args.core.now) c.add.new.self.starts c.add.new.self.stops =
    counted_by (run c.args.core.now c.args.dbr) (256 * c.args.seg) (length c.args.core.now) c.args.counts.now.starts c.args.counts.now.stops c.unpaged_first_run.result c.add.new.self.starts c.add.new.self.stops (first_whole c.args.core.now c.args.dbr c.args.seg c.args.sdw.now c.requires.live c.requires.order c.requires.whole ∙ sym c.unpaged_first_run.ensures) c.add.ensures.starts c.add.ensures.stops c.requires.before in
    let twice : AreCounted (run c.args.core.now c.args.dbr) (256 * c.args.seg + 1 + 1) (length c.args.core.now) c.add-2.new.self.starts c.add-2.new.self.stops =
    counted_by (run c.args.core.now c.args.dbr) (256 * c.args.seg + 1) (length c.args.core.now) c.add.new.self.starts c.add.new.self.stops c.unpaged_second_run.result c.add-2.new.self.starts c.add-2.new.self.stops (second_whole c.args.core.now c.args.dbr c.args.seg c.args.sdw.now c.requires.live c.requires.order c.requires.whole ∙ sym c.unpaged_second_run.ensures) c.add-2.ensures.starts c.add-2.ensures.stops once in
    whole_done c.args.core.now c.args.dbr c.args.seg c.args.sdw.now c.requires.live c.requires.order c.requires.whole (length c.args.core.now) c.add-2.new.self.starts c.add-2.new.self.stops twice
