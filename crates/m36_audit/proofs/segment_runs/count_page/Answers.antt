use Rattle.std.proofs.Common.{◌+◌, ◌*◌, length, sym, ◌∙◌, arith}
use Rattle.m36_audit.specs.Runs.{run}
use Rattle.m36_audit.proofs.SegmentRuns.{starts_room, stops_room, counted_by, page_at_number, page_absent}
use Rattle.m36_audit.proofs.segment_runs.count_page.Goals as goal

pub add-requires-clause-room : goal.add-requires-clause-room
add-requires-clause-room c =
    starts_room (run c.args.core.now c.args.dbr) (256 * c.args.seg + c.args.page) (length c.args.core.now) c.args.counts.now.starts c.args.counts.now.stops c.in-Some.run'.first (omega arith) c.requires.before

pub add-requires-clause-room_at_end : goal.add-requires-clause-room_at_end
add-requires-clause-room_at_end c =
    stops_room (run c.args.core.now c.args.dbr) (256 * c.args.seg + c.args.page) (length c.args.core.now) c.args.counts.now.starts c.args.counts.now.stops c.in-Some.run'.end (omega arith) c.requires.before

pub returns-in-Some : goal.returns-in-Some
returns-in-Some c =
    counted_by (run c.args.core.now c.args.dbr) (256 * c.args.seg + c.args.page) (length c.args.core.now) c.args.counts.now.starts c.args.counts.now.stops c.in-Some.run' c.add.new.self.starts c.add.new.self.stops
    (page_at_number c.args.core.now c.args.dbr c.args.seg c.args.sdw.now c.requires.live c.requires.order c.requires.paged c.args.page c.requires.page ∙ sym c.page_run.ensures ∙ c.in-Some.is)
    c.add.ensures.starts c.add.ensures.stops c.requires.before

pub returns-in-None : goal.returns-in-None
returns-in-None c =
    page_absent c.args.core.now c.args.dbr c.args.seg c.args.sdw.now c.requires.live c.requires.order c.requires.paged c.args.page c.requires.page (sym c.in-None.is ∙ c.page_run.ensures) (length c.args.core.now) c.args.counts.now.starts c.args.counts.now.stops c.requires.before
