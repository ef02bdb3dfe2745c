use Rattle.std.proofs.Common.{length, ◌-◌, ◌+◌, arith}
use Rattle.alm_lines.proofs.Rooms.{room_below}
use Rattle.m36_list.proofs.ListingLines.{line_listed, still_fits, all_listed}
use Rattle.m36_list.proofs.listing_text.put_section_words.Goals as goal

pub loop-line-preserved : goal.loop-line-preserved
loop-line-preserved c = record {
  room = room_below (length c.lines-line-items.result.now - c.loop-line.line-index) (length c.lines-line-items.result.now - (c.loop-line.line-index + 1)) c.loop-line.spot c.in_ok-spot.spot (omega arith) c.loop-line.invariant.room c.in_ok-spot.ensures.near;
  fits = still_fits c.loop-line.at c.in_ok-size.size c.loop-line.left.now c.first_words-here.result.now c.words_after-left.result.now c.first_words-here.ensures c.words_after-left.ensures c.loop-line.invariant.fits;
  rest = line_listed c.loop-line.out c.put_all_placed.new.text _ c.args.name.now c.args.section c.text-text.result.now c.loop-line.left.now c.first_words-here.result.now c.words_after-left.result.now c.loop-line.at c.in_ok-size.size c.loop-line.spot c.in_ok-spot.spot c.lines-line-items.result.now c.loop-line.line-index c.line-item.result c.loop-line-test.true c.line-item.is c.in_ok-size.ensures c.first_words-here.ensures c.words_after-left.ensures c.in_ok-spot.ensures.value c.in_ok-put_all_placed.ensures c.loop-line.invariant.rest;
}

pub returns : goal.returns
returns c = all_listed c.loop-line.out _ c.args.name.now c.args.section c.text-text.result.now _ c.loop-line.left.now _ c.loop-line.at _ c.loop-line.spot c.lines-line-items.result.now _ c.loop-line.line-index c.loop-line-test.false c.text-text.ensures c.lines-line-items.ensures.value c.loop-line.invariant.rest
