use Rattle.std.proofs.Common.{◌≡◌, [], true, false, length, ◌∙◌}
use Rattle.m36_bindfile.specs.BindFile.{lines_from, parsed_bind_lines, lacks_line_feed}
use Rattle.m36_bindfile.proofs.BindLoops.{line_read, line_wrong, lines_read, line_cut, few_more}
use Rattle.m36_bindfile.proofs.reading.lines_in.Goals as goal

pub returns-in-None-clause-says : goal.returns-in-None-clause-says
returns-in-None-clause-says c =
    line_wrong c.loop-line.above c.next_number.result c.loop-line.rest.now c.in-Some.line.now c.in-Some.behind.now
    (lines_from [] (parsed_bind_lines c.args.text.now)) c.in-Some.ensures.line c.in-None.ensures c.next_number.ensures c.loop-line.invariant.told

pub loop-line-preserved : goal.loop-line-preserved
loop-line-preserved c = record {
  told =
      line_read c.loop-line.above c.push.new.self c.in-Some-line_after.next c.loop-line.rest.now c.in-Some.line.now c.in-Some.behind.now
      (lines_from [] (parsed_bind_lines c.args.text.now)) c.in-Some.ensures.line c.in-Some-line_after.ensures
      c.in_ok-push-in-Some-line_after.ensures.ok c.loop-line.invariant.told;
  few =
      few_more c.loop-line.above c.push.new.self c.in-Some-line_after.next (length c.loop-line.rest.now) (length c.in-Some.behind.now)
      (length c.args.text.now) c.in_ok-push-in-Some-line_after.ensures.ok c.in-Some.ensures.shorter c.loop-line.invariant.few;
}

pub returns-else-lacks_line_feed-clause-says : goal.returns-else-lacks_line_feed-clause-says
returns-else-lacks_line_feed-clause-says c =
    let whole : lacks_line_feed c.loop-line.rest.now ≡ false = cc in
    lines_read c.loop-line.above (lines_from [] (parsed_bind_lines c.args.text.now)) c.loop-line.rest.now c.in_default.ensures.line whole c.loop-line.invariant.told

pub returns-then-lacks_line_feed-clause-says : goal.returns-then-lacks_line_feed-clause-says
returns-then-lacks_line_feed-clause-says c =
    let cut : lacks_line_feed c.loop-line.rest.now ≡ true = cc in
    line_cut c.loop-line.above c.next_number-then-lacks_line_feed.result (lines_from [] (parsed_bind_lines c.args.text.now)) c.loop-line.rest.now
    c.in_default.ensures.line cut c.next_number-then-lacks_line_feed.ensures c.loop-line.invariant.told
