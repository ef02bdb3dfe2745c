use Rattle.std.proofs.Common.{◌<◌, ◌∙◌, length, get_or, sym, ap, arith}
use Rattle.std.proofs.lemmas.Grind.{common_steps}
use Rattle.alm_tokens.specs.declared.rows.Row.{Row}
use Rattle.alm_parse.specs.Sources.{fault_of}
use Rattle.alm_parse.proofs.SourceLaws.{told_here, last_here, next_here, line_more}
use Rattle.alm_parse.proofs.source.read_lines.Goals as goal

abbrev no_row : Row
no_row = record { span = record { from = 0; to = 0 }; number = 0 }

pub returns-in-Err-Refused-clause-says : goal.returns-in-Err-Refused-clause-says
returns-in-Err-Refused-clause-says c =
    let within : c.loop-row.row-index < length c.args.rows.now = omega arith in
    let said = rw c.in-Err-Refused.field-0-is at c.in-Err-Refused.ensures in
    told_here c.args.text.now c.args.rows.now c.loop-row.lines c.loop-row.row-index no_row c.in-Err-Refused.refusal c.fault_of.result within said.value c.loop-row.invariant.whole (c.fault_of.ensures ∙ ap (fault_of (get_or c.args.rows.now c.loop-row.row-index no_row)) c.in-Err-Refused.refusal-is)

pub returns-then-last-clause-says : goal.returns-then-last-clause-says
returns-then-last-clause-says c =
    let within : c.loop-row.row-index < length c.args.rows.now = omega arith in
    last_here c.args.text.now c.args.rows.now c.loop-row.lines c.push.new.self c.loop-row.row-index no_row c.in-Ok.line within c.in-Ok.ensures.value (sym c.is_end_operation-last.ensures ∙ c.if-last.true) c.loop-row.invariant.whole c.in_ok-push-in-Ok.ensures.ok

pub loop-row-preserved : goal.loop-row-preserved
loop-row-preserved c =
    let within : c.loop-row.row-index < length c.args.rows.now = omega arith in
    record {
      count = grind (arith, common_steps, line_more);
      whole = next_here c.args.text.now c.args.rows.now c.loop-row.lines c.push.new.self c.loop-row.row-index no_row c.in-Ok.line within c.in-Ok.ensures.value (sym c.is_end_operation-last.ensures ∙ c.if-last.false) c.loop-row.invariant.whole c.in_ok-push-in-Ok.ensures.ok;
    }

pub returns-then-last-clause-count : goal.returns-then-last-clause-count
returns-then-last-clause-count c = grind (arith, common_steps, line_more)
