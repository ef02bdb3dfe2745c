use Rattle.std.proofs.Common.{◌<◌, ◌++◌, length, sym, ap, ◌∙◌, arith}
use Rattle.m36_text.specs.Lines.{lines_of}
use Rattle.m36_dir.specs.BootOrder.{well_formed_lines}
use Rattle.m36_dir.proofs.TextLoops.{read_begin, read_code, read_rest, read_none, read_all, read_more, read_lines, read_count, few_begin, few_more, few_kept}
use Rattle.m36_dir.proofs.Kept.{kept_as}
use Rattle.m36_dir.proofs.reading.read_lines.Goals as goal

pub loop-line-init : goal.loop-line-init
loop-line-init c = record {
  told = read_begin c.args.text.now c.new-above.result.items c.new-above.ensures.items;
  lines = ap (λ ls. ls ++ well_formed_lines c.args.text.now) c.new-above.ensures.items;
  count = omega arith;
  few = few_begin c.args.text.now;
}

pub returns-in-Err-clause-told : goal.returns-in-Err-clause-told
returns-in-Err-clause-told c =
    read_code c.args.text.now c.loop-line.rest.now c.in-Some.line.now c.in-Some.behind.now c.loop-line.above.items c.deref.result.now
    c.loop-line.number c.in-Err.code c.fault_at.result
    c.in-Some.ensures.line c.deref.ensures.value c.in-Err.ensures c.fault_at.ensures c.loop-line.invariant.told

pub overflow_add-number : goal.overflow_add-number
overflow_add-number c =
    let few : length (lines_of c.args.text.now) < length c.args.text.now =
    few_more c.args.text.now c.loop-line.rest.now c.in-Some.line.now c.in-Some.behind.now c.in-Ok.line
    c.in-Some.ensures.line (c.in-Ok.ensures).0 c.loop-line.invariant.few in
    let count = read_count c.args.text.now c.loop-line.rest.now c.in-Some.line.now c.in-Some.behind.now c.loop-line.number
    c.in-Some.ensures.line c.loop-line.invariant.count in
    omega (arith, count, few)

pub loop-line-preserved : goal.loop-line-preserved
loop-line-preserved c = record {
  told =
      read_more c.args.text.now c.loop-line.rest.now c.in-Some.line.now c.in-Some.behind.now c.loop-line.above.items c.deref.result.now
      c.add_line.new.lines.items c.in-Ok.line c.loop-line.number
      c.in-Some.ensures.line c.deref.ensures.value c.in-Ok.ensures c.in_ok-add_line-in-Ok.ensures c.loop-line.invariant.told;
  lines =
      read_lines c.args.text.now c.loop-line.rest.now c.in-Some.line.now c.in-Some.behind.now c.loop-line.above.items
      c.add_line.new.lines.items c.in-Ok.line
      c.in-Some.ensures.line (c.in-Ok.ensures).0 c.in_ok-add_line-in-Ok.ensures c.loop-line.invariant.lines;
  count =
      read_count c.args.text.now c.loop-line.rest.now c.in-Some.line.now c.in-Some.behind.now c.loop-line.number
      c.in-Some.ensures.line c.loop-line.invariant.count;
  few =
      few_kept c.args.text.now c.in-Some.behind.now
      (few_more c.args.text.now c.loop-line.rest.now c.in-Some.line.now c.in-Some.behind.now c.in-Ok.line
      c.in-Some.ensures.line (c.in-Ok.ensures).0 c.loop-line.invariant.few);
}

pub returns-in-None-clause-none : goal.returns-in-None-clause-none
returns-in-None-clause-none c =
    read_none c.args.text.now c.loop-line.rest.now c.loop-line.above.items c.deref-2.result.now c.loop-line.number
    c.in_default.ensures.line c.deref-2.ensures.value (sym c.in-None.is ∙ c.code_of_rest.ensures) c.loop-line.invariant.told

pub returns-in-None-clause-lines : goal.returns-in-None-clause-lines
returns-in-None-clause-lines c =
    read_all c.args.text.now c.loop-line.rest.now c.loop-line.above.items c.in_default.ensures.line c.loop-line.invariant.lines

pub returns-in-None-clause-kept : goal.returns-in-None-clause-kept
returns-in-None-clause-kept c =
    kept_as c.args.text.now c.loop-line.above.items (returns-in-None-clause-lines c) (returns-in-None-clause-none c)

pub returns-in-Some-code_of_rest-clause-told : goal.returns-in-Some-code_of_rest-clause-told
returns-in-Some-code_of_rest-clause-told c =
    read_rest c.args.text.now c.loop-line.rest.now c.loop-line.above.items c.deref-2.result.now c.loop-line.number
    c.in-Some-code_of_rest.code c.fault_at-in-Some-code_of_rest.result
    c.in_default.ensures.line c.deref-2.ensures.value (sym c.in-Some-code_of_rest.is ∙ c.code_of_rest.ensures)
    c.fault_at-in-Some-code_of_rest.ensures c.loop-line.invariant.told
