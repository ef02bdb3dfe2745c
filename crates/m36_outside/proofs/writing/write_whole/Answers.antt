-- One more write was made, or gave up; or everything is written, and flushed or not.
use Rattle.std.proofs.Common.{◌≤◌, Some, length, ap, ◌∙◌, arith}
use Rattle.m36_outside.proofs.Appended.{grows_more, grows_part, grows_whole, appends_more, appends_kept, appends_whole}
use Rattle.m36_outside.proofs.Signalled.{signals_on, gives_up_on}
use Rattle.m36_outside.proofs.writing.write_whole.Goals as goal

pub loop-done-preserved : goal.loop-done-preserved
loop-done-preserved g c =
    let held = g.W.Write.contents in
    let start = c.args.notes.now in
    let now = c.loop-done.notes in
    let next = c.write_from.new.notes in
    let bytes = c.args.bytes.now in
    let done = c.loop-done.done in
    let count = c.in-Some.count in
    record {
      taken = grows_more start.taken.entries now.taken.entries next.taken.entries bytes done count c.loop-done.invariant.taken c.in-Some.ensures.taken;
      inner = appends_more (held c.args.writer.now) (held c.loop-done.writer) (held c.write_from.new.writer) bytes done count c.loop-done.invariant.inner c.in-Some.ensures.inner;
      flushed = c.in-Some.ensures.flushed ∙ c.loop-done.invariant.flushed;
      signals = signals_on start.errors.entries now.errors.entries next.errors.entries c.loop-done.invariant.signals c.in-Some.ensures.sure;
      room = omega (arith, c.in-Some.ensures.bound);
    }

-- The last write gave up.
pub returns-in-None-clause-taken : goal.returns-in-None-clause-taken
returns-in-None-clause-taken g c =
    grows_part c.args.notes.now.taken.entries c.write_from.new.notes.taken.entries c.args.bytes.now c.loop-done.done (c.in-None.ensures.taken ∙ c.loop-done.invariant.taken)

pub returns-in-None-clause-inner : goal.returns-in-None-clause-inner
returns-in-None-clause-inner g c =
    let held = g.W.Write.contents in
    appends_kept (held c.args.writer.now) (held c.loop-done.writer) (held c.write_from.new.writer) c.args.bytes.now c.loop-done.done c.loop-done.invariant.inner c.in-None.ensures.inner

pub returns-in-None-clause-error : goal.returns-in-None-clause-error
returns-in-None-clause-error g c =
    gives_up_on c.args.notes.now.errors.entries c.loop-done.notes.errors.entries c.write_from.new.notes.errors.entries c.loop-done.invariant.signals c.in-None.ensures.failed

-- Everything was written and flushed.
pub returns-then-flush-clause-taken : goal.returns-then-flush-clause-taken
returns-then-flush-clause-taken g c =
    let all : length c.args.bytes.now ≤ c.loop-done.done = omega arith in
    ap (λ l. Some l) (grows_whole c.args.notes.now.taken.entries c.flush.new.self.taken.entries c.args.bytes.now c.loop-done.done (c.flush.ensures.taken ∙ c.loop-done.invariant.taken) all)

pub returns-then-flush-clause-inner : goal.returns-then-flush-clause-inner
returns-then-flush-clause-inner g c =
    let held = g.W.Write.contents in
    let all : length c.args.bytes.now ≤ c.loop-done.done = omega arith in
    appends_whole (held c.args.writer.now) (held c.loop-done.writer) (held c.flush.new.writer) c.args.bytes.now c.loop-done.done c.loop-done.invariant.inner c.flush.ensures.inner all

pub returns-then-flush-clause-error : goal.returns-then-flush-clause-error
returns-then-flush-clause-error g c =
    signals_on c.args.notes.now.errors.entries c.loop-done.notes.errors.entries c.flush.new.self.errors.entries c.loop-done.invariant.signals c.if-flush.ensures.sure

-- The flush gave up.
pub returns-else-flush-clause-taken : goal.returns-else-flush-clause-taken
returns-else-flush-clause-taken g c =
    grows_part c.args.notes.now.taken.entries c.flush.new.self.taken.entries c.args.bytes.now c.loop-done.done (c.flush.ensures.taken ∙ c.loop-done.invariant.taken)

pub returns-else-flush-clause-inner : goal.returns-else-flush-clause-inner
returns-else-flush-clause-inner g c =
    let held = g.W.Write.contents in
    appends_kept (held c.args.writer.now) (held c.loop-done.writer) (held c.flush.new.writer) c.args.bytes.now c.loop-done.done c.loop-done.invariant.inner c.flush.ensures.inner

pub returns-else-flush-clause-error : goal.returns-else-flush-clause-error
returns-else-flush-clause-error g c =
    gives_up_on c.args.notes.now.errors.entries c.loop-done.notes.errors.entries c.flush.new.self.errors.entries c.loop-done.invariant.signals c.if-flush.ensures.failed
