-- One more signal interrupted the write.
use Rattle.std.proofs.Common.{◌≡◌, ℕ, [], ◌∷◌, ◌++◌, ◌≤◌, take, ap, subst, ◌∙◌, append-nil, rules, arith}
use Rattle.std.specs.Io.KnownBytes.{Appends}
use Rattle.std.specs.declared.io.ErrorKind.TheVariants.{Interrupted}
use Rattle.m36_outside.proofs.Appended.{keeps_by_nothing, appends_after}
use Rattle.m36_outside.proofs.Consumed.{keeps_on}
use Rattle.m36_outside.proofs.Signalled.{signals_same, signals_more, turns_more, gives_up_at, gives_up_last}
use Rattle.m36_outside.proofs.writing.write_some.Goals as goal

pub loop-turn-preserved : goal.loop-turn-preserved
loop-turn-preserved g c =
    let held = g.W.Write.contents in
    let start = c.args.notes.now.errors.entries in
    let now = c.loop-turn.notes.errors.entries in
    let next = c.write.new.self.errors.entries in
    let none : c.in-Some-eq0.field-0 ≡ 0 = first_of (search rules, grind arith) in
    let noted : c.write.new.self.errors.entries ≡ c.loop-turn.notes.errors.entries ++ Interrupted ∷ [] =
    c.in-Some-eq0.ensures.signal none in
    record {
      taken = subst (λ (n : ℕ). c.write.new.self.taken.entries ≡ c.loop-turn.notes.taken.entries ++ take n c.args.bytes.now) none c.in-Some-eq0.ensures.taken
          ∙ append-nil c.loop-turn.notes.taken.entries
          ∙ c.loop-turn.invariant.taken;
      inner = keeps_by_nothing (held c.args.writer.now) (held c.loop-turn.writer) (held c.write.new.writer) c.loop-turn.invariant.inner
          (subst (λ (n : ℕ). Appends (held c.loop-turn.writer) (held c.write.new.writer) (take n c.args.bytes.now)) none c.in-Some-eq0.ensures.inner);
      flushed = c.in-Some-eq0.ensures.flushed ∙ c.loop-turn.invariant.flushed;
      signals = signals_more start now next c.loop-turn.invariant.signals noted;
      turns = turns_more start now next Interrupted c.loop-turn._turn c.loop-turn.invariant.turns noted;
    }

-- Some bytes were written.
pub returns-in-Some-clause-taken : goal.returns-in-Some-clause-taken
returns-in-Some-clause-taken g c =
    c.in-Some.ensures.taken ∙ ap (λ l. l ++ take c.in-Some.count c.args.bytes.now) c.loop-turn.invariant.taken

pub returns-in-Some-clause-inner : goal.returns-in-Some-clause-inner
returns-in-Some-clause-inner g c =
    let held = g.W.Write.contents in
    appends_after (held c.args.writer.now) (held c.loop-turn.writer) (held c.write.new.writer) (take c.in-Some.count c.args.bytes.now) c.loop-turn.invariant.inner c.in-Some.ensures.inner

pub returns-in-Some-clause-sure : goal.returns-in-Some-clause-sure
returns-in-Some-clause-sure g c =
    let some : 1 ≤ c.in-Some.count = first_of (omega arith, search rules, grind arith) in
    signals_same c.args.notes.now.errors.entries c.loop-turn.notes.errors.entries c.write.new.self.errors.entries c.loop-turn.invariant.signals (c.in-Some.ensures.sure some)

-- The error is not a signal.
pub returns-in-None-clause-inner : goal.returns-in-None-clause-inner
returns-in-None-clause-inner g c =
    let held = g.W.Write.contents in
    keeps_on (held c.args.writer.now) (held c.loop-turn.writer) (held c.write.new.writer) c.loop-turn.invariant.inner c.in-None.ensures.inner

pub returns-in-None-clause-failed : goal.returns-in-None-clause-failed
returns-in-None-clause-failed g c =
    gives_up_at c.args.notes.now.errors.entries c.loop-turn.notes.errors.entries c.write.new.self.errors.entries c.loop-turn.invariant.signals c.in-None.ensures.failed

-- Each try was interrupted by a signal.
pub returns-clause-inner : goal.returns-clause-inner
returns-clause-inner g c = c.loop-turn.invariant.inner

pub returns-clause-failed : goal.returns-clause-failed
returns-clause-failed g c =
    gives_up_last c.args.notes.now.errors.entries c.loop-turn.notes.errors.entries c.loop-turn._turn c.loop-turn.invariant.signals c.loop-turn.invariant.turns (omega arith)
