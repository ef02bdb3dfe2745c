-- The logged error is a signal, or it is not.
use Rattle.m36_outside.proofs.Signalled.{noted_signal, noted_fault}
use Rattle.m36_outside.proofs.logged.note_error.Goals as goal

pub returns-clause-signal : goal.returns-clause-signal
returns-clause-signal c =
    noted_signal c.is_signal.result c.kind-kind.result c.args.errors.now.entries c.note.new.self.entries c.is_signal.ensures c.note.ensures

pub returns-clause-fault : goal.returns-clause-fault
returns-clause-fault c =
    noted_fault c.is_signal.result c.kind-kind.result c.args.errors.now.entries c.note.new.self.entries c.is_signal.ensures c.note.ensures
