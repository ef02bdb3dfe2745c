-- The log of the reader is appended to the log that was there.
use Rattle.m36_outside.proofs.FilesGiven.{opened_gives}
use Rattle.m36_outside.proofs.Signalled.{open_error_behind}
use Rattle.m36_outside.proofs.reading.read_and_log.Goals as goal

pub returns-clause-limit : goal.returns-clause-limit
returns-clause-limit g c = c.read_whole-answer.ensures.limit

pub returns-clause-gives : goal.returns-clause-gives
returns-clause-gives g c =
    opened_gives c.read_whole-answer.result c.args.given.now.entries c.note.new.self.entries c.new-from.result.given.entries c.read_whole-answer.new.from.given.entries
    c.read_whole-answer.ensures.gives c.new-from.ensures.given c.note.ensures

pub returns-clause-error : goal.returns-clause-error
returns-clause-error g c =
    open_error_behind c.read_whole-answer.result c.args.errors.now.entries c.note-2.new.self.entries c.new-from.result.errors.entries c.read_whole-answer.new.from.errors.entries
    c.read_whole-answer.ensures.error c.new-from.ensures.errors c.note-2.ensures
