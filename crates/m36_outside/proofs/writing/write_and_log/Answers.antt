-- The log of the writer is appended to the log that was there.
use Rattle.m36_outside.proofs.Signalled.{put_error_behind}
use Rattle.m36_outside.proofs.Takes.{put_result_after}
use Rattle.m36_outside.proofs.writing.write_and_log.Goals as goal

pub returns-clause-taken : goal.returns-clause-taken
returns-clause-taken g c =
    put_result_after c.write_whole-answer.result c.args.taken.now.entries c.note.new.self.entries c.new-notes.result.taken.entries c.write_whole-answer.new.notes.taken.entries c.args.bytes.now
    c.write_whole-answer.ensures.taken c.new-notes.ensures.taken c.note.ensures

pub returns-clause-error : goal.returns-clause-error
returns-clause-error g c =
    put_error_behind c.write_whole-answer.result c.args.errors.now.entries c.note-2.new.self.entries c.new-notes.result.errors.entries c.write_whole-answer.new.notes.errors.entries
    c.write_whole-answer.ensures.error c.new-notes.ensures.errors c.note-2.ensures

pub returns-clause-inner : goal.returns-clause-inner
returns-clause-inner g c = c.write_whole-answer.ensures.inner
