-- A file was opened and read, or was not opened and gave nothing.
use Rattle.m36_outside.proofs.FilesGiven.{refused_gives, refused_within}
use Rattle.m36_outside.proofs.Names.{not_read}
use Rattle.m36_outside.proofs.Signalled.{read_has_error, refused_has_error}
use Rattle.m36_outside.proofs.directory.read_file.Goals as goal

pub returns-in-Ok-clause-outside : goal.returns-in-Ok-clause-outside
returns-in-Ok-clause-outside g c =
    λ none. not_read c.args.name.now c.read_and_log.result c.in-Some.ensures.1 none

pub returns-in-Ok-clause-error : goal.returns-in-Ok-clause-error
returns-in-Ok-clause-error g c =
    read_has_error c.read_and_log.result c.args.name.now c.args.notes.now.errors.entries c.read_and_log.new.errors.entries c.read_and_log.ensures.error

pub returns-in-Err-clause-limit : goal.returns-in-Err-clause-limit
returns-in-Err-clause-limit g c = refused_within c.open_refusal.result c.kind-kind.result c.open_refusal.ensures

pub returns-in-Err-clause-outside : goal.returns-in-Err-clause-outside
returns-in-Err-clause-outside g c =
    λ none. not_read c.args.name.now c.open_refusal.result c.in-Some.ensures.1 none

pub returns-in-Err-clause-gives : goal.returns-in-Err-clause-gives
returns-in-Err-clause-gives g c =
    refused_gives c.open_refusal.result c.kind-kind.result c.args.notes.now.given.entries c.open_refusal.ensures

pub returns-in-Err-clause-error : goal.returns-in-Err-clause-error
returns-in-Err-clause-error g c =
    refused_has_error c.open_refusal.result c.kind-kind.result c.args.name.now c.args.notes.now.errors.entries c.note.new.self.entries c.open_refusal.ensures c.note.ensures
