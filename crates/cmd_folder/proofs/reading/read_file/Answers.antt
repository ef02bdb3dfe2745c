-- The file was read, or not.
use Rattle.m36_files.proofs.EachLaws.{onto_read, onto_unread}
use Rattle.m36_files.specs.FileReaders.{file_words}
use Rattle.cmd_folder.proofs.reading.read_file.Goals as goal

pub returns-in-Ok-clause-performs : goal.returns-in-Ok-clause-performs
returns-in-Ok-clause-performs g c = λ may.
    onto_read may file_words c.args.files c.args.name.now c.in-Ok.words c.with_file.result c.refusal_as_status.result _ _ (c.in-Ok.ensures.performs may) c.with_file.ensures.gives c.refusal_as_status.ensures

pub returns-in-Err-clause-performs : goal.returns-in-Err-clause-performs
returns-in-Err-clause-performs g c = λ may.
    onto_unread may file_words c.args.files c.args.name.now c.in-Err.status _ _ (c.in-Err.ensures.performs may)
