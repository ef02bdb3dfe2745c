-- The bytes were read, or not.
use Rattle.m36_files.proofs.FileLaws.{words_read, words_unread}
use Rattle.m36_files.proofs.objects.read_words.Goals as goal

pub returns-in-Ok-clause-performs : goal.returns-in-Ok-clause-performs
returns-in-Ok-clause-performs g c = λ may.
    words_read may c.args.name.now c.in-Ok.text c.bytes.result.now c.words_in-given.result c.refusal_as_status.result _ _ (c.in-Ok.ensures.performs may) c.bytes.ensures c.words_in-given.ensures.gives c.refusal_as_status.ensures

pub returns-in-Err-clause-performs : goal.returns-in-Err-clause-performs
returns-in-Err-clause-performs g c = λ may.
    words_unread may c.args.name.now c.in-Err.status _ _ (c.in-Err.ensures.performs may)
