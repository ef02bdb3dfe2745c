use Rattle.m36_word.proofs.FieldLaws.{gets_what_was_put, keeps_other_bits, replaces_first_put}
use Rattle.m36_word.proofs.field.field_laws.Goals as goal

pub returns-clause-get : goal.returns-clause-get
returns-clause-get _ = gets_what_was_put

pub returns-clause-others : goal.returns-clause-others
returns-clause-others _ = keeps_other_bits

pub returns-clause-again : goal.returns-clause-again
returns-clause-again _ = replaces_first_put
