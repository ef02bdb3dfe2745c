use Rattle.m36_isol.proofs.CoreLaw.{lawful}
use Rattle.m36_isol.proofs.CoreMarks.{unmarked_word}
use Rattle.m36_isol.proofs.MarkFields.{marks_are_fields, unused_is_field}
use Rattle.m36_isol.proofs.law_store.Goals as goal

pub returns-clause-marks : goal.returns-clause-marks
returns-clause-marks c = unmarked_word

pub returns-clause-fields : goal.returns-clause-fields
returns-clause-fields c = marks_are_fields

pub returns-clause-unused : goal.returns-clause-unused
returns-clause-unused c = unused_is_field

pub returns-clause-store : goal.returns-clause-store
returns-clause-store c = lawful
