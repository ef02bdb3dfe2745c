use Rattle.obj36.proofs.ObjectLaws.{no_value_of}
use Rattle.obj36.proofs.object.sections_if_encoded.Goals as goal

pub returns-then-not-is_well_formed-clause-value : goal.returns-then-not-is_well_formed-clause-value
returns-then-not-is_well_formed-clause-value c =
    no_value_of c.args.w.now c.args.parts.now c.is_well_formed.result c.requires.spelled c.is_well_formed.ensures c.if-not-is_well_formed.true
