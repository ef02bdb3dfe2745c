use Rattle.obj36.proofs.ReaderLaws.{refused, outline_stands, outline_first, never_read}
use Rattle.obj36.proofs.ObjectLaws.{object_refused, outline_value}
use Rattle.obj36.proofs.object.Object.read.Goals as goal

pub returns-in-Some-clause-says : goal.returns-in-Some-clause-says
returns-in-Some-clause-says c =
    refused c.args.w.now c.in-Some.fault (outline_first c.args.w.now c.in-Some.fault c.in-Some.ensures) (outline_stands c.args.w.now c.in-Some.fault c.in-Some.ensures)

pub returns-in-Some-clause-accepts : goal.returns-in-Some-clause-accepts
returns-in-Some-clause-accepts c = λ p s. never_read c.args.w.now c.in-Some.fault c.in-Some.ensures p s

pub returns-in-Some-clause-object : goal.returns-in-Some-clause-object
returns-in-Some-clause-object c =
    object_refused c.args.w.now c.in-Some.fault (outline_first c.args.w.now c.in-Some.fault c.in-Some.ensures) (outline_value c.args.w.now c.in-Some.fault c.in-Some.ensures)
