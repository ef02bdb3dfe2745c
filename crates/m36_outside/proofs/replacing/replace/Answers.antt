-- The spare file was written and then renamed.
use Rattle.m36_outside.proofs.Replaced.{errors_after}
use Rattle.m36_outside.proofs.replacing.replace.Goals as goal

pub returns-in-Done-clause-error : goal.returns-in-Done-clause-error
returns-in-Done-clause-error g c =
    errors_after c.give_name.result c.args.notes.now.errors.entries c.fill-answer.new.notes.errors.entries c.give_name.new.notes.errors.entries c.in-Done.ensures.error c.give_name.ensures.error
