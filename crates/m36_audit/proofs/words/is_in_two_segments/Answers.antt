use Rattle.m36_audit.proofs.Conditions.{on_segment_decides}
use Rattle.m36_audit.proofs.words.is_in_two_segments.Goals as goal

pub returns : goal.returns
returns c = on_segment_decides c.args.core.now c.args.dbr c.args.a c.args.open_runs c.requires.inside c.requires.covered
