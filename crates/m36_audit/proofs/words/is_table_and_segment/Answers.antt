use Rattle.std.proofs.Common.{sym, subst}
use Rattle.std.specs.Prelude.{Bool}
use Rattle.std.specs.Bool.{Decides}
use Rattle.m36_model.specs.Audit.{IsTableAndSegment}
use Rattle.m36_audit.proofs.Conditions.{on_table_decides}
use Rattle.m36_audit.proofs.words.is_table_and_segment.Goals as goal

pub returns : goal.returns
returns c =
    subst (λ (b : Bool). Decides b (IsTableAndSegment c.args.core.now c.args.dbr c.args.a)) (sym c.is_segment_and_table.ensures)
    (on_table_decides c.args.core.now c.args.dbr c.args.marks.now.tables c.args.marks.now.least c.args.a c.args.open_runs c.at.result c.requires.marked c.requires.inside c.requires.covered c.at.ensures)
