use Rattle.std.proofs.Common.{sym, ap, ◌∙◌}
use Rattle.std.specs.Prelude.{is_some}
use Rattle.m36_page.proofs.Frames.{marked_free}
use Rattle.m36_page.proofs.choice.is_skipped.Goals as goal

pub returns-in-Some-clause-marks : goal.returns-in-Some-clause-marks
returns-in-Some-clause-marks c =
    marked_free c.args.references.now c.args.holder c.args.core.now c.clear_used.new.core c.args.spot (ap is_some c.in-Some.is)
    (sym c.is_pinned.ensures ∙ c.if-is_pinned.false) c.clear_used.ensures
