-- The file's name is a copy of the name.
use Rattle.std.proofs.Common.{◌≡◌, [], ◌∷◌, ◌∙◌}
use Rattle.std.proofs.lemmas.Result.{IfOk-weaker}
use Rattle.cmd_tools.specs.Reports.{ReportFields}
use Rattle.cmd_tools.proofs.report.report_file.Goals as goal

pub returns : goal.returns
returns c =
    IfOk-weaker c.of_file.result (λ (t : ReportFields). t ≡ record { sets = record { name = c.copied.result; content = c.args.content } ∷ []; text = c.args.text })
    (λ (t : ReportFields). t ≡ record { sets = record { name = c.args.name.now; content = c.args.content } ∷ []; text = c.args.text })
    (λ t is. is ∙ (λ i. record { sets = record { name = c.copied.ensures i; content = c.args.content } ∷ []; text = c.args.text }))
    c.of_file.ensures
