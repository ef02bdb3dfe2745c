-- The object is packed, and printed.
use Rattle.std.proofs.Common.{[], ◌∷◌, Ok, sym, ap, ◌∙◌}
use Rattle.m36_list.specs.Print.{print_of}
use Rattle.cmd_tools.specs.Reports.{ReportFields}
use Rattle.cmd_tools.proofs.binding.report_of.Goals as goal

pub returns : goal.returns
returns c =
    let name = c.args.name.now in
    let object = c.args.object.now in
    ap (λ (t : ReportFields). Ok t)
    (sym
    (c.in_ok-report.ensures
    ∙ (λ i. record { sets = record { name = name; content = c.in_ok-content.ensures i } ∷ []; text = (c.in_ok-text.ensures ∙ ap (λ n. print_of n object) c.bytes.ensures.value) i })))
