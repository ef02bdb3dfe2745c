use Rattle.std.proofs.Common.{ℕ, List, ◌++◌, ap, ◌∙◌}
use Rattle.std.specs.Prelude.{codes}
use Rattle.std.proofs.lemmas.Result.{on_ok_weaker}
use Rattle.m36_gen.specs.Lines.{line}
use Rattle.m36_gen.specs.Sources.{storing_lines}
use Rattle.m36_gen.proofs.Parts.{three}
use Rattle.m36_gen.proofs.programs.put_storing.Goals as goal

-- the lines that store, in order
pub returns : goal.returns
unfolding storing_lines
returns c =
    let old = c.args.text.now in
    on_ok_weaker c.put_line-3.result
    (λ third.
    third
    ∙ ap (λ (text : List ℕ). text ++ (line (codes " tnz loop"))) c.in_ok-put_line-2.ensures
    ∙ ap (λ (text : List ℕ). (text ++ (line (codes " eax2 -1,x2"))) ++ (line (codes " tnz loop"))) c.in_ok-put_line.ensures
    ∙ three old (line (codes " stx1 pr1|0,x2")) (line (codes " eax2 -1,x2")) (line (codes " tnz loop")))
    c.put_line-3.ensures
