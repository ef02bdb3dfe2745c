use Rattle.std.proofs.Common.{ℕ, List, ◌++◌, ap, ◌∙◌}
use Rattle.std.specs.Prelude.{codes}
use Rattle.std.proofs.lemmas.Result.{on_ok_weaker}
use Rattle.m36_gen.specs.Lines.{line}
use Rattle.m36_gen.specs.Sources.{stop_lines}
use Rattle.m36_gen.proofs.Parts.{three}
use Rattle.m36_gen.proofs.programs.put_stop.Goals as goal

-- the lines of the gate, in order
pub returns : goal.returns
unfolding stop_lines
returns c =
    let old = c.args.text.now in
    on_ok_weaker c.put_line-3.result
    (λ third.
    third
    ∙ ap (λ (text : List ℕ). text ++ (line (codes " entrybound"))) c.in_ok-put_line-2.ensures
    ∙ ap (λ (text : List ℕ). (text ++ (line (codes "stop: dis 0"))) ++ (line (codes " entrybound"))) c.in_ok-put_line.ensures
    ∙ three old (line (codes " entry stop")) (line (codes "stop: dis 0")) (line (codes " entrybound")))
    c.put_line-3.ensures
