use Rattle.std.proofs.Common.{◌++◌, ◌∷◌, [], ap, ◌∙◌}
use Rattle.m36_dir.proofs.LineLoops.{further_more, further_all, further_none}
use Rattle.m36_dir.proofs.building.add_names.Goals as goal

pub returns-in_default : goal.returns-in_default
returns-in_default c =
    further_none c.loop-line.names _ c.args.lines.now c.loop-line.line-index c.line-item.result
    c.loop-line-test.true c.line-item.is c.in_default.not-Name c.loop-line.invariant

pub loop-line-preserved : goal.loop-line-preserved
loop-line-preserved c =
    further_more c.loop-line.names c.push.new.self _ c.args.lines.now c.loop-line.line-index c.line-item.result _
    c.loop-line-test.true c.line-item.is c.in-Name.is (c.in_ok-push-in-Name.ensures.ok ∙ ap (λ n. c.loop-line.names ++ n ∷ []) c.copied.ensures) c.loop-line.invariant

pub returns : goal.returns
returns c = further_all c.loop-line.names _ c.args.lines.now c.loop-line.line-index c.loop-line-test.false c.loop-line.invariant
