use Rattle.std.proofs.Common.{List, subst}
use Rattle.m36_model.specs.Step.{program}
use Rattle.m36_model.specs.declared.place.Reference.{Reference}
use Rattle.m36_step.specs.Ended.{EndsAs}
use Rattle.m36_step.proofs.shown.show_general_step.Goals as goal

pub returns-clause-ends : goal.returns-clause-ends
returns-clause-ends c =
    let g = c.args.regs.now in
    let ended = c.execute-ended in
    record {
      refs = ended.new.refs.items;
      ends =
          subst (λ (r : List Reference). EndsAs g (program g) c.args.walk.now.core r ended.new.walk.core ended.new.refs.items ended.new.regs ended.result)
          c.new-refs.ensures ended.ensures.ends;
    }
