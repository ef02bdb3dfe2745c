-- The line is that of the step that was taken, and the outcome is its outcome.
use Rattle.std.proofs.Common.{List, ℕ, [], ◌∷◌, ◌++◌, rules, sym, ap, subst, ◌∙◌}
use Rattle.m36_text.specs.Lines.{as_line}
use Rattle.m36_model.specs.declared.record.Shown.{Shown}
use Rattle.m36_trace.proofs.Lines.{shown_is}
use Rattle.m36_program.specs.Gathered.{Gathers, Loses}
use Rattle.cmd_image.specs.Machine.{step_record}
use Rattle.cmd_image.proofs.running.take_step.Goals as goal

pub returns-in-Failed-clause-says : goal.returns-in-Failed-clause-says
returns-in-Failed-clause-says g c =
    let seen = g.W.World.seen in
    subst (λ (l : List ℕ). Loses (c.args.block.now ++ as_line l ∷ []) (seen c.args.world.now) (seen c.add_step_line.new.world))
    (shown_is c.args.n (step_record c.args.machine.now.state) c.step_shown.new.shown c.regs.result.now c.step_shown.ensures.shown (c.regs.ensures ∙ c.step_shown.ensures.after))
    c.in-Failed.ensures.adds

pub returns-in-Next-clause-says : goal.returns-in-Next-clause-says
returns-in-Next-clause-says g c =
    let seen = g.W.World.seen in
    record {
      outcome_is = sym (ap (λ (s : Shown). s.outcome) c.step_shown.ensures.shown) ∙ c.in-Next.is;
      added =
          subst (λ (l : List ℕ). Gathers c.args.block.now c.add_step_line.new.block (as_line l ∷ []) (seen c.args.world.now) (seen c.add_step_line.new.world))
          (shown_is c.args.n (step_record c.args.machine.now.state) c.step_shown.new.shown c.regs.result.now c.step_shown.ensures.shown (c.regs.ensures ∙ c.step_shown.ensures.after))
          c.in-Done.ensures.adds;
    }

pub returns-in-Faulted-clause-says : goal.returns-in-Faulted-clause-says
returns-in-Faulted-clause-says g c =
    let seen = g.W.World.seen in
    record {
      last = search rules;
      stepped = record {
        outcome_is = sym (ap (λ (s : Shown). s.outcome) c.step_shown.ensures.shown);
        added =
            subst (λ (l : List ℕ). Gathers c.args.block.now c.add_step_line.new.block (as_line l ∷ []) (seen c.args.world.now) (seen c.add_step_line.new.world))
            (shown_is c.args.n (step_record c.args.machine.now.state) c.step_shown.new.shown c.regs.result.now c.step_shown.ensures.shown (c.regs.ensures ∙ c.step_shown.ensures.after))
            c.in-Done.ensures.adds;
      };
    }
