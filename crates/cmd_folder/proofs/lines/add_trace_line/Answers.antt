-- The line that was pushed is that of the step.
use Rattle.std.proofs.Common.{[], ◌∷◌, ◌++◌, List, ℕ, refl, ap, ◌∙◌}
use Rattle.m36_text.specs.Lines.{as_line}
use Rattle.m36_model.specs.Shown.{shown_of}
use Rattle.m36_trace.specs.TraceLine.{line_of}
use Rattle.m36_trace.proofs.Lines.{shown_is}
use Rattle.m36_program.proofs.Gathered.{gathers_here}
use Rattle.cmd_folder.proofs.lines.add_trace_line.Goals as goal

pub returns-then-push_shown : goal.returns-then-push_shown
returns-then-push_shown g c =
    let told = c.args.told.now in
    record {
      adds = gathers_here c.args.block.now c.push_shown.new.block (as_line (line_of c.args.n told) ∷ []) _
          (c.if-push_shown.ensures.done ∙ ap (λ (l : List ℕ). c.args.block.now ++ as_line l ∷ []) (shown_is c.args.n told (shown_of told) told.after refl refl));
    }
