-- The end line was added, and the line of a denied segment after it.
use Rattle.std.proofs.Common.{[], ◌∷◌, ◌++◌, subst, List, ℕ}
use Rattle.m36_text.specs.Lines.{as_line}
use Rattle.m36_program.specs.Gathered.{Gathers, Loses}
use Rattle.cmd_folder.specs.RunText.{finish_line, denied_pieces}
use Rattle.cmd_folder.proofs.BlockLaws.{adds_then, loses_more}
use Rattle.cmd_folder.proofs.lines.add_end_lines.Goals as goal

pub returns-in-Done : goal.returns-in-Done
returns-in-Done g c =
    let seen = g.W.World.seen in
    record {
      adds = adds_then c.add_denied_line.result c.args.block.now c.add_line.new.block c.add_denied_line.new.block (as_line (finish_line c.args.how.now c.args.steps) ∷ []) (denied_pieces c.args.denied.now c.args.how.now) _ _ _
          (subst (λ (l : List ℕ). Gathers c.args.block.now c.add_line.new.block (as_line l ∷ []) (seen c.args.world.now) (seen c.add_line.new.world)) c.finish_line.ensures.text c.in-Done.ensures.adds)
          c.add_denied_line.ensures.adds;
    }

pub returns-in-Failed : goal.returns-in-Failed
returns-in-Failed g c =
    let seen = g.W.World.seen in
    record {
      adds = loses_more c.args.block.now (as_line (finish_line c.args.how.now c.args.steps) ∷ []) (denied_pieces c.args.denied.now c.args.how.now) _ _
          (subst (λ (l : List ℕ). Loses (c.args.block.now ++ as_line l ∷ []) (seen c.args.world.now) (seen c.add_line.new.world)) c.finish_line.ensures.text c.in-Failed.ensures.adds);
    }
