use Rattle.std.proofs.Common.{◌∷◌}
use Rattle.m36_debug.specs.Putting.{pending}
use Rattle.m36_debug.specs.SessionTexts.{a_line, x_line, pointer_lines, regs_lines}
use Rattle.m36_debug.proofs.PutLaws.{puts_behind, puts_behind_cut, puts_first_cut}
use Rattle.m36_debug.proofs.registers.put_regs.Goals as goal

pub returns-in-Failed : goal.returns-in-Failed
unfolding regs_lines
returns-in-Failed g c =
    let world = g.W.World in
    let r = c.args.regs.now in
    puts_first_cut (pending c.args.block.now (world.seen c.args.world.now)) (pending c.put_a.new.block (world.seen c.put_a.new.world)) (a_line r) (x_line r ∷ pointer_lines 0 r.pr) c.in-Failed.ensures

pub returns-in-Failed-put_x : goal.returns-in-Failed-put_x
unfolding regs_lines
returns-in-Failed-put_x g c =
    let world = g.W.World in
    let r = c.args.regs.now in
    puts_behind_cut (pending c.args.block.now (world.seen c.args.world.now)) (pending c.put_a.new.block (world.seen c.put_a.new.world)) (pending c.put_x.new.block (world.seen c.put_x.new.world)) (a_line r) (x_line r ∷ pointer_lines 0 r.pr) c.in-Done.ensures
    (puts_first_cut (pending c.put_a.new.block (world.seen c.put_a.new.world)) (pending c.put_x.new.block (world.seen c.put_x.new.world)) (x_line r) (pointer_lines 0 r.pr) c.in-Failed-put_x.ensures)

pub returns : goal.returns
unfolding regs_lines
returns g c =
    let world = g.W.World in
    let r = c.args.regs.now in
    puts_behind c.put_pr.result (pending c.args.block.now (world.seen c.args.world.now)) (pending c.put_a.new.block (world.seen c.put_a.new.world)) (pending c.put_pr.new.block (world.seen c.put_pr.new.world)) (a_line r) (x_line r ∷ pointer_lines 0 r.pr) c.in-Done.ensures
    (puts_behind c.put_pr.result (pending c.put_a.new.block (world.seen c.put_a.new.world)) (pending c.put_x.new.block (world.seen c.put_x.new.world)) (pending c.put_pr.new.block (world.seen c.put_pr.new.world)) (x_line r) (pointer_lines 0 r.pr) c.in-Done-put_x.ensures c.put_pr.ensures)
