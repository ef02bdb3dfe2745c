use Rattle.std.proofs.Common.{ℕ, [], ◌∷◌, Option, refl, sym, subst}
use Rattle.m36_model.specs.Registers.{RegsFields}
use Rattle.m36_debug.specs.declared.commands.TurnCommand.TheVariants as commands
use Rattle.m36_debug.specs.declared.session_line.SessionLine.TheVariants as session
use Rattle.m36_debug.specs.Commands.{run_of, go_limit}
use Rattle.m36_debug.specs.Putting.{pending, PutsPieces}
use Rattle.m36_debug.specs.Session.{machine_relations}
use Rattle.m36_debug.specs.SessionTexts.{regs_lines, seg_line, where_line}
use Rattle.m36_debug.proofs.AnswerLaws.{took_at_once, took_command, took_back, took_quit, took_empty}
use Rattle.m36_debug.proofs.answering.answer.Goals as goal

pub returns-in-Step-clause-says : goal.returns-in-Step-clause-says
returns-in-Step-clause-says g c =
    let world = g.W.World in
    let m = g.M.Stepper in
    took_command (machine_relations m.regs m.content m.next m.went) c.run_command_unless_ended.result (run_of commands.Step c.in-Step.left) c.args.sitting.now c.args.m.now c.args.line.now (session.Step c.in-Step.left) c.run_command_unless_ended.new.sitting c.run_command_unless_ended.new.m (pending c.args.block.now (world.seen c.args.world.now)) (pending c.run_command_unless_ended.new.block (world.seen c.run_command_unless_ended.new.world)) (sym c.in-Step.ensures.value) refl refl refl c.run_command_unless_ended.ensures.says

pub returns-in-Go-clause-says : goal.returns-in-Go-clause-says
returns-in-Go-clause-says g c =
    let world = g.W.World in
    let m = g.M.Stepper in
    took_command (machine_relations m.regs m.content m.next m.went) c.run_command_unless_ended-in-Go.result (run_of commands.Go go_limit) c.args.sitting.now c.args.m.now c.args.line.now session.Go c.run_command_unless_ended-in-Go.new.sitting c.run_command_unless_ended-in-Go.new.m (pending c.args.block.now (world.seen c.args.world.now)) (pending c.run_command_unless_ended-in-Go.new.block (world.seen c.run_command_unless_ended-in-Go.new.world)) (sym c.in-Go.ensures.value) refl refl refl c.run_command_unless_ended-in-Go.ensures.says

pub returns-in-Break-clause-says : goal.returns-in-Break-clause-says
returns-in-Break-clause-says g c =
    let world = g.W.World in
    let m = g.M.Stepper in
    took_at_once (machine_relations m.regs m.content m.next m.went) c.add_break.result c.result_of_put.result c.args.sitting.now c.args.m.now c.args.line.now (session.Break c.in-Break.seg c.in-Break.word) c.add_break.new.sitting (pending c.args.block.now (world.seen c.args.world.now)) (pending c.add_break.new.block (world.seen c.add_break.new.world)) c.in-Break.ensures.value refl c.add_break.ensures.sitting
    c.add_break.ensures.puts
    c.result_of_put.ensures

pub returns-in-Regs-clause-says : goal.returns-in-Regs-clause-says
returns-in-Regs-clause-says g c =
    let world = g.W.World in
    let m = g.M.Stepper in
    took_at_once (machine_relations m.regs m.content m.next m.went) c.put_regs.result c.result_of_put-in-Regs.result c.args.sitting.now c.args.m.now c.args.line.now session.Regs c.args.sitting.now (pending c.args.block.now (world.seen c.args.world.now)) (pending c.put_regs.new.block (world.seen c.put_regs.new.world)) c.in-Regs.ensures.value refl refl
    (subst (λ (r : RegsFields). PutsPieces c.put_regs.result (regs_lines r) (pending c.args.block.now (world.seen c.args.world.now)) (pending c.put_regs.new.block (world.seen c.put_regs.new.world))) c.regs.ensures c.put_regs.ensures)
    c.result_of_put-in-Regs.ensures

pub returns-in-Seg-clause-says : goal.returns-in-Seg-clause-says
returns-in-Seg-clause-says g c =
    let world = g.W.World in
    let m = g.M.Stepper in
    took_at_once (machine_relations m.regs m.content m.next m.went) c.put_seg.result c.result_of_put-in-Seg.result c.args.sitting.now c.args.m.now c.args.line.now (session.Seg c.in-Seg.seg c.in-Seg.word) c.args.sitting.now (pending c.args.block.now (world.seen c.args.world.now)) (pending c.put_seg.new.block (world.seen c.put_seg.new.world)) c.in-Seg.ensures.value refl refl
    (subst (λ (w : Option ℕ). PutsPieces c.put_seg.result (seg_line c.in-Seg.seg c.in-Seg.word w ∷ []) (pending c.args.block.now (world.seen c.args.world.now)) (pending c.put_seg.new.block (world.seen c.put_seg.new.world))) c.content.ensures c.put_seg.ensures)
    c.result_of_put-in-Seg.ensures

pub returns-in-Where-clause-says : goal.returns-in-Where-clause-says
returns-in-Where-clause-says g c =
    let world = g.W.World in
    let m = g.M.Stepper in
    took_at_once (machine_relations m.regs m.content m.next m.went) c.put_where.result c.result_of_put-in-Where.result c.args.sitting.now c.args.m.now c.args.line.now session.Where c.args.sitting.now (pending c.args.block.now (world.seen c.args.world.now)) (pending c.put_where.new.block (world.seen c.put_where.new.world)) c.in-Where.ensures.value refl refl
    (subst (λ (r : RegsFields). PutsPieces c.put_where.result (where_line r.ppr ∷ []) (pending c.args.block.now (world.seen c.args.world.now)) (pending c.put_where.new.block (world.seen c.put_where.new.world))) c.regs-in-Where.ensures c.put_where.ensures)
    c.result_of_put-in-Where.ensures

pub returns-in-Back-clause-says : goal.returns-in-Back-clause-says
returns-in-Back-clause-says g c =
    let world = g.W.World in
    let m = g.M.Stepper in
    took_back (machine_relations m.regs m.content m.next m.went) c.go_back_if_taken.result c.in-Back.n c.args.sitting.now c.args.m.now c.args.line.now c.go_back_if_taken.new.sitting c.go_back_if_taken.new.m (pending c.args.block.now (world.seen c.args.world.now)) (pending c.go_back_if_taken.new.block (world.seen c.go_back_if_taken.new.world)) (sym c.in-Back.ensures.value) c.go_back_if_taken.ensures.says

pub returns-in-Quit-clause-says : goal.returns-in-Quit-clause-says
returns-in-Quit-clause-says g c =
    let world = g.W.World in
    let m = g.M.Stepper in
    took_quit (machine_relations m.regs m.content m.next m.went) c.args.sitting.now c.args.m.now c.args.line.now (pending c.args.block.now (world.seen c.args.world.now)) (sym c.in-Quit.ensures.value)

pub returns-in-Empty-clause-says : goal.returns-in-Empty-clause-says
returns-in-Empty-clause-says g c =
    let world = g.W.World in
    let m = g.M.Stepper in
    took_empty (machine_relations m.regs m.content m.next m.went) c.args.sitting.now c.args.m.now c.args.line.now (pending c.args.block.now (world.seen c.args.world.now)) (sym c.in-Empty.ensures.value)

pub returns-in-Unknown-clause-says : goal.returns-in-Unknown-clause-says
returns-in-Unknown-clause-says g c =
    let world = g.W.World in
    let m = g.M.Stepper in
    took_at_once (machine_relations m.regs m.content m.next m.went) c.put_unknown.result c.result_of_put-in-Unknown.result c.args.sitting.now c.args.m.now c.args.line.now session.Unknown c.args.sitting.now (pending c.args.block.now (world.seen c.args.world.now)) (pending c.put_unknown.new.block (world.seen c.put_unknown.new.world)) c.in-Unknown.ensures.value refl refl
    c.put_unknown.ensures
    c.result_of_put-in-Unknown.ensures
