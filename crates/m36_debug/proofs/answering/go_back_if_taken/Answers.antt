use Rattle.std.proofs.Common.{sym, ◌∙◌}
use Rattle.m36_debug.specs.Putting.{pending}
use Rattle.m36_debug.specs.Session.{machine_relations}
use Rattle.m36_debug.proofs.AnswerLaws.{back_went, back_not}
use Rattle.m36_debug.proofs.answering.go_back_if_taken.Goals as goal

pub returns-then-has_taken-clause-says : goal.returns-then-has_taken-clause-says
returns-then-has_taken-clause-says g c =
    let world = g.W.World in
    let m = g.M.Stepper in
    back_went (machine_relations m.regs m.content m.next m.went) c.go_back.result c.args.n c.args.line.now c.args.sitting.now c.args.m.now c.go_back.new.sitting c.go_back.new.m (pending c.args.block.now (world.seen c.args.world.now)) (pending c.go_back.new.block (world.seen c.go_back.new.world)) (sym c.has_taken.ensures ∙ c.if-has_taken.true) c.go_back.ensures.says

pub returns-else-has_taken-clause-says : goal.returns-else-has_taken-clause-says
returns-else-has_taken-clause-says g c =
    let world = g.W.World in
    let m = g.M.Stepper in
    back_not (machine_relations m.regs m.content m.next m.went) c.put_unknown.result c.result_of_put.result c.args.n c.args.line.now c.args.sitting.now c.args.m.now (pending c.args.block.now (world.seen c.args.world.now)) (pending c.put_unknown.new.block (world.seen c.put_unknown.new.world)) (sym c.has_taken.ensures ∙ c.if-has_taken.false) c.put_unknown.ensures c.result_of_put.ensures
