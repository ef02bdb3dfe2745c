use Rattle.std.proofs.Common.{[], ◌∷◌, refl, sym, ap, subst}
use Rattle.m36_model.specs.Registers.{RegsFields}
use Rattle.m36_step.specs.declared.turns.BackAnswer.TheVariants as back
use Rattle.m36_debug.specs.Putting.{pending, PutsPieces}
use Rattle.m36_debug.specs.Session.{machine_relations, standing, Waiting}
use Rattle.m36_debug.specs.SessionTexts.{where_line}
use Rattle.m36_debug.specs.SessionState.{SessionStateFields}
use Rattle.m36_debug.proofs.AnswerLaws.{went_told, went_starved}
use Rattle.m36_debug.proofs.answering.go_back.Goals as goal

pub returns-in-Done-clause-says : goal.returns-in-Done-clause-says
returns-in-Done-clause-says g c =
    let world = g.W.World in
    let m = g.M.Stepper in
    went_told (machine_relations m.regs m.content m.next m.went) c.put_where.result c.result_of_put.result back.Done c.args.n c.args.line.now c.args.sitting.now c.note_back.new.self c.args.m.now c.back.new.self (pending c.args.block.now (world.seen c.args.world.now)) (pending c.put_where.new.block (world.seen c.put_where.new.world)) c.in-Done.ensures
    (ap (λ (t : SessionStateFields). standing t Waiting) (sym c.note_back.ensures))
    (subst (λ (r : RegsFields). PutsPieces c.put_where.result (where_line r.ppr ∷ []) (pending c.args.block.now (world.seen c.args.world.now)) (pending c.put_where.new.block (world.seen c.put_where.new.world))) c.regs.ensures c.put_where.ensures)
    c.result_of_put.ensures

pub returns-in-Before-clause-says : goal.returns-in-Before-clause-says
returns-in-Before-clause-says g c =
    let world = g.W.World in
    let m = g.M.Stepper in
    went_told (machine_relations m.regs m.content m.next m.went) c.put_unknown.result c.result_of_put-in-Before.result (back.Before c.in-Before.field-0) c.args.n c.args.line.now c.args.sitting.now c.args.sitting.now c.args.m.now c.back.new.self (pending c.args.block.now (world.seen c.args.world.now)) (pending c.put_unknown.new.block (world.seen c.put_unknown.new.world)) c.in-Before.ensures refl c.put_unknown.ensures c.result_of_put-in-Before.ensures

pub returns-in-Unable-clause-says : goal.returns-in-Unable-clause-says
returns-in-Unable-clause-says g c =
    let world = g.W.World in
    let m = g.M.Stepper in
    went_told (machine_relations m.regs m.content m.next m.went) c.put_unknown-in-Unable.result c.result_of_put-in-Unable.result back.Unable c.args.n c.args.line.now c.args.sitting.now c.args.sitting.now c.args.m.now c.back.new.self (pending c.args.block.now (world.seen c.args.world.now)) (pending c.put_unknown-in-Unable.new.block (world.seen c.put_unknown-in-Unable.new.world)) c.in-Unable.ensures refl c.put_unknown-in-Unable.ensures c.result_of_put-in-Unable.ensures

pub returns-in-NoMemory-clause-says : goal.returns-in-NoMemory-clause-says
returns-in-NoMemory-clause-says g c =
    let world = g.W.World in
    let m = g.M.Stepper in
    went_starved (machine_relations m.regs m.content m.next m.went) c.args.n c.args.line.now c.args.sitting.now c.args.m.now c.back.new.self (pending c.args.block.now (world.seen c.args.world.now)) c.in-NoMemory.ensures
