-- A piece was taken and its lines were answered; the input has ended or failed; or there is too much of it.
use Rattle.std.proofs.Common.{◌≡◌, ◌==◌, false, ◌++◌, refl, sym, ap, subst, arith, take, length-take, Result}
use Rattle.std.proofs.lemmas.List.Elements.{All-nil}
use Rattle.m36_text.specs.Lines.{open_last_line}
use Rattle.m36_program.specs.Performs.{Performs}
use Rattle.m36_debug.specs.LinesTaken.{IsUnbroken}
use Rattle.m36_debug.specs.Session.{machine_relations, standing, Waiting}
use Rattle.m36_debug.specs.SessionProgram.{session, ended_by}
use Rattle.m36_debug.specs.SessionState.{SessionStateFields}
use Rattle.m36_debug.specs.declared.fault.SessionFault.{SessionFault}
use Rattle.m36_debug.specs.declared.machine_relations.LineResult.TheVariants as ends
use Rattle.m36_debug.proofs.SessionSteps.{session_starts, session_next, session_quits, session_starved, session_cut, unread, unread_last, input_ended, input_ended_last, one_too_many, says_empty, end_empty}
use Rattle.m36_debug.specs.SessionContract.{SessionContractInWorld}
use Rattle.m36_debug.proofs.HeldLaws.{held_start, held_on, held_quit, held_starved, held_cut, held_unread, held_too_long, held_end}
use Rattle.m36_debug.proofs.session.debug.Goals as goal

pub pieces-init : goal.pieces-init
pieces-init g c =
    let m = g.M.Stepper in
    let world = g.W.World in
    let o = machine_relations m.regs m.content m.next m.went in
    record {
      rest = session_starts o _ c.new-begun.result c.new-sitting.result c.args.m.now (world.seen c.args.world.now) refl c.new-begun.ensures c.new-sitting.ensures;
      held = held_start o _ c.new-begun.result c.new-sitting.result c.args.m.now (world.seen c.args.world.now) refl c.new-begun.ensures c.new-sitting.ensures;
      unbroken = subst IsUnbroken (sym c.new-begun.ensures) (All-nil (λ b. (b == 10) ≡ false));
      empty = c.new-block.ensures;
      taken = omega (arith, ap (λ (t : SessionStateFields). t.taken) c.new-sitting.ensures);
    }

pub pieces-preserved : goal.pieces-preserved
pieces-preserved g c =
    let m = g.M.Stepper in
    let world = g.W.World in
    let o = machine_relations m.regs m.content m.next m.went in
    let said = (says_empty o ends.Line (standing c.pieces.sitting Waiting) c.pieces.m (c.pieces.begun ++ take c.in-Got.count c.take_piece.new.buffer) c.reply_piece.new.begun c.reply_piece.new.sitting c.reply_piece.new.m c.pieces.block c.reply_piece.new.block (world.seen c.take_piece.new.world) (world.seen c.reply_piece.new.world) c.pieces.invariant.empty c.in-Line.ensures.empty c.in-Line.ensures.says) in
    record {
      rest = session_next o c.pieces.left c.in-Got.count c.pieces.begun c.reply_piece.new.begun c.take_piece.new.buffer c.pieces.sitting c.reply_piece.new.sitting c.pieces.m c.reply_piece.new.m (session o c.args.m.now) (world.seen c.args.world.now) (world.seen c.pieces.world) (world.seen c.take_piece.new.world) (world.seen c.reply_piece.new.world) c.pieces.invariant.rest c.pieces-test.true c.in-Got.ensures said;
      held = held_on o c.args.m.now c.pieces.m c.reply_piece.new.m c.pieces.left c.in-Got.count c.pieces.begun c.reply_piece.new.begun c.take_piece.new.buffer c.pieces.sitting c.reply_piece.new.sitting (world.seen c.args.world.now) (world.seen c.pieces.world) (world.seen c.take_piece.new.world) (world.seen c.reply_piece.new.world) c.pieces.invariant.held c.in-Got.ensures said;
      unbroken = said.unbroken;
      empty = c.in-Line.ensures.empty;
      taken = omega (arith, c.in-Line.ensures.taken, c.pieces.invariant.taken, c.in-Got.ensures.within, c.in-Got.ensures.room, length-take c.in-Got.count c.take_piece.new.buffer);
    }

pub returns-in-Quit-clause-performs : goal.returns-in-Quit-clause-performs
returns-in-Quit-clause-performs g c =
    let m = g.M.Stepper in
    let world = g.W.World in
    let o = machine_relations m.regs m.content m.next m.went in
    session_quits o c.pieces.left c.in-Got.count c.pieces.begun c.take_piece.new.buffer c.pieces.sitting c.reply_piece.new.sitting c.pieces.m c.reply_piece.new.m (session o c.args.m.now) (world.seen c.args.world.now) (world.seen c.pieces.world) (world.seen c.take_piece.new.world) (world.seen c.reply_piece.new.world) c.pieces.invariant.rest c.pieces-test.true c.in-Got.ensures
    (says_empty o ends.Quit (standing c.pieces.sitting Waiting) c.pieces.m (c.pieces.begun ++ take c.in-Got.count c.take_piece.new.buffer) c.reply_piece.new.begun c.reply_piece.new.sitting c.reply_piece.new.m c.pieces.block c.reply_piece.new.block (world.seen c.take_piece.new.world) (world.seen c.reply_piece.new.world) c.pieces.invariant.empty c.in-Quit.ensures.empty c.in-Quit.ensures.says)

pub returns-in-Starved-clause-performs : goal.returns-in-Starved-clause-performs
returns-in-Starved-clause-performs g c =
    let m = g.M.Stepper in
    let world = g.W.World in
    let o = machine_relations m.regs m.content m.next m.went in
    session_starved o c.pieces.left c.in-Got.count c.pieces.begun c.take_piece.new.buffer c.pieces.sitting c.pieces.m c.reply_piece.new.m (session o c.args.m.now) (world.seen c.args.world.now) (world.seen c.pieces.world) (world.seen c.take_piece.new.world) (world.seen c.reply_piece.new.world) c.pieces.invariant.rest c.pieces-test.true c.in-Got.ensures
    (says_empty o ends.Starved (standing c.pieces.sitting Waiting) c.pieces.m (c.pieces.begun ++ take c.in-Got.count c.take_piece.new.buffer) c.reply_piece.new.begun c.reply_piece.new.sitting c.reply_piece.new.m c.pieces.block c.reply_piece.new.block (world.seen c.take_piece.new.world) (world.seen c.reply_piece.new.world) c.pieces.invariant.empty c.in-Starved.ensures.empty c.in-Starved.ensures.says)

pub returns-in-Cut-clause-performs : goal.returns-in-Cut-clause-performs
returns-in-Cut-clause-performs g c =
    let m = g.M.Stepper in
    let world = g.W.World in
    let o = machine_relations m.regs m.content m.next m.went in
    session_cut o c.pieces.left c.in-Got.count c.pieces.begun c.take_piece.new.buffer c.pieces.sitting c.pieces.m c.reply_piece.new.m (session o c.args.m.now) (world.seen c.args.world.now) (world.seen c.pieces.world) (world.seen c.take_piece.new.world) (world.seen c.reply_piece.new.world) c.pieces.invariant.rest c.pieces-test.true c.in-Got.ensures
    (says_empty o ends.Cut (standing c.pieces.sitting Waiting) c.pieces.m (c.pieces.begun ++ take c.in-Got.count c.take_piece.new.buffer) c.reply_piece.new.begun c.reply_piece.new.sitting c.reply_piece.new.m c.pieces.block c.reply_piece.new.block (world.seen c.take_piece.new.world) (world.seen c.reply_piece.new.world) c.pieces.invariant.empty c.in-Cut.ensures.empty c.in-Cut.ensures.says)

pub returns-in-Failed-clause-performs : goal.returns-in-Failed-clause-performs
returns-in-Failed-clause-performs g c =
    let m = g.M.Stepper in
    let world = g.W.World in
    let o = machine_relations m.regs m.content m.next m.went in
    unread o c.pieces.left c.pieces.begun c.pieces.sitting c.pieces.m (session o c.args.m.now) (world.seen c.args.world.now) (world.seen c.pieces.world) (world.seen c.take_piece.new.world) c.pieces.invariant.rest c.pieces-test.true c.in-Failed.ensures

pub returns-in-Failed-take_piece-clause-performs : goal.returns-in-Failed-take_piece-clause-performs
returns-in-Failed-take_piece-clause-performs g c =
    let m = g.M.Stepper in
    let world = g.W.World in
    let o = machine_relations m.regs m.content m.next m.went in
    unread_last o c.pieces.left c.pieces.begun c.pieces.sitting c.pieces.m (session o c.args.m.now) (world.seen c.args.world.now) (world.seen c.pieces.world) (world.seen c.take_piece-2.new.world) c.pieces.invariant.rest (omega (arith, c.pieces-test.false)) c.in-Failed-take_piece.ensures

pub returns-in-End-clause-performs : goal.returns-in-End-clause-performs
returns-in-End-clause-performs g c =
    let m = g.M.Stepper in
    let world = g.W.World in
    let o = machine_relations m.regs m.content m.next m.went in
    subst (λ (r : Result (Unit {0}) SessionFault). Performs (session o c.args.m.now) (ended_by r) (world.seen c.args.world.now) (world.seen c.reply_last.new.world)) (sym c.session_result.ensures)
    (input_ended o c.pieces.left c.pieces.begun c.pieces.sitting c.pieces.m c.reply_last.result c.reply_last.new.sitting c.reply_last.new.m (session o c.args.m.now) (world.seen c.args.world.now) (world.seen c.pieces.world) (world.seen c.take_piece.new.world) (world.seen c.reply_last.new.world) c.pieces.invariant.rest c.pieces-test.true c.in-End.ensures
    (end_empty o c.reply_last.result (standing c.pieces.sitting Waiting) c.pieces.m (open_last_line c.pieces.begun) c.reply_last.new.sitting c.reply_last.new.m c.pieces.block c.reply_last.new.block (world.seen c.take_piece.new.world) (world.seen c.reply_last.new.world) c.pieces.invariant.empty c.reply_last.ensures.empty c.reply_last.ensures.says))

pub returns-in-End-take_piece-clause-performs : goal.returns-in-End-take_piece-clause-performs
returns-in-End-take_piece-clause-performs g c =
    let m = g.M.Stepper in
    let world = g.W.World in
    let o = machine_relations m.regs m.content m.next m.went in
    subst (λ (r : Result (Unit {0}) SessionFault). Performs (session o c.args.m.now) (ended_by r) (world.seen c.args.world.now) (world.seen c.reply_last-in-End-take_piece.new.world)) (sym c.session_result-in-End-take_piece.ensures)
    (input_ended_last o c.pieces.left c.pieces.begun c.pieces.sitting c.pieces.m c.reply_last-in-End-take_piece.result c.reply_last-in-End-take_piece.new.sitting c.reply_last-in-End-take_piece.new.m (session o c.args.m.now) (world.seen c.args.world.now) (world.seen c.pieces.world) (world.seen c.take_piece-2.new.world) (world.seen c.reply_last-in-End-take_piece.new.world) c.pieces.invariant.rest (omega (arith, c.pieces-test.false)) c.in-End-take_piece.ensures
    (end_empty o c.reply_last-in-End-take_piece.result (standing c.pieces.sitting Waiting) c.pieces.m (open_last_line c.pieces.begun) c.reply_last-in-End-take_piece.new.sitting c.reply_last-in-End-take_piece.new.m c.pieces.block c.reply_last-in-End-take_piece.new.block (world.seen c.take_piece-2.new.world) (world.seen c.reply_last-in-End-take_piece.new.world) c.pieces.invariant.empty c.reply_last-in-End-take_piece.ensures.empty c.reply_last-in-End-take_piece.ensures.says))

pub returns-clause-performs : goal.returns-clause-performs
returns-clause-performs g c =
    let m = g.M.Stepper in
    let world = g.W.World in
    let o = machine_relations m.regs m.content m.next m.went in
    one_too_many o c.pieces.left c.in-Got-take_piece.field-0 c.pieces.begun c.take_piece-2.new.buffer c.pieces.sitting c.pieces.m (session o c.args.m.now) (world.seen c.args.world.now) (world.seen c.pieces.world) (world.seen c.take_piece-2.new.world) c.pieces.invariant.rest (omega (arith, c.pieces-test.false)) c.in-Got-take_piece.ensures

pub returns-in-Quit-clause-says : goal.returns-in-Quit-clause-says
returns-in-Quit-clause-says g c =
    let m = g.M.Stepper in
    let world = g.W.World in
    let o = machine_relations m.regs m.content m.next m.went in
    held_quit o c.args.m.now c.pieces.m c.reply_piece.new.m c.pieces.left c.in-Got.count c.pieces.begun c.take_piece.new.buffer c.pieces.sitting c.reply_piece.new.sitting (world.seen c.args.world.now) (world.seen c.pieces.world) (world.seen c.take_piece.new.world) (world.seen c.reply_piece.new.world) c.pieces.invariant.held c.in-Got.ensures
    (says_empty o ends.Quit (standing c.pieces.sitting Waiting) c.pieces.m (c.pieces.begun ++ take c.in-Got.count c.take_piece.new.buffer) c.reply_piece.new.begun c.reply_piece.new.sitting c.reply_piece.new.m c.pieces.block c.reply_piece.new.block (world.seen c.take_piece.new.world) (world.seen c.reply_piece.new.world) c.pieces.invariant.empty c.in-Quit.ensures.empty c.in-Quit.ensures.says)

pub returns-in-Starved-clause-says : goal.returns-in-Starved-clause-says
returns-in-Starved-clause-says g c =
    let m = g.M.Stepper in
    let world = g.W.World in
    let o = machine_relations m.regs m.content m.next m.went in
    held_starved o c.args.m.now c.pieces.m c.reply_piece.new.m c.pieces.left c.in-Got.count c.pieces.begun c.take_piece.new.buffer c.pieces.sitting (world.seen c.args.world.now) (world.seen c.pieces.world) (world.seen c.take_piece.new.world) (world.seen c.reply_piece.new.world) c.pieces.invariant.held c.in-Got.ensures
    (says_empty o ends.Starved (standing c.pieces.sitting Waiting) c.pieces.m (c.pieces.begun ++ take c.in-Got.count c.take_piece.new.buffer) c.reply_piece.new.begun c.reply_piece.new.sitting c.reply_piece.new.m c.pieces.block c.reply_piece.new.block (world.seen c.take_piece.new.world) (world.seen c.reply_piece.new.world) c.pieces.invariant.empty c.in-Starved.ensures.empty c.in-Starved.ensures.says)

pub returns-in-Cut-clause-says : goal.returns-in-Cut-clause-says
returns-in-Cut-clause-says g c =
    let m = g.M.Stepper in
    let world = g.W.World in
    let o = machine_relations m.regs m.content m.next m.went in
    held_cut o c.args.m.now c.pieces.m c.reply_piece.new.m c.pieces.left c.in-Got.count c.pieces.begun c.take_piece.new.buffer c.pieces.sitting (world.seen c.args.world.now) (world.seen c.pieces.world) (world.seen c.take_piece.new.world) (world.seen c.reply_piece.new.world) c.pieces.invariant.held c.in-Got.ensures
    (says_empty o ends.Cut (standing c.pieces.sitting Waiting) c.pieces.m (c.pieces.begun ++ take c.in-Got.count c.take_piece.new.buffer) c.reply_piece.new.begun c.reply_piece.new.sitting c.reply_piece.new.m c.pieces.block c.reply_piece.new.block (world.seen c.take_piece.new.world) (world.seen c.reply_piece.new.world) c.pieces.invariant.empty c.in-Cut.ensures.empty c.in-Cut.ensures.says)

pub returns-in-Failed-clause-says : goal.returns-in-Failed-clause-says
returns-in-Failed-clause-says g c =
    let m = g.M.Stepper in
    let world = g.W.World in
    let o = machine_relations m.regs m.content m.next m.went in
    held_unread o c.args.m.now c.pieces.m c.pieces.left c.pieces.begun c.pieces.sitting (world.seen c.args.world.now) (world.seen c.pieces.world) (world.seen c.take_piece.new.world) c.pieces.invariant.held c.in-Failed.ensures

pub returns-in-Failed-take_piece-clause-says : goal.returns-in-Failed-take_piece-clause-says
returns-in-Failed-take_piece-clause-says g c =
    let m = g.M.Stepper in
    let world = g.W.World in
    let o = machine_relations m.regs m.content m.next m.went in
    held_unread o c.args.m.now c.pieces.m c.pieces.left c.pieces.begun c.pieces.sitting (world.seen c.args.world.now) (world.seen c.pieces.world) (world.seen c.take_piece-2.new.world) c.pieces.invariant.held c.in-Failed-take_piece.ensures

pub returns-in-End-clause-says : goal.returns-in-End-clause-says
returns-in-End-clause-says g c =
    let m = g.M.Stepper in
    let world = g.W.World in
    let o = machine_relations m.regs m.content m.next m.went in
    subst (λ (r : Result (Unit {0}) SessionFault). SessionContractInWorld o r c.args.m.now c.reply_last.new.m (world.seen c.args.world.now) (world.seen c.reply_last.new.world)) (sym c.session_result.ensures)
    (held_end o c.reply_last.result c.args.m.now c.pieces.m c.reply_last.new.m c.pieces.left c.pieces.begun c.pieces.sitting c.reply_last.new.sitting (world.seen c.args.world.now) (world.seen c.pieces.world) (world.seen c.take_piece.new.world) (world.seen c.reply_last.new.world) c.pieces.invariant.held c.in-End.ensures
    (end_empty o c.reply_last.result (standing c.pieces.sitting Waiting) c.pieces.m (open_last_line c.pieces.begun) c.reply_last.new.sitting c.reply_last.new.m c.pieces.block c.reply_last.new.block (world.seen c.take_piece.new.world) (world.seen c.reply_last.new.world) c.pieces.invariant.empty c.reply_last.ensures.empty c.reply_last.ensures.says))

pub returns-in-End-take_piece-clause-says : goal.returns-in-End-take_piece-clause-says
returns-in-End-take_piece-clause-says g c =
    let m = g.M.Stepper in
    let world = g.W.World in
    let o = machine_relations m.regs m.content m.next m.went in
    subst (λ (r : Result (Unit {0}) SessionFault). SessionContractInWorld o r c.args.m.now c.reply_last-in-End-take_piece.new.m (world.seen c.args.world.now) (world.seen c.reply_last-in-End-take_piece.new.world)) (sym c.session_result-in-End-take_piece.ensures)
    (held_end o c.reply_last-in-End-take_piece.result c.args.m.now c.pieces.m c.reply_last-in-End-take_piece.new.m c.pieces.left c.pieces.begun c.pieces.sitting c.reply_last-in-End-take_piece.new.sitting (world.seen c.args.world.now) (world.seen c.pieces.world) (world.seen c.take_piece-2.new.world) (world.seen c.reply_last-in-End-take_piece.new.world) c.pieces.invariant.held c.in-End-take_piece.ensures
    (end_empty o c.reply_last-in-End-take_piece.result (standing c.pieces.sitting Waiting) c.pieces.m (open_last_line c.pieces.begun) c.reply_last-in-End-take_piece.new.sitting c.reply_last-in-End-take_piece.new.m c.pieces.block c.reply_last-in-End-take_piece.new.block (world.seen c.take_piece-2.new.world) (world.seen c.reply_last-in-End-take_piece.new.world) c.pieces.invariant.empty c.reply_last-in-End-take_piece.ensures.empty c.reply_last-in-End-take_piece.ensures.says))

pub returns-clause-says : goal.returns-clause-says
returns-clause-says g c =
    let m = g.M.Stepper in
    let world = g.W.World in
    let o = machine_relations m.regs m.content m.next m.went in
    held_too_long o c.args.m.now c.pieces.m c.pieces.left c.in-Got-take_piece.field-0 c.pieces.begun c.take_piece-2.new.buffer c.pieces.sitting (world.seen c.args.world.now) (world.seen c.pieces.world) (world.seen c.take_piece-2.new.world) c.pieces.invariant.held (omega (arith, c.pieces-test.false)) c.in-Got-take_piece.ensures
