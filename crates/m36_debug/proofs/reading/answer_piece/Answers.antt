use Rattle.std.proofs.Common.{ℕ, List, ◌++◌, ◌==◌, false, ◌≡◌, ◌∙◌, sym, subst, arith}
use Rattle.std.proofs.lemmas.List.Elements.{All-nil, All-append}
use Rattle.m36_debug.specs.LinesTaken.{IsUnbroken}
use Rattle.m36_debug.specs.Putting.{pending}
use Rattle.m36_debug.specs.Session.{machine_relations, standing, Waiting}
use Rattle.m36_debug.proofs.PieceLaws.{SoFar, so_far_start, so_far_line, so_far_quit, so_far_starved, so_far_cut, so_far_unkept, so_far_all}
use Rattle.m36_debug.proofs.reading.answer_piece.Goals as goal

pub lines-init : goal.lines-init
lines-init g c =
    let world = g.W.World in
    let m = g.M.Stepper in
    record {
      told = so_far_start (machine_relations m.regs m.content m.next m.went) c.args.sitting.now c.args.m.now (c.args.begun.now ++ c.args.piece.now) (pending c.args.block.now (world.seen c.args.world.now));
      unbroken = c.requires.unbroken;
      count = omega arith;
    }

pub returns-in-Err-clause-says : goal.returns-in-Err-clause-says
returns-in-Err-clause-says g c =
    let world = g.W.World in
    let m = g.M.Stepper in
    so_far_unkept (machine_relations m.regs m.content m.next m.went) (standing c.args.sitting.now Waiting) c.args.m.now (c.args.begun.now ++ c.args.piece.now) (c.lines.begun ++ c.lines.rest.now) c.lines.sitting c.lines.m (pending c.args.block.now (world.seen c.args.world.now)) (pending c.lines.block (world.seen c.lines.world)) c.lines.invariant.told

pub returns-in-Quit-clause-says : goal.returns-in-Quit-clause-says
returns-in-Quit-clause-says g c =
    let world = g.W.World in
    let m = g.M.Stepper in
    so_far_quit (machine_relations m.regs m.content m.next m.went) (standing c.args.sitting.now Waiting) c.args.m.now (c.args.begun.now ++ c.args.piece.now) c.lines.begun c.in-Some.parts.0.now c.in-Some.parts.1.now c.lines.rest.now c.bytes.result.now c.lines.sitting c.answer.new.sitting c.lines.m c.answer.new.m (pending c.args.block.now (world.seen c.args.world.now)) (pending c.lines.block (world.seen c.lines.world)) (pending c.answer.new.block (world.seen c.answer.new.world)) c.lines.invariant.told c.lines.invariant.unbroken c.in-Some.ensures.parts.1 c.in-Some.ensures.parts.0 (c.bytes.ensures ∙ c.in-Ok.ensures.ok) c.in-Quit.ensures.says

pub returns-in-Starved-clause-says : goal.returns-in-Starved-clause-says
returns-in-Starved-clause-says g c =
    let world = g.W.World in
    let m = g.M.Stepper in
    so_far_starved (machine_relations m.regs m.content m.next m.went) (standing c.args.sitting.now Waiting) c.args.m.now (c.args.begun.now ++ c.args.piece.now) c.lines.begun c.in-Some.parts.0.now c.in-Some.parts.1.now c.lines.rest.now c.bytes.result.now c.lines.sitting c.answer.new.sitting c.lines.m c.answer.new.m (pending c.args.block.now (world.seen c.args.world.now)) (pending c.lines.block (world.seen c.lines.world)) (pending c.answer.new.block (world.seen c.answer.new.world)) c.lines.invariant.told c.lines.invariant.unbroken c.in-Some.ensures.parts.1 c.in-Some.ensures.parts.0 (c.bytes.ensures ∙ c.in-Ok.ensures.ok) c.in-Starved.ensures.says

pub returns-in-Cut-clause-says : goal.returns-in-Cut-clause-says
returns-in-Cut-clause-says g c =
    let world = g.W.World in
    let m = g.M.Stepper in
    so_far_cut (machine_relations m.regs m.content m.next m.went) (standing c.args.sitting.now Waiting) c.args.m.now (c.args.begun.now ++ c.args.piece.now) c.lines.begun c.in-Some.parts.0.now c.in-Some.parts.1.now c.lines.rest.now c.bytes.result.now c.lines.sitting c.answer.new.sitting c.lines.m c.answer.new.m (pending c.args.block.now (world.seen c.args.world.now)) (pending c.lines.block (world.seen c.lines.world)) (pending c.answer.new.block (world.seen c.answer.new.world)) c.lines.invariant.told c.lines.invariant.unbroken c.in-Some.ensures.parts.1 c.in-Some.ensures.parts.0 (c.bytes.ensures ∙ c.in-Ok.ensures.ok) c.in-Cut.ensures.says

pub lines-preserved : goal.lines-preserved
lines-preserved g c =
    let world = g.W.World in
    let m = g.M.Stepper in
    record {
      told =
          subst (λ (b : List ℕ). SoFar (machine_relations m.regs m.content m.next m.went) (standing c.args.sitting.now Waiting) c.args.m.now (c.args.begun.now ++ c.args.piece.now) (b ++ c.in-Some.parts.1.now) c.answer.new.sitting c.answer.new.m (pending c.args.block.now (world.seen c.args.world.now)) (pending c.answer.new.block (world.seen c.answer.new.world))) (sym c.new.ensures)
          (so_far_line (machine_relations m.regs m.content m.next m.went) (standing c.args.sitting.now Waiting) c.args.m.now (c.args.begun.now ++ c.args.piece.now) c.lines.begun c.in-Some.parts.0.now c.in-Some.parts.1.now c.lines.rest.now c.bytes.result.now c.lines.sitting c.answer.new.sitting c.lines.m c.answer.new.m (pending c.args.block.now (world.seen c.args.world.now)) (pending c.lines.block (world.seen c.lines.world)) (pending c.answer.new.block (world.seen c.answer.new.world)) c.lines.invariant.told c.lines.invariant.unbroken c.in-Some.ensures.parts.1 c.in-Some.ensures.parts.0 (c.bytes.ensures ∙ c.in-Ok.ensures.ok) c.in-Line.ensures.says);
      unbroken = subst IsUnbroken (sym c.new.ensures) (All-nil (λ b. (b == 10) ≡ false));
      count = omega (arith, c.in-Some.ensures.shorter, c.in-Line.ensures.taken, c.lines.invariant.count);
    }

pub returns-in-Ok-append-clause-says : goal.returns-in-Ok-append-clause-says
returns-in-Ok-append-clause-says g c =
    let world = g.W.World in
    let m = g.M.Stepper in
    so_far_all (machine_relations m.regs m.content m.next m.went) (standing c.args.sitting.now Waiting) c.args.m.now (c.args.begun.now ++ c.args.piece.now) (c.lines.begun ++ c.lines.rest.now) c.append-2.new.self c.lines.sitting c.lines.m (pending c.args.block.now (world.seen c.args.world.now)) (pending c.lines.block (world.seen c.lines.world)) c.lines.invariant.told c.in-Ok-append.ensures.ok
    (subst IsUnbroken (sym c.in-Ok-append.ensures.ok) (All-append (λ b. (b == 10) ≡ false) c.lines.begun c.lines.rest.now c.lines.invariant.unbroken c.in_default.ensures.parts))

pub returns-in-Err-append-clause-says : goal.returns-in-Err-append-clause-says
returns-in-Err-append-clause-says g c =
    let world = g.W.World in
    let m = g.M.Stepper in
    so_far_unkept (machine_relations m.regs m.content m.next m.went) (standing c.args.sitting.now Waiting) c.args.m.now (c.args.begun.now ++ c.args.piece.now) (c.lines.begun ++ c.lines.rest.now) c.lines.sitting c.lines.m (pending c.args.block.now (world.seen c.args.world.now)) (pending c.lines.block (world.seen c.lines.world)) c.lines.invariant.told
