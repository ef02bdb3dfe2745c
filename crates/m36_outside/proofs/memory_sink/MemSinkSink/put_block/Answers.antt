-- One more piece was put, or a prefix of it.
use Rattle.std.proofs.Common.{◌∙◌, ◌<◌, ◌≤◌, length, arith}
use Rattle.std.specs.Prelude.{Some}
use Rattle.m36_outside.proofs.Blocks.{block_grew, block_took, block_cut, block_took_some, block_grew_all, block_took_all}
use Rattle.m36_outside.proofs.MemoryBlocks.{after_on, fails_on, after_cut, fails_cut, after_all, fails_all}
use Rattle.m36_outside.proofs.memory_sink.MemSinkSink.put_block.Goals as goal

pub loop-place-preserved : goal.loop-place-preserved
loop-place-preserved c =
    let start = c.args.self.now in
    let now = c.loop-place.self in
    let next = c.put.new.self in
    let pieces = c.args.block.now in
    let inside : c.loop-place.place < length pieces = grind arith in
    record {
      says = block_grew (Some start.bytes) (Some now.bytes) (Some next.bytes) pieces c.loop-place.place c.piece.result.now c.loop-place.invariant.says c.in-Done.ensures.says inside c.piece.ensures;
      took = block_took start.pieces now.pieces next.pieces pieces c.loop-place.place c.piece.result.now c.loop-place.invariant.took c.in-Done.ensures.took inside c.piece.ensures;
      faults = c.in-Done.ensures.cause ∙ c.loop-place.invariant.faults;
      place = omega arith;
      bound = λ _. c.in-Done.ensures.count_bound;
      after = after_on start now next pieces c.loop-place.place c.piece.result.now c.loop-place.invariant.after c.in-Done.ensures.fails c.in-Done.ensures.after inside c.piece.ensures;
      fails = fails_on start now next pieces c.loop-place.place c.piece.result.now c.loop-place.invariant.fails c.in-Done.ensures.fails c.in-Done.ensures.after inside c.piece.ensures;
    }

pub returns-in-Failed-clause-says : goal.returns-in-Failed-clause-says
returns-in-Failed-clause-says c =
    let pieces = c.args.block.now in
    let inside : c.loop-place.place < length pieces = grind arith in
    block_cut (Some c.args.self.now.bytes) (Some c.loop-place.self.bytes) (Some c.put.new.self.bytes) pieces c.loop-place.place c.piece.result.now c.loop-place.invariant.says c.in-Failed.ensures.says inside c.piece.ensures

pub returns-in-Failed-clause-after : goal.returns-in-Failed-clause-after
returns-in-Failed-clause-after c =
    let pieces = c.args.block.now in
    let inside : c.loop-place.place < length pieces = grind arith in
    after_cut c.args.self.now c.loop-place.self c.put.new.self pieces c.loop-place.place c.piece.result.now c.loop-place.invariant.after c.in-Failed.ensures.fails c.in-Failed.ensures.after inside c.piece.ensures

pub returns-in-Failed-clause-took : goal.returns-in-Failed-clause-took
returns-in-Failed-clause-took c =
    let pieces = c.args.block.now in
    let inside : c.loop-place.place < length pieces = grind arith in
    block_took_some (Some c.loop-place.self.bytes) (Some c.put.new.self.bytes) c.args.self.now.pieces c.loop-place.self.pieces c.put.new.self.pieces pieces c.loop-place.place c.piece.result.now c.loop-place.invariant.took c.in-Failed.ensures.took inside c.piece.ensures

pub returns-in-Failed-clause-fails : goal.returns-in-Failed-clause-fails
returns-in-Failed-clause-fails c =
    let pieces = c.args.block.now in
    let inside : c.loop-place.place < length pieces = grind arith in
    fails_cut c.args.self.now c.loop-place.self pieces c.loop-place.place c.piece.result.now c.loop-place.invariant.fails c.in-Failed.ensures.fails inside c.piece.ensures

-- All pieces were put.
pub returns-clause-says : goal.returns-clause-says
returns-clause-says c =
    let pieces = c.args.block.now in
    let all : length pieces ≤ c.loop-place.place = grind arith in
    block_grew_all (Some c.args.self.now.bytes) (Some c.loop-place.self.bytes) pieces c.loop-place.place c.loop-place.invariant.says all

pub returns-clause-took : goal.returns-clause-took
returns-clause-took c =
    let pieces = c.args.block.now in
    let all : length pieces ≤ c.loop-place.place = grind arith in
    block_took_all c.args.self.now.pieces c.loop-place.self.pieces pieces c.loop-place.place c.loop-place.invariant.took all

pub returns-clause-after : goal.returns-clause-after
returns-clause-after c =
    let pieces = c.args.block.now in
    let all : length pieces ≤ c.loop-place.place = grind arith in
    after_all c.args.self.now c.loop-place.self pieces c.loop-place.place c.loop-place.invariant.after all

pub returns-clause-fails : goal.returns-clause-fails
returns-clause-fails c =
    let pieces = c.args.block.now in
    let all : length pieces ≤ c.loop-place.place = grind arith in
    fails_all c.args.self.now c.loop-place.self pieces c.loop-place.place c.loop-place.invariant.fails all
