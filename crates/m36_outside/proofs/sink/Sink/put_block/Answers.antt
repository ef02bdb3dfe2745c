-- One more piece was put, or a prefix of it, or none is left.
use Rattle.std.proofs.Common.{◌∙◌, ◌<◌, ◌≤◌, length, arith}
use Rattle.m36_outside.proofs.Blocks.{block_grew, block_took, block_cut, block_took_some, block_grew_all, block_took_all}
use Rattle.m36_outside.proofs.sink.Sink.put_block.Goals as goal

pub loop-place-preserved : goal.loop-place-preserved
loop-place-preserved g c =
    let written = g.Self.Sink.written in
    let taken = g.Self.Sink.taken in
    let pieces = c.args.block.now in
    let inside : c.loop-place.place < length pieces = omega arith in
    record {
      says = block_grew (written c.args.self.now) (written c.loop-place.self) (written c.put.new.self) pieces c.loop-place.place c.piece.result.now c.loop-place.invariant.says c.in-Done.ensures.says inside c.piece.ensures;
      took = block_took (taken c.args.self.now) (taken c.loop-place.self) (taken c.put.new.self) pieces c.loop-place.place c.piece.result.now c.loop-place.invariant.took c.in-Done.ensures.took inside c.piece.ensures;
      faults = c.in-Done.ensures.cause ∙ c.loop-place.invariant.faults;
      place = omega arith;
      bound = λ _. c.in-Done.ensures.count_bound;
    }

pub returns-in-Failed-clause-says : goal.returns-in-Failed-clause-says
returns-in-Failed-clause-says g c =
    let written = g.Self.Sink.written in
    let pieces = c.args.block.now in
    let inside : c.loop-place.place < length pieces = omega arith in
    block_cut (written c.args.self.now) (written c.loop-place.self) (written c.put.new.self) pieces c.loop-place.place c.piece.result.now c.loop-place.invariant.says c.in-Failed.ensures.says inside c.piece.ensures

pub returns-in-Failed-clause-took : goal.returns-in-Failed-clause-took
returns-in-Failed-clause-took g c =
    let written = g.Self.Sink.written in
    let taken = g.Self.Sink.taken in
    let pieces = c.args.block.now in
    let inside : c.loop-place.place < length pieces = omega arith in
    block_took_some (written c.loop-place.self) (written c.put.new.self) (taken c.args.self.now) (taken c.loop-place.self) (taken c.put.new.self) pieces c.loop-place.place c.piece.result.now c.loop-place.invariant.took c.in-Failed.ensures.took inside c.piece.ensures

pub returns-clause-says : goal.returns-clause-says
returns-clause-says g c =
    let written = g.Self.Sink.written in
    let pieces = c.args.block.now in
    let all : length pieces ≤ c.loop-place.place = omega arith in
    block_grew_all (written c.args.self.now) (written c.loop-place.self) pieces c.loop-place.place c.loop-place.invariant.says all

pub returns-clause-took : goal.returns-clause-took
returns-clause-took g c =
    let taken = g.Self.Sink.taken in
    let pieces = c.args.block.now in
    let all : length pieces ≤ c.loop-place.place = omega arith in
    block_took_all (taken c.args.self.now) (taken c.loop-place.self) pieces c.loop-place.place c.loop-place.invariant.took all
