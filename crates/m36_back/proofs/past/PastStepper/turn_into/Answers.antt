use Rattle.std.proofs.Common.{arith}
use Rattle.m36_back.proofs.KeptLaws.{stepped_history}
use Rattle.m36_back.proofs.past.PastStepper.turn_into.Goals as goal

pub invariant_of-self : goal.invariant_of-self
invariant_of-self g c =
    let turns = g.met.M.Replay.turns c.self.inside.machine c.turn_into.new.turn c.turn_into.new.self c.turn_into.ensures in
    let one = rw c.in-Stepped.is at c.count-self-inside.ensures in
    stepped_history g.M.Replay.after c.self.inside.first c.self.inside.machine c.turn_into.new.self c.self.inside.taken c.count-self-inside.result c.self.inside.kept.items c.keep-self-inside.new.kept.items c.self.invariant turns.1 one (omega arith) (c.keep-self-inside.ensures c.self.inside.first)
