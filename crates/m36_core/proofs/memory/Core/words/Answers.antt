use Rattle.std.proofs.Common.{◌≤◌, ◌∙◌, length, arith}
use Rattle.std.proofs.lemmas.List.{take_all}
use Rattle.m36_core.specs.Places.{slot_values}
use Rattle.m36_core.proofs.Spliced.{length-slot_values}
use Rattle.m36_core.proofs.memory.Core.words.Goals as goal

pub returns : goal.returns
returns c =
    let block = c.self.invariant.1 in
    let enough : length (slot_values c.self.inside.cells.slots) ≤ c.self.inside.count = omega (arith, length-slot_values c.self.inside.cells.slots block.whole, block.filled) in
    c.slice.ensures ∙ take_all c.self.inside.count (slot_values c.self.inside.cells.slots) enough ∙ c.self.view_is
