use Rattle.std.proofs.Common.{◌≡◌, ◌+◌, ◌-◌, ◌*◌, ◌<◌, length, drop, arith, length-drop}
use Rattle.std.proofs.lemmas.List.{length-take-le}
use Rattle.m36_core.specs.Places.{slot_values}
use Rattle.m36_core.proofs.memory.Core.page.Goals as goal

pub returns-clause-words : goal.returns-clause-words
returns-clause-words c =
    let many : 1024 * c.args.f + 1024 - 1024 * c.args.f ≡ 1024 = omega arith in
    rw (many, ← c.self.view_is) c.slice.ensures

pub returns-clause-len : goal.returns-clause-len
returns-clause-len c =
    let core = slot_values c.self.inside.cells.slots in
    let whole = c.self.invariant.0.whole in
    let less : 1024 * c.args.f < length core = rw c.self.view_is c.requires in
    rw c.slice.ensures (length-take-le 1024 (drop (1024 * c.args.f) core) (omega (arith, length-drop (1024 * c.args.f) core)))
