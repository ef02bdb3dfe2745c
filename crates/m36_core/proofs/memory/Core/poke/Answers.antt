use Rattle.std.proofs.Common.{◌≡◌, ◌∙◌, ap, sym, length, length-set, slice_set}
use Rattle.m36_core.specs.Places.{slot_values}
use Rattle.m36_core.proofs.Spliced.{slot_values-map, set_whole, whole_map}
use Rattle.m36_core.proofs.memory.Core.poke.Goals as goal

pub invariant_of-self : goal.invariant_of-self
invariant_of-self c =
    let slots = c.self.inside.cells.slots in
    let xs = slot_values slots in
    let block = c.self.invariant.1 in
    let core = c.self.invariant.0 in
    let whole = c.write.ensures.1 ∙ set_whole slots xs c.args.a c.args.w block.whole in
    let words : slot_values c.write.new.self.slots ≡ slice_set xs c.args.a c.args.w = ap slot_values whole ∙ slot_values-map (slice_set xs c.args.a c.args.w) in
    let size : length (slot_values c.write.new.self.slots) ≡ length xs = ap length words ∙ length-set xs c.args.a c.args.w in (
      record { whole = rw size core.whole; most = rw size core.most },
      record { places = block.places ∙ sym c.write.ensures.0; deed = block.deed; size = block.size; filled = ap length c.write.ensures.1 ∙ length-set slots c.args.a _ ∙ block.filled; whole = whole_map _ _ whole },
      c.self.invariant.2,
    )

pub returns : goal.returns
returns c =
    let slots = c.self.inside.cells.slots in
    let whole = c.write.ensures.1 ∙ set_whole slots (slot_values slots) c.args.a c.args.w c.self.invariant.1.whole in
    rw (← c.self.view_is) (ap slot_values whole ∙ slot_values-map (slice_set (slot_values slots) c.args.a c.args.w))
