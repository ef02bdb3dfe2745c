use Rattle.std.proofs.Common.{◌≡◌, ◌+◌, ◌-◌, ◌*◌, ◌<◌, ◌∙◌, ap, sym, refl, length, map, drop, arith, length-drop, Some, List, ℕ}
use Rattle.std.proofs.lemmas.List.{length-take-le, length-map}
use Rattle.m36_core.specs.Places.{slot_values, overwritten}
use Rattle.m36_core.proofs.Spliced.{slot_values-map, whole_map, length-overwritten}
use Rattle.m36_core.proofs.memory.Core.page_mut.Goals as goal

pub invariant_of-self-lent : goal.invariant_of-self-lent
invariant_of-self-lent c = λ w.
    let slots = c.self.inside.cells.slots in
    let xs = slot_values slots in
    let block = c.self.invariant.1 in
    let core = c.self.invariant.0 in
    let now = overwritten xs (1024 * c.args.f) w in
    let size : length (slot_values (map Some now)) ≡ length xs = ap length (slot_values-map now) ∙ length-overwritten xs w (1024 * c.args.f) in
    let many : length (map Some now) ≡ length slots = length-map now Some ∙ length-overwritten xs w (1024 * c.args.f) ∙ sym (length-map xs Some) ∙ sym (ap length block.whole) in (
      record { whole = rw size core.whole; most = rw size core.most },
      record { places = block.places; deed = block.deed; size = block.size; filled = many ∙ block.filled; whole = whole_map _ now refl },
      c.self.invariant.2,
    )

pub returns : goal.returns
returns c =
    let xs = slot_values c.self.inside.cells.slots in
    let first = 1024 * c.args.f in
    let many : first + 1024 - first ≡ 1024 = omega arith in
    let whole = c.self.invariant.0.whole in
    let less : first < length xs = rw c.self.view_is c.requires in
    let value = c.slice_mut.ensures.value in (
      (refl, λ w. slot_values-map (overwritten xs first w) ∙ ap (λ (l : List ℕ). overwritten l first w) c.self.view_is),
      record {
        lends = tt;
        words = rw (many, ← c.self.view_is) value;
        len = rw value (length-take-le 1024 (drop first xs) (omega (arith, length-drop first xs)));
      },
    )
