use Rattle.std.proofs.Common.{ℕ, ◌≡◌, ◌*◌, ◌≤◌, ◌∙◌, ap, sym, length, replicate, arith, Some}
use Rattle.std.proofs.lemmas.List.{length-map}
use lib.ListN.{length-replicate}
use Rattle.m36_core.specs.Places.{slot_values}
use Rattle.m36_core.proofs.Spliced.{slot_values-map, whole_map}
use Rattle.m36_core.proofs.memory.Core.new.Goals as goal

pub invariant_of-result : goal.invariant_of-result
invariant_of-result c =
    let n = c.args.frames * 1024 in
    let made = c.in_ok-base.ensures in
    let slots = c.clear.ensures.slots in
    let most : c.args.frames ≤ 16384 = c.requires.most in
    let words : slot_values c.clear.new.cells.slots ≡ replicate n 0 = ap slot_values slots ∙ slot_values-map (replicate n 0) in
    let size : length (slot_values c.clear.new.cells.slots) ≡ n = ap length words ∙ length-replicate n 0 in (
      record { whole = rw size (omega arith); most = rw size (omega arith) },
      record {
        places = sym (c.clear.ensures.at ∙ made.0);
        deed = made.2;
        size = made.3;
        filled = ap length slots ∙ length-map (replicate n 0) Some ∙ length-replicate n 0;
        whole = whole_map _ (replicate n 0) slots;
      },
      made.4,
    )

pub returns : goal.returns
returns c =
    let n = c.args.frames * 1024 in
    let same : c.args.frames * 1024 ≡ 1024 * c.args.frames = omega arith in
    ap slot_values c.clear.ensures.slots ∙ slot_values-map (replicate n 0) ∙ ap (λ (k : ℕ). replicate k 0) same
