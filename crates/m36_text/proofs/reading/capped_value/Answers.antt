use Rattle.std.proofs.Common.{ℕ, ◌+◌, ◌-◌, ◌*◌, min, take, get_or, sym, arith, ◌∙◌, ap}
use Rattle.m36_text.proofs.ReadingLaws.{capped, number_none, number_step, all_digits}
use Rattle.m36_text.specs.Reading.{number_of}
use Rattle.m36_text.proofs.reading.capped_value.Goals as goal

pub loop-byte-init : goal.loop-byte-init
loop-byte-init c = rw (number_none c.args.base) (omega arith)

pub overflow_sub-byte : goal.overflow_sub-byte
overflow_sub-byte c = (all_digits c.args.base c.args.t.now c.loop-byte.byte-index c.requires.digits c.loop-byte-test.true).0

pub loop-byte-preserved : goal.loop-byte-preserved
loop-byte-preserved c =
    let base = c.args.base in
    let text = c.args.t.now in
    let at = c.loop-byte.byte-index in
    let digit : ℕ = get_or text at 0 - 48 in
    c.min-value.ensures
    ∙ (ap (λ v. min (v * base + digit) c.args.cap) c.loop-byte.invariant
    ∙ (capped (number_of base (take at text)) base digit c.args.cap c.requires.base.0
    ∙ ap (λ n. min n c.args.cap) (sym (number_step base text at c.loop-byte-test.true))))
