use Rattle.std.proofs.Common.{refl, ◌/◌, arith, sym, ap, ◌∙◌, length-set}
use Rattle.m36_text.proofs.DigitLaws.{octal_none, octal_written, octal_left}
use Rattle.m36_text.proofs.numerals.octal_bytes.Goals as goal

pub loop-place-init : goal.loop-place-init
loop-place-init c = record { written = sym (octal_none c.args.v); len = refl; rest = omega arith }

pub loop-place-preserved : goal.loop-place-preserved
loop-place-preserved c =
    let at = c.loop-place in
    record {
      written = octal_written at.place c.args.v at.left at.bytes at.invariant.len (omega arith) at.invariant.rest at.invariant.written;
      len = length-set at.bytes _ _ ∙ at.invariant.len;
      rest = ap (λ n. n / 8) at.invariant.rest ∙ octal_left at.place c.args.v;
    }
