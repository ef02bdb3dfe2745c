use Rattle.std.proofs.Common.{refl, arith}
use Rattle.m36_trace.proofs.Numbers.{digits_put}
use Rattle.m36_trace.proofs.parts.put_digits.Goals as goal

pub returns-clause-text : goal.returns-clause-text
returns-clause-text c =
    digits_put c.args.bytes.now c.args.digits.now c.copy_from_slice.new.self _ c.copy_from_slice.ensures.after refl c.requires.some (omega arith)
