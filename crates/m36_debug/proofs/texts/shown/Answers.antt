use Rattle.std.proofs.Common.{sym, arith}
use Rattle.std.proofs.lemmas.List.{length-take-le}
use Rattle.m36_debug.proofs.texts.shown.Goals as goal

pub slice_bounds-result-end : goal.slice_bounds-result-end
slice_bounds-result-end c =
    let over = c.if-line-le-SHOWN.false in
    sym (length-take-le 64 c.args.line.now (omega arith))

pub returns-else-line-le-SHOWN-clause-len : goal.returns-else-line-le-SHOWN-clause-len
returns-else-line-le-SHOWN-clause-len c =
    let over = c.if-line-le-SHOWN.false in
    omega (arith, length-take-le 64 c.args.line.now (omega arith))
