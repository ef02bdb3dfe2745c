use Rattle.std.proofs.Common.{sym}
use Rattle.m36_debug.proofs.LinesLaws.{cut_there}
use Rattle.m36_debug.proofs.piece.cut_line.Goals as goal

pub returns-in-Some-clause-parts : goal.returns-in-Some-clause-parts
returns-in-Some-clause-parts c = cut_there c.args.text.now c.in-Some.end (sym c.in-Some.ensures.place)
