use Rattle.std.proofs.Common.{◌∷◌, [], ◌++◌, sym}
use Rattle.m36_ea.specs.Points.{indirect_reference}
use Rattle.m36_ea.proofs.Runs.{odd_served}
use Rattle.m36_ea.proofs.indirect.odd_word.Goals as goal

pub returns-in-Ok-clause-serves : goal.returns-in-Ok-clause-serves
returns-in-Ok-clause-serves c =
    let before = c.args.refs.now.items ++ indirect_reference c.args.tpr.now c.args.word 1 ∷ [] in
    odd_served c.args.regs.now c.args.tpr.now c.args.word c.args.walk.now c.args.refs.now.items c.add_reference.new.refs.items c.read_odd_word.new.self.core c.in-Ok.odd c.at.result c.at.ensures
    ((c.in-Ok.ensures {u = tt}).serves c.args.regs.now (sym c.requires.dbr) (sym c.procedure_segment.ensures) [] before)
    (rw c.at-in-Ok.ensures at c.add_reference.ensures.items)
