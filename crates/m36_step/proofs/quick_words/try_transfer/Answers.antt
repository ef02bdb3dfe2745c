use Rattle.std.proofs.Common.{sym, ap, ◌∙◌, List, []}
use Rattle.m36_model.specs.Fields.{AtFields}
use Rattle.m36_model.specs.Step.{no_operand}
use Rattle.m36_model.specs.declared.place.Reference.{Reference}
use Rattle.m36_step.proofs.GoingOn.{stays_on, target_on}
use Rattle.m36_step.proofs.quick_words.try_transfer.Goals as goal

pub returns-then-not-is_taken-clause-went : goal.returns-then-not-is_taken-clause-went
returns-then-not-is_taken-clause-went g c = λ _.
    stays_on (g.R.Recorder.has c.args.rec.now) (g.R.Recorder.tells c.end.new.self) c.args.row.now c.args.regs.now c.args.word c.args.last.now c.requires.plain c.requires.row c.args.walk.now (sym c.requires.dbr) c.transfer.new.regs c.requires.group (sym c.if-not-is_taken.true ∙ c.is_taken.ensures) (sym (c.transfer.ensures.value c.args.row.now.reg no_operand))
    (λ refs has. c.end.ensures.tells refs has)

pub returns-clause-went : goal.returns-clause-went
returns-clause-went g c = λ _.
    let ring = sym (ap (λ (a : AtFields). a.ring) c.at.view_is) ∙ c.if-at-procedure_ring.false ∙ c.procedure_ring.ensures in
    let served = λ (refs : List Reference). rw c.final_at-at.ensures at (c.quick_transfer.ensures c.if-not-quick_transfer.false c.args.regs.now (sym c.requires.dbr) (sym ring) [] refs []) in
    target_on (g.R.Recorder.has c.args.rec.now) (g.R.Recorder.tells c.end-2.new.self) c.args.row.now c.args.regs.now c.args.word c.args.last.now c.requires.plain c.requires.row c.args.walk.now (sym c.requires.dbr) c.transfer-2.new.regs c.requires.group (sym c.if-not-is_taken.false ∙ c.is_taken.ensures) served (sym (c.transfer-2.ensures.value c.args.row.now.reg no_operand))
    (λ refs has. c.end-2.ensures.tells refs has)
