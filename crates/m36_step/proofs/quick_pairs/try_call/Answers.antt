use Rattle.std.proofs.Common.{sym, ap, []}
use Rattle.m36_model.specs.Registers.{RegsFields}
use Rattle.m36_step.proofs.GoingOn.{call_on}
use Rattle.m36_step.proofs.quick_pairs.try_call.Goals as goal

pub returns-clause-went : goal.returns-clause-went
returns-clause-went g c = λ _.
    let regs = c.args.regs.now in
    let ok = rw c.final_at.ensures at (c.in-Ok.ensures {u = tt}) in
    rw ok.same (call_on (g.R.Recorder.has c.args.rec.now) (g.R.Recorder.tells c.end.new.self) c.args.row.now c.args.regs.now c.args.word c.args.last.now c.requires.plain c.requires.row c.args.walk.now (sym c.requires.dbr) c.call_in_place.new.regs c.requires.group c.in-Ok.ring (λ refs. ok.serves regs (sym c.requires.dbr) (ap (λ (x : RegsFields). x.ppr.psr) (sym c.regs.view_is), ap (λ (x : RegsFields). x.ppr.prr) (sym c.regs.view_is)) [] refs []) ok.ring c.call_in_place.ensures.value
    (λ refs has. c.end.ensures.tells refs has))
