use Rattle.std.proofs.Common.{sym, ap, ◌∙◌, ℕ, List, slice_set}
use Rattle.m36_step.proofs.TallyWords.{store_counted_on}
use Rattle.m36_step.proofs.quick_counted.try_store_with_tally.Goals as goal

pub returns-clause-went : goal.returns-clause-went
returns-clause-went g c = λ _.
    let some = rw c.final_at-at.ensures at (c.in-Some.ensures {u = tt}) in
    let tally = rw some.same at c.store.ensures.core in
    let core = c.store-2.ensures.core ∙ ap (λ (x : List ℕ). slice_set x c.in-Some.place c.store_word-stored.result) tally in
    let effect = rw c.set_tally.ensures.value at c.store_word-stored.ensures.value in
    store_counted_on (g.R.Recorder.has c.args.rec.now) (g.R.Recorder.tells c.end.new.self) c.args.row.now c.args.regs.now c.args.word c.args.counting.now c.requires.plain c.requires.row c.args.walk.now (sym c.requires.dbr) c.store_word-stored.new.regs c.requires.group c.in-Some.place c.store_word-stored.result c.store-2.new.self.core some.serves effect core
    (λ refs has. c.end.ensures.tells _ (rw c.final_at-at.ensures at (c.refer.ensures.has refs has)))
