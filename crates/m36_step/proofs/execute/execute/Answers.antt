use Rattle.std.proofs.Common.{refl, sym}
use Rattle.m36_step.proofs.Ends.{fetch_refused, fetches}
use Rattle.m36_step.proofs.execute.execute.Goals as goal

pub returns-in-Err-clause-ends : goal.returns-in-Err-clause-ends
returns-in-Err-clause-ends c =
    fetch_refused c.args.regs.now c.args.walk.now c.args.refs.now.items c.fetch.new.self.core (sym c.requires.dbr) c.in-Err.fault c.args.regs.now c.end_of_halt.result (rw c.here-here.ensures at (c.in-Err.ensures {u = tt}).serves) refl c.end_of_halt.ensures

pub returns-in-Ok-clause-ends : goal.returns-in-Ok-clause-ends
returns-in-Ok-clause-ends c =
    let ok = c.in-Ok.ensures {u = tt} in
    fetches c.args.regs.now c.args.walk.now c.args.refs.now.items c.fetch.new.self.core (sym c.requires.dbr) c.in-Ok.fetched.0 c.in-Ok.fetched.1 c.push.new.self.items c.decode_and_execute.new.walk.core c.decode_and_execute.new.refs.items c.decode_and_execute.new.regs c.decode_and_execute.result (rw c.here-here.ensures at ok.serves) (rw c.here-here.ensures at ok.privileged) (rw c.here-here.ensures at c.push.ensures.items) c.decode_and_execute.ensures.ends
