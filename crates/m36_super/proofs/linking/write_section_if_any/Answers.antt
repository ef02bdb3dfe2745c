use Rattle.std.proofs.Common.{◌≡◌}
use Rattle.std.specs.Prelude.{None}
use Rattle.m36_super.proofs.LinkPuts.{nothing_put}
use Rattle.m36_super.proofs.linking.write_section_if_any.Goals as goal

pub returns-in-None-clause-put : goal.returns-in-None-clause-put
returns-in-None-clause-put c =
    let is = c.in-None.is in
    let none : c.args.lay.now ≡ None = cc in
    nothing_put c.args.machine.now.state.store c.args.pager.now c.args.lay.now none c.requires.managed
