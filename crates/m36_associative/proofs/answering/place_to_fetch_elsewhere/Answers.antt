use Rattle.std.proofs.Common.{rules, arith, ◌≤◌, ◌<◌}
use Rattle.m36_associative.proofs.Faces.{answers_fetch}
use Rattle.m36_associative.proofs.answering.place_to_fetch_elsewhere.Goals as goal

pub returns-clause-found : goal.returns-clause-found
returns-clause-found c =
    let goes : (c.in_ok-page.field-0.now.r1 ≤ c.args.ring) × (c.args.ring < c.in_ok-page.field-0.now.fetch_below) = search rules in
    rw c.place_in-place.ensures (answers_fetch c.args.core.now c.args.dbr c.args.memories.now.words c.args.memories.now.tables c.in_ok-page.field-0.now c.args.seg c.args.word c.args.ring 1 c.in_ok-page.ensures.page (omega arith) c.in_ok-page.ensures.end goes.0 goes.1)
