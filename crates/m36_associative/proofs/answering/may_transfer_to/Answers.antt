use Rattle.std.proofs.Common.{arith, ◌≤◌, ◌<◌}
use Rattle.m36_associative.proofs.Faces.{answers_go, fetch_goes}
use Rattle.m36_associative.proofs.answering.may_transfer_to.Goals as goal

pub returns-in-Some : goal.returns-in-Some
returns-in-Some c = λ t. (c.in-Some._found.0, fetch_goes c.args.core.now c.args.dbr c.args.ring c.args.seg c.args.word 1 c.in-Some._found.0 c.in-Some._found.1 c.in-Some.ensures)

pub returns-in-Some-page_with : goal.returns-in-Some-page_with
returns-in-Some-page_with c = λ t.
    let goes : (c.in-Some-page_with.page.now.r1 ≤ c.args.ring) × (c.args.ring < c.in-Some-page_with.page.now.fetch_below) = c.may_fetch_from.ensures t in
    (_, answers_go c.args.core.now c.args.dbr c.args.memories.now.words c.args.memories.now.tables c.in-Some-page_with.page.now c.args.seg c.args.word c.args.ring 1 c.in-Some-page_with.ensures.page (omega arith) c.in-Some-page_with.ensures.end goes.0 goes.1)
