use Rattle.std.proofs.Common.{rules, arith, ◌≡◌, []}
use Rattle.std.proofs.lemmas.Grind.{common_steps}
use Rattle.alm_asm.proofs.PlaceLaws.{words_counted}
use Rattle.alm_asm.proofs.words.words_in.Goals as goal

pub returns-clause-count : goal.returns-clause-count
returns-clause-count c = λ can.
    let none : c.loop-rest.rest.now ≡ [] = first_of (search rules, grind (arith, common_steps)) in
    words_counted c.args.text.now c.args.tables.now c.args.section c.args.lines.now c.loop-rest.words c.loop-rest.spot c.loop-rest.rest.now none
    c.loop-rest.invariant.whole can
