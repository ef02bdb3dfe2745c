-- The world still has the same three references, so its final values are theirs.
use Rattle.std.proofs.Common.{rules, ap, get_or}
use Rattle.outside_tests.proofs.Shown.{shown, through_at}
use Rattle.outside_tests.proofs.world.show_from.Goals as goal

pub returns-clause-through : goal.returns-clause-through
returns-clause-through g c =
    let all = shown _ _ _ _ c.show.ensures in
    let folder = ap (λ l. get_or l 0 0) all.references in
    let output = ap (λ l. get_or l 2 0) all.references in
    let begun = c.new-world.ensures in
    through_at c.show.result c.args.name.now _ _ _ _ _ _ _ _ all.through
    (ap g.F.Folder.asked begun.folder) (search rules) (ap g.S.Sink.taken begun.output) (search rules)

pub returns-clause-wrote : goal.returns-clause-wrote
returns-clause-wrote g c =
    let all = shown _ _ _ _ c.show.ensures in
    let folder = ap (λ l. get_or l 0 0) all.references in
    let is = all.writes in
    search rules

pub returns-clause-given : goal.returns-clause-given
returns-clause-given g c =
    let all = shown _ _ _ _ c.show.ensures in
    let input = ap (λ l. get_or l 1 0) all.references in
    let is = all.inputs in
    search rules
