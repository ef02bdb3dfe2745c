-- A link that is in the list keeps its index, and another is added at the end.
use Rattle.std.proofs.Common.{rules, ◌≡◌, List, [], ◌∷◌, ◌++◌, length, Some, None, sym, ap, ◌∙◌}
use Rattle.std.specs.List.{position}
use Rattle.m36_text.specs.Once.{appended_unless}
use Rattle.obj36_parts.specs.Fields.{LinkFields}
use Rattle.obj36_parts.specs.Indexes.{same_link}
use Rattle.alm_asm.proofs.LinkPlaces.{has_some, has_none, placed_last}
use Rattle.alm_asm.proofs.links.add_link.Goals as goal

pub returns-in-Some-clause-links : goal.returns-in-Some-clause-links
returns-in-Some-clause-links c =
    let links = c.args.links.now in
    let at : position (same_link c.args.link) links ≡ Some c.in-Some.place = first_of (search rules, cc) in
    sym (ap (λ b. appended_unless b links c.args.link) (has_some c.args.link links c.in-Some.place at))

pub returns-clause-links : goal.returns-clause-links
returns-clause-links c =
    let links = c.args.links.now in
    let none : position (same_link c.args.link) links ≡ None = first_of (search rules, cc) in
    let pushed : c.push.new.self ≡ links ++ c.args.link ∷ [] = first_of (search rules, cc) in
    pushed ∙ sym (ap (λ b. appended_unless b links c.args.link) (has_none c.args.link links none))

pub returns-clause-place : goal.returns-clause-place
returns-clause-place c =
    let links = c.args.links.now in
    let none : position (same_link c.args.link) links ≡ None = first_of (search rules, cc) in
    let pushed : c.push.new.self ≡ links ++ c.args.link ∷ [] = first_of (search rules, cc) in
    placed_last c.args.link links c.push.new.self none pushed ∙ ap (λ (xs : List LinkFields). Some (length xs)) (sym c.items.ensures)
