-- The links so far are the first of all links.
use Rattle.std.proofs.Common.{rules, arith, ◌≡◌, ◌∷◌}
use Rattle.std.proofs.lemmas.Grind.{common_steps}
use Rattle.alm_asm.specs.Growth.{with_definitions, growth_after_line}
use Rattle.alm_asm.specs.Definitions.{defines_entries}
use Rattle.alm_asm.proofs.SeenLaws.{first_links, first_kept, grown_links}
use Rattle.alm_asm.proofs.growth.count_line.Goals as goal

pub count_link-requires-clause-first : goal.count_link-requires-clause-first
count_link-requires-clause-first c =
    let text = c.args.text.now in
    let symbols = c.args.symbols.now in
    let line = c.args.line.now in
    let old = c.args.growth.now in
    let after : c.count_definitions.new.growth ≡ with_definitions text symbols line old (defines_entries line.deed) = first_of (search rules, cc) in
    first_kept text symbols line old c.count_definitions.new.growth c.args.links.now
    (first_links text symbols old.links c.args.links.now c.args.spot (line ∷ c.args._more.now) c.requires.links) after

pub returns-clause-links : goal.returns-clause-links
unfolding growth_after_line
returns-clause-links c =
    let text = c.args.text.now in
    let symbols = c.args.symbols.now in
    let line = c.args.line.now in
    let old = c.args.growth.now in
    let is : c.count_relocations.new.growth ≡ growth_after_line text symbols c.args.spot old line = first_of (search rules, cc, grind (arith, common_steps)) in
    grown_links text symbols old c.count_relocations.new.growth c.args.links.now c.args.spot line c.args._more.now c.requires.links is
