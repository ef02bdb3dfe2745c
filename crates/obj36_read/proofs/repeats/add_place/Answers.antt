use Rattle.std.proofs.Common.{ℕ, Option, sym, ap, ◌∙◌}
use Rattle.std.specs.Prelude.{min}
use Rattle.std.specs.Option.{option_map}
use Rattle.indexmap.specs.IndexMap.{insert_entry}
use Rattle.obj36_read.specs.declared.repeats.Spelling.{Spelling}
use Rattle.obj36_read.proofs.RepeatLoops.{compare, here_is, least_more, outside_is, outside_more}
use Rattle.obj36_read.proofs.repeats.add_place.Goals as goal

pub returns-then-not-is_name_within-clause-value : goal.returns-then-not-is_name_within-clause-value
returns-then-not-is_name_within-clause-value c =
    outside_is c.args.d.now c.args.places.now.entries c.args.place (sym c.is_name_within.ensures ∙ c.if-not-is_name_within.true)

pub returns-then-not-is_name_within-clause-more : goal.returns-then-not-is_name_within-clause-more
returns-then-not-is_name_within-clause-more c =
    outside_more c.args.d.now c.args.places.now.entries c.args.place (sym c.is_name_within.ensures ∙ c.if-not-is_name_within.true)

pub returns-clause-value : goal.returns-clause-value
returns-clause-value c =
    let key = c.spelling_at-spelled.result in
    here_is c.args.d.now c.args.place key c.args.places.now.entries c.insert.new.self.entries c.lesser-here.result
    (sym c.is_name_within.ensures ∙ c.if-not-is_name_within.false) c.spelling_at-spelled.ensures.whole c.spelling_at-spelled.ensures.length c.spelling_at-spelled.ensures.last
    (c.lesser-here.ensures.value ∙ ap (λ (o : Option ℕ). option_map (min c.args.place) o) (c.copied.ensures ∙ c.get.ensures.value))
    (c.in_ok-insert.ensures.entries ∙ ap (λ (w : ℕ). insert_entry (λ (a b : Spelling). compare a.whole.now a.length a.last b) c.args.places.now.entries key w) c.unwrap_or.ensures)

pub returns-clause-more : goal.returns-clause-more
returns-clause-more c =
    let key = c.spelling_at-spelled.result in
    least_more c.args.d.now c.args.place key c.args.places.now.entries c.insert.new.self.entries c.lesser-here.result
    (sym c.is_name_within.ensures ∙ c.if-not-is_name_within.false) c.spelling_at-spelled.ensures.whole c.spelling_at-spelled.ensures.length c.spelling_at-spelled.ensures.last
    (c.lesser-here.ensures.value ∙ ap (λ (o : Option ℕ). option_map (min c.args.place) o) (c.copied.ensures ∙ c.get.ensures.value))
    (c.in_ok-insert.ensures.entries ∙ ap (λ (w : ℕ). insert_entry (λ (a b : Spelling). compare a.whole.now a.length a.last b) c.args.places.now.entries key w) c.unwrap_or.ensures)
