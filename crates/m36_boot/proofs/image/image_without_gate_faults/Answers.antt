use Rattle.std.proofs.Common.{Ok, sym, ap, ◌∙◌}
use Rattle.m36_boot.proofs.LayAnswers.{lay_start, lay_point, start_answers}
use Rattle.m36_boot.proofs.image.image_without_gate_faults.Goals as goal

pub returns-in-Err-clause-says : goal.returns-in-Err-clause-says
returns-in-Err-clause-says c = lay_start c.args.catalog.now c.args.files.now _ c.requires.frames c.requires.gates c.in-Err.ensures

pub image_at-requires-clause-snap : goal.image_at-requires-clause-snap
image_at-requires-clause-snap c = start_answers c.args.catalog.now c.args.files.now _ c.in-Ok.ensures

pub returns-in_ok-image_at-in-Ok-clause-says : goal.returns-in_ok-image_at-in-Ok-clause-says
returns-in_ok-image_at-in-Ok-clause-says c =
    (lay_point c.args.catalog.now c.args.files.now _ c.requires.frames c.requires.gates c.in-Ok.ensures ∙ ap (λ s. Ok s) (sym c.in_ok-image_at-in-Ok.ensures.snap), c.in_ok-image_at-in-Ok.ensures.image)

pub returns-in_ok-image_at-in-Ok-clause-answer : goal.returns-in_ok-image_at-in-Ok-clause-answer
returns-in_ok-image_at-in-Ok-clause-answer c =
    start_answers c.args.catalog.now c.args.files.now _ c.in-Ok.ensures ∙ ap (λ s. Ok s) (sym c.in_ok-image_at-in-Ok.ensures.snap)
