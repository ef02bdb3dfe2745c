-- What was written is logged as one piece.
use Rattle.std.proofs.Common.{ℕ, ◌≤◌, [], ◌∷◌, ◌++◌, ap, subst, ◌∙◌}
use Rattle.m36_outside.specs.Put.{PutHasCause}
use Rattle.m36_outside.specs.System.{PutHasError}
use Rattle.m36_outside.specs.SystemModels.{OutputModel}
use Rattle.m36_outside.proofs.Takes.{put_says, put_takes}
use Rattle.m36_outside.proofs.standard_output.StdSinkSink.put.Goals as goal

pub returns-clause-says : goal.returns-clause-says
returns-clause-says g c =
    let after = c.write_and_log-answer.new.taken.entries in
    put_says c.write_and_log-answer.result c.args.self.now.taken c.note.new.self.entries c.args.piece.now c.new-taken.result.entries after
    c.write_and_log-answer.ensures.taken c.new-taken.ensures
    (c.note.ensures ∙ ap (λ (s : OutputModel). s.taken ++ after ∷ []) c.self.view_is)

pub returns-clause-took : goal.returns-clause-took
returns-clause-took g c =
    let after = c.write_and_log-answer.new.taken.entries in
    put_takes c.write_and_log-answer.result c.args.self.now.taken c.note.new.self.entries c.args.piece.now c.new-taken.result.entries after
    c.write_and_log-answer.ensures.taken c.new-taken.ensures
    (c.note.ensures ∙ ap (λ (s : OutputModel). s.taken ++ after ∷ []) c.self.view_is)

pub returns-clause-cause : goal.returns-clause-cause
returns-clause-cause g c =
    subst (λ n. PutHasCause c.write_and_log-answer.result n c.count_after_put-self-inside.result) (ap (λ (s : OutputModel). s.faults) c.self.view_is)
    c.count_after_put-self-inside.ensures.cause

pub returns-clause-error : goal.returns-clause-error
returns-clause-error g c =
    subst (λ l. PutHasError c.write_and_log-answer.result l c.write_and_log-answer.new.errors.entries) (ap (λ (s : OutputModel). s.errors) c.self.view_is)
    c.write_and_log-answer.ensures.error

pub returns-clause-count : goal.returns-clause-count
returns-clause-count g c =
    subst (λ (n : ℕ). n ≤ c.count_after_put-self-inside.result) (ap (λ (s : OutputModel). s.faults) c.self.view_is) c.count_after_put-self-inside.ensures.later

pub returns-clause-count_bound : goal.returns-clause-count_bound
returns-clause-count_bound g c = c.count_after_put-self-inside.ensures.bound
