-- The answer is that of the file.
use Rattle.std.proofs.Common.{ℕ, ◌≤◌, [], ◌∷◌, ◌++◌, ap, subst, ◌∙◌}
use Rattle.m36_outside.specs.SystemModels.{FolderModel}
use Rattle.m36_outside.specs.WriteAnswer.{WriteHasCause}
use Rattle.m36_outside.specs.System.{WriteCalls, WriteTakes, WriteHasError}
use Rattle.m36_outside.proofs.WriteAnswers.{write_says, write_cause, write_failed, write_takes, write_calls, write_error}
use Rattle.m36_outside.proofs.directory.DirFolderFolder.write.Goals as goal

pub returns-clause-says : goal.returns-clause-says
returns-clause-says g c =
    write_says c.write_file-put.result c.write_answer-answer.result c.args.name.now c.args.content.now c.write_answer-answer.ensures

pub returns-clause-cause : goal.returns-clause-cause
returns-clause-cause g c =
    subst (λ n. WriteHasCause c.write_answer-answer.result n c.count_after_put-self-inside.result) (ap (λ (s : FolderModel). s.writes) c.self.view_is)
    (write_cause c.write_file-put.result c.write_answer-answer.result c.self.inside.write_faults c.count_after_put-self-inside.result c.write_answer-answer.ensures c.count_after_put-self-inside.ensures.cause)

pub returns-clause-outside : goal.returns-clause-outside
returns-clause-outside g c =
    λ none. let both = c.write_file-put.ensures.outside none in (
      write_failed c.write_file-put.result c.write_answer-answer.result c.write_answer-answer.ensures both.0,
      both.1 ∙ ap (λ (s : FolderModel). s.taken) c.self.view_is,
      both.2 ∙ ap (λ (s : FolderModel). s.names) c.self.view_is,
    )

pub returns-clause-took : goal.returns-clause-took
returns-clause-took g c =
    subst (λ l. WriteTakes c.write_answer-answer.result l c.write_file-put.new.notes.taken.entries c.args.content.now) (ap (λ (s : FolderModel). s.taken) c.self.view_is)
    (write_takes c.write_file-put.result c.write_answer-answer.result c.self.inside.notes.taken.entries c.write_file-put.new.notes.taken.entries c.args.content.now c.write_answer-answer.ensures c.write_file-put.ensures.took)

pub returns-clause-error : goal.returns-clause-error
returns-clause-error g c =
    subst (λ l. WriteHasError c.write_answer-answer.result c.args.name.now l c.write_file-put.new.notes.errors.entries) (ap (λ (s : FolderModel). s.errors) c.self.view_is)
    (write_error c.write_file-put.result c.write_answer-answer.result c.args.name.now c.self.inside.notes.errors.entries c.write_file-put.new.notes.errors.entries c.write_answer-answer.ensures c.write_file-put.ensures.error)

pub returns-clause-names : goal.returns-clause-names
returns-clause-names g c =
    subst (λ l. WriteCalls c.write_answer-answer.result c.args.name.now l c.write_file-put.new.notes.names.entries) (ap (λ (s : FolderModel). s.names) c.self.view_is)
    (write_calls c.write_file-put.result c.write_answer-answer.result c.args.name.now c.self.inside.notes.names.entries c.write_file-put.new.notes.names.entries c.write_answer-answer.ensures c.write_file-put.ensures.names)

pub returns-clause-given : goal.returns-clause-given
returns-clause-given g c = c.write_file-put.ensures.given ∙ ap (λ (s : FolderModel). s.given) c.self.view_is

pub returns-clause-wrote : goal.returns-clause-wrote
returns-clause-wrote g c =
    c.note_write.ensures.wrote ∙ ap (λ (s : FolderModel). s.wrote ++ (c.args.name.now, c.args.content.now, c.write_answer-answer.result) ∷ []) c.self.view_is

pub returns-clause-asked : goal.returns-clause-asked
returns-clause-asked g c = c.note_write.ensures.asked ∙ ap (λ (s : FolderModel). s.asked) c.self.view_is

pub returns-clause-count : goal.returns-clause-count
returns-clause-count g c =
    subst (λ (n : ℕ). n ≤ c.count_after_put-self-inside.result) (ap (λ (s : FolderModel). s.writes) c.self.view_is) c.count_after_put-self-inside.ensures.later

pub returns-clause-count_bound : goal.returns-clause-count_bound
returns-clause-count_bound g c = c.count_after_put-self-inside.ensures.bound

pub returns-clause-other_count : goal.returns-clause-other_count
returns-clause-other_count g c = ap (λ (s : FolderModel). s.reads) c.self.view_is
