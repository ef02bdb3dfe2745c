-- What holds for the log of the file holds for that of the folder.
use Rattle.std.proofs.Common.{ℕ, ◌≤◌, [], ◌∷◌, ◌++◌, ap, subst, ◌∙◌}
use Rattle.m36_outside.specs.Given.{ReadGives}
use Rattle.m36_outside.specs.ReadAnswer.{ReadHasCause}
use Rattle.m36_outside.specs.System.{ReadHasError}
use Rattle.m36_outside.specs.SystemModels.{FolderModel}
use Rattle.m36_outside.proofs.directory.DirFolderFolder.read.Goals as goal

pub returns-clause-cause : goal.returns-clause-cause
returns-clause-cause g c =
    subst (λ n. ReadHasCause c.read_file-answer.result n c.count_after_read-self-inside.result) (ap (λ (s : FolderModel). s.reads) c.self.view_is)
    c.count_after_read-self-inside.ensures.cause

pub returns-clause-gives : goal.returns-clause-gives
returns-clause-gives g c =
    subst (λ l. ReadGives c.read_file-answer.result l c.read_file-answer.new.notes.given.entries) (ap (λ (s : FolderModel). s.given) c.self.view_is)
    c.read_file-answer.ensures.gives

pub returns-clause-error : goal.returns-clause-error
returns-clause-error g c =
    subst (λ l. ReadHasError c.read_file-answer.result c.args.name.now l c.read_file-answer.new.notes.errors.entries) (ap (λ (s : FolderModel). s.errors) c.self.view_is)
    c.read_file-answer.ensures.error

pub returns-clause-limit : goal.returns-clause-limit
returns-clause-limit g c = c.read_file-answer.ensures.limit

pub returns-clause-outside : goal.returns-clause-outside
returns-clause-outside g c = c.read_file-answer.ensures.outside

pub returns-clause-taken : goal.returns-clause-taken
returns-clause-taken g c = c.read_file-answer.ensures.taken ∙ ap (λ (s : FolderModel). s.taken) c.self.view_is

pub returns-clause-asked : goal.returns-clause-asked
returns-clause-asked g c =
    c.note_read.ensures.asked ∙ ap (λ (s : FolderModel). s.asked ++ (c.args.name.now, c.read_file-answer.result) ∷ []) c.self.view_is

pub returns-clause-wrote : goal.returns-clause-wrote
returns-clause-wrote g c = c.note_read.ensures.wrote ∙ ap (λ (s : FolderModel). s.wrote) c.self.view_is

pub returns-clause-count : goal.returns-clause-count
returns-clause-count g c =
    subst (λ (n : ℕ). n ≤ c.count_after_read-self-inside.result) (ap (λ (s : FolderModel). s.reads) c.self.view_is) c.count_after_read-self-inside.ensures.later

pub returns-clause-count_bound : goal.returns-clause-count_bound
returns-clause-count_bound g c = c.count_after_read-self-inside.ensures.bound

pub returns-clause-other_count : goal.returns-clause-other_count
returns-clause-other_count g c = ap (λ (s : FolderModel). s.writes) c.self.view_is
