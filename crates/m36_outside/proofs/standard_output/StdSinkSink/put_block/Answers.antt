-- What was written is logged in pieces.
use Rattle.std.proofs.Common.{ℕ, ◌≤◌, ◌<◌, ◌++◌, Some, length, ap, subst, ◌∙◌, rules, arith}
use Rattle.m36_outside.specs.Block.{split_at_pieces}
use Rattle.m36_outside.specs.Put.{PutResult, PutHasCause}
use Rattle.m36_outside.specs.System.{PutHasError}
use Rattle.m36_outside.specs.SystemModels.{OutputModel}
use Rattle.m36_outside.proofs.Blocks.{block_says, block_takes}
use Rattle.m36_outside.proofs.standard_output.StdSinkSink.put_block.Goals as goal

pub returns-clause-says : goal.returns-clause-says
returns-clause-says g c =
    let some : 0 < length c.args.block.now = first_of (search rules, grind arith) in
    let before = c.new-taken.result.entries in
    let after = c.write_and_log-answer.new.taken.entries in
    let pieces = c.args.block.now in
    block_says c.write_and_log-answer.result c.args.self.now.taken c.note.new.self.entries pieces before after
    (subst (λ l. PutResult c.write_and_log-answer.result (Some before) (Some after) l) c.bytes.ensures c.write_and_log-answer.ensures.taken)
    c.new-taken.ensures some
    (c.note.ensures ∙ ap (λ (s : OutputModel). s.taken ++ split_at_pieces after pieces) c.self.view_is)

pub returns-clause-took : goal.returns-clause-took
returns-clause-took g c =
    let some : 0 < length c.args.block.now = first_of (search rules, grind arith) in
    let before = c.new-taken.result.entries in
    let after = c.write_and_log-answer.new.taken.entries in
    let pieces = c.args.block.now in
    block_takes c.write_and_log-answer.result c.args.self.now.taken c.note.new.self.entries pieces before after
    (subst (λ l. PutResult c.write_and_log-answer.result (Some before) (Some after) l) c.bytes.ensures c.write_and_log-answer.ensures.taken)
    c.new-taken.ensures some
    (c.note.ensures ∙ ap (λ (s : OutputModel). s.taken ++ split_at_pieces after pieces) c.self.view_is)

pub returns-clause-cause : goal.returns-clause-cause
returns-clause-cause g c =
    subst (λ n. PutHasCause c.write_and_log-answer.result n c.count_after_put-self-inside.result) (ap (λ (s : OutputModel). s.faults) c.self.view_is)
    c.count_after_put-self-inside.ensures.cause

pub returns-clause-error : goal.returns-clause-error
returns-clause-error g c =
    subst (λ l. PutHasError c.write_and_log-answer.result l c.write_and_log-answer.new.errors.entries) (ap (λ (s : OutputModel). s.errors) c.self.view_is)
    c.write_and_log-answer.ensures.error

pub returns-clause-count : goal.returns-clause-count
returns-clause-count g c =
    subst (λ (n : ℕ). n ≤ c.count_after_put-self-inside.result) (ap (λ (s : OutputModel). s.faults) c.self.view_is) c.count_after_put-self-inside.ensures.later

pub returns-clause-count_bound : goal.returns-clause-count_bound
returns-clause-count_bound g c = λ _. c.count_after_put-self-inside.ensures.bound
