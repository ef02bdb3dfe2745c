use Rattle.std.proofs.Common.{sym, ◌∙◌}
use Rattle.m36_associative.proofs.Written.{right_written}
use Rattle.m36_associative.proofs.writing.prepare_watched_write.Goals as goal

pub returns-else-has-2 : goal.returns-else-has-2
returns-else-has-2 c = λ v. right_written c.args.core.now c.args.dbr.now c.rewatch.new.memories c.args.a v (sym c.has.ensures ∙ c.if-has.false) (sym c.has-2.ensures ∙ c.if-has-2.false) c.rewatch.ensures
