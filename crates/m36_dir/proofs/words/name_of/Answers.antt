use Rattle.std.proofs.Common.{sym, ◌∙◌}
use Rattle.m36_dir.proofs.WordsOfModes.{name_is_some}
use Rattle.m36_dir.proofs.words.name_of.Goals as goal

pub returns-then-is_file_name-clause-some : goal.returns-then-is_file_name-clause-some
returns-then-is_file_name-clause-some c =
    name_is_some c.args.word.now c.new.result _ c.new.ensures (sym c.is_file_name.ensures.value ∙ c.if-is_file_name.true)
