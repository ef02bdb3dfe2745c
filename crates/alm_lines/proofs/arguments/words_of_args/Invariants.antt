use Rattle.std.proofs.Common.{◌≡◌, [], length}
use Rattle.alm_lines.specs.Arguments.{words_of_args}
use Rattle.alm_lines.proofs.arguments.words_of_args.Given as goal

-- the words so far and those of the rest are all
abbrev pub invariant-loop-rest : goal.invariant-loop-rest
invariant-loop-rest l = words_of_args l.words l.rest ≡ words_of_args [] l.args

abbrev pub decreases-loop-rest : goal.decreases-loop-rest
decreases-loop-rest l = length l.rest
