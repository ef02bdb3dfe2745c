use Rattle.std.proofs.Common.{◌++◌, ◌≡◌, length}
use Rattle.alm_parse.specs.Characters.{packed_words}
use Rattle.alm_parse.proofs.characters.packed_words.Given as goal

abbrev pub invariant-loop-rest : goal.invariant-loop-rest
invariant-loop-rest l = l.words ++ packed_words l.rest ≡ packed_words l.bytes

abbrev pub decreases-loop-rest : goal.decreases-loop-rest
decreases-loop-rest l = length l.rest
