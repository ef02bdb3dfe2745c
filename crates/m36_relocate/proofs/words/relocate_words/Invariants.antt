use Rattle.std.proofs.Common.{◌≡◌, length}
use Rattle.m36_relocate.specs.Words.{relocated_words}
use Rattle.m36_relocate.proofs.words.relocate_words.Given as goal

-- the rest completes the whole
abbrev pub invariant-loop-rest : goal.invariant-loop-rest
invariant-loop-rest l = relocated_words l.m l.statics l.rest l.words ≡ relocated_words l.m l.statics l.relocations l.fn.words

abbrev pub decreases-loop-rest : goal.decreases-loop-rest
decreases-loop-rest l = length l.rest
