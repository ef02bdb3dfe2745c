use Rattle.m36_boot.specs.Image.{AreDescribed}
use Rattle.m36_boot.proofs.core_words.put_descriptors.Given as goal

-- the descriptors so far
abbrev pub invariant-loop-seg : goal.invariant-loop-seg
invariant-loop-seg l = AreDescribed l.catalog l.files l.seg l.fn.core l.core
