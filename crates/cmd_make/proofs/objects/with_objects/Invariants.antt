use Rattle.std.proofs.Common.{◌≡◌, drop}
use Rattle.cmd_make.specs.Making.{with_objects}
use Rattle.cmd_make.proofs.objects.with_objects.Given as goal

-- the files so far with the objects of the sources that are left are all files
abbrev pub invariant-loop-source : goal.invariant-loop-source
invariant-loop-source l = with_objects l.sets (drop l.source-index l.sources) ≡ with_objects l.fn.sets l.sources
