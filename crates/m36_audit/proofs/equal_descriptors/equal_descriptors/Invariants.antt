use Rattle.std.proofs.Common.{◌*◌, ◌^◌}
use Rattle.std.specs.Prelude.{nat_eq}
use Rattle.std.specs.HashMap.{get}
use Rattle.m36_audit.specs.Classes.{AreDescriptorsRecorded}
use Rattle.m36_audit.proofs.equal_descriptors.equal_descriptors.Given as goal

-- The descriptors of the processes before this one are recorded.
abbrev pub invariant-loop-k : goal.invariant-loop-k
invariant-loop-k l = AreDescriptorsRecorded l.core l.dbrs (2 ^ 15 * l.k) (get nat_eq l.places) l.firsts.items
