use Rattle.std.proofs.Common.{◌+◌, ◌*◌, ◌^◌}
use Rattle.std.specs.Prelude.{nat_eq}
use Rattle.std.specs.HashMap.{get}
use Rattle.m36_audit.specs.Classes.{AreDescriptorsRecorded}
use Rattle.m36_audit.proofs.equal_descriptors.note_process.Given as goal

-- The descriptors of the segments before this one are recorded.
abbrev pub invariant-loop-seg : goal.invariant-loop-seg
invariant-loop-seg l = AreDescriptorsRecorded l.core l.dbrs (2 ^ 15 * l.fn.k + l.seg) (get nat_eq l.places) l.firsts.items
