-- What `procs FILE` needs of the processes to end with Done.
use Rattle.std.specs.Prelude.{Bool}
use Rattle.m36_model.specs.JointAudit.{IsJointlyAudited}
use Rattle.m36_procs.specs.ProcsFields.{ProcsFields}
use Rattle.cmd_image.specs.Needs.{MayRun}
use Rattle.cmd_procs.specs.Scheduled.{dbrs_of}

-- The joint audit passes, or `--unaudited` is given.
abbrev pub ScheduleNeeds : Bool → ProcsFields → Type 0
ScheduleNeeds unaudited procs =
    MayRun (IsJointlyAudited procs.state.store (dbrs_of procs.state)) unaudited
