-- The object was read, or not.
use Rattle.std.proofs.Common.{ℕ, List, Ok, Err, subst}
use Rattle.m36_program.specs.Performs.{Performs}
use Rattle.m36_files.specs.FileReaders.{file_object}
use Rattle.m36_files.specs.Writing.{may_write_files}
use Rattle.m36_files.proofs.EachLaws.{onto_read, onto_unread}
use Rattle.cmd_tools.proofs.binding.read_component.Goals as goal

pub returns-in-Ok : goal.returns-in-Ok
returns-in-Ok g c =
    let seen = g.W.World.seen in
    onto_read may_write_files file_object c.args.objects c.args.name.now c.in-Ok.object c.append_object.result c.refusal_as_status.result _ _
    (subst (λ (n : List ℕ). Performs {may = may_write_files} (file_object n) (Ok c.in-Ok.object) (seen c.args.world.now) (seen c.read_object.new.world)) c.bytes.ensures.value (c.in-Ok.ensures may_write_files))
    c.append_object.ensures c.refusal_as_status.ensures

pub returns-in-Err : goal.returns-in-Err
returns-in-Err g c =
    let seen = g.W.World.seen in
    onto_unread may_write_files file_object c.args.objects c.args.name.now c.in-Err.status _ _
    (subst (λ (n : List ℕ). Performs {may = may_write_files} (file_object n) (Err c.in-Err.status) (seen c.args.world.now) (seen c.read_object.new.world)) c.bytes.ensures.value (c.in-Err.ensures may_write_files))
