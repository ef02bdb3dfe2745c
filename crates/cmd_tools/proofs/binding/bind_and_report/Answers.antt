-- The objects are bound, or not.
use Rattle.m36_bind.specs.Bound.{bound_object_of}
use Rattle.cmd_tools.proofs.BindLaws.{bound_given, bound_refused}
use Rattle.cmd_tools.proofs.binding.bind_and_report.Goals as goal

pub returns-in-Ok : goal.returns-in-Ok
returns-in-Ok c =
    bound_given c.args.files.now (bound_object_of c.args.text.now c.args.names.now c.args.objects.now) c.in-Ok.object c.report_of-report.result
    c.in-Ok.ensures c.report_of-report.ensures

pub returns-in-Err : goal.returns-in-Err
returns-in-Err c =
    bound_refused c.args.files.now c.bytes.result.now (bound_object_of c.args.text.now c.args.names.now c.args.objects.now) c.in-Err.fault c.refuse_bind.result
    c.bytes.ensures.value c.in-Err.ensures c.refuse_bind.ensures
