-- The objects are read in turn.
use Rattle.std.proofs.Common.{[]}
use Rattle.m36_files.specs.EachFile.{read_each}
use Rattle.m36_files.specs.FileReaders.{file_object}
use Rattle.m36_files.proofs.EachLaws.{each_start, each_next, each_stop, each_end}
use Rattle.cmd_tools.proofs.binding.read_objects.Goals as goal

pub loop-name-init : goal.loop-name-init
loop-name-init g c = each_start file_object c.new-objects.result c.args.names.now (g.W.World.seen c.args.world.now) c.new-objects.ensures

pub loop-name-preserved : goal.loop-name-preserved
loop-name-preserved g c =
    each_next file_object c.loop-name.objects c.in-Ok.more c.args.names.now c.loop-name.name-index c.name-item.result (read_each file_object [] c.args.names.now) _ _ _ c.loop-name-test.true c.name-item.is c.loop-name.invariant c.in-Ok.ensures

pub returns-in-Err : goal.returns-in-Err
returns-in-Err g c =
    each_stop file_object c.loop-name.objects c.args.names.now c.loop-name.name-index c.name-item.result (read_each file_object [] c.args.names.now) c.in-Err.status _ _ _ c.loop-name-test.true c.name-item.is c.loop-name.invariant c.in-Err.ensures

pub returns : goal.returns
returns g c =
    each_end file_object c.loop-name.objects c.args.names.now c.loop-name.name-index (read_each file_object [] c.args.names.now) _ _ c.loop-name-test.false c.loop-name.invariant
