-- One more file was put in.
use Rattle.m36_outside.specs.FileList.{file_named}
use Rattle.cmd_make.specs.Making.{files_in}
use Rattle.cmd_make.proofs.Files.{folder_more, folder_end}
use Rattle.cmd_make.proofs.folder.folder_of.Goals as goal

pub loop-set-preserved : goal.loop-set-preserved
loop-set-preserved c =
    folder_more c.args.sets.now c.loop-set.set-index c.set-item.result c.bytes.result.now c.bytes-in-loop-set.result.now
    (file_named c.loop-set.folder.files) (file_named c.add.new.self.files)
    (files_in c.args.sets.now) c.loop-set-test.true c.set-item.is c.bytes.ensures.value c.bytes-in-loop-set.ensures
    c.in_ok-add.ensures.ok c.loop-set.invariant

pub returns : goal.returns
returns c =
    folder_end c.args.sets.now c.loop-set.set-index (file_named c.loop-set.folder.files)
    (files_in c.args.sets.now) c.loop-set-test.false c.loop-set.invariant
