-- A file was read after the others, or not.
use Rattle.std.proofs.Common.{◌≡◌, ◌+◌, [], ap, ◌∙◌, rules, arith, length}
use Rattle.m36_files.specs.EachFile.{read_each}
use Rattle.m36_files.proofs.EachLaws.{each_start, each_end}
use Rattle.cmd_folder.specs.FolderProgram.{segment_words}
use Rattle.cmd_folder.proofs.FolderSteps.{files_more, files_stop}
use Rattle.cmd_folder.proofs.reading.read_files.Goals as goal

pub loop-i-init : goal.loop-i-init
loop-i-init g c = record {
  left = λ may. each_start segment_words c.new-files.result c.args.catalog.now.segments _ c.new-files.ensures;
  count = ap length c.new-files.ensures;
}

pub loop-i-preserved : goal.loop-i-preserved
loop-i-preserved g c =
    let is : c.bytes.result.now ≡ c.segment.result.now.file = search rules in
    record {
      left = λ may.
          files_more may c.args.catalog.now.segments c.loop-i.i c.segment.result.now c.bytes.result.now c.loop-i.files c.in-Ok.more (read_each segment_words [] c.args.catalog.now.segments) _ _ _
          c.segment.ensures.value is (c.loop-i.invariant.left may) (c.in-Ok.ensures.performs may);
      count = c.in-Ok.ensures.more ∙ ap (λ n. n + 1) c.loop-i.invariant.count;
    }

pub returns-in-Err-clause-performs : goal.returns-in-Err-clause-performs
returns-in-Err-clause-performs g c = λ may.
    let is : c.bytes.result.now ≡ c.segment.result.now.file = search rules in
    files_stop may c.args.catalog.now.segments c.loop-i.i c.segment.result.now c.bytes.result.now c.loop-i.files (read_each segment_words [] c.args.catalog.now.segments) c.in-Err.status _ _ _
    c.segment.ensures.value is (c.loop-i.invariant.left may) (c.in-Err.ensures.performs may)

pub returns-clause-performs : goal.returns-clause-performs
returns-clause-performs g c = λ may.
    each_end segment_words c.loop-i.files c.args.catalog.now.segments c.loop-i.i (read_each segment_words [] c.args.catalog.now.segments) _ _ (omega arith) (c.loop-i.invariant.left may)
