use Rattle.std.proofs.Common.{◌≡◌, [], drop, length}
use Rattle.m36_program.specs.Performs.{Leads}
use Rattle.m36_program.specs.Program.{May}
use Rattle.m36_files.specs.EachFile.{read_each}
use Rattle.cmd_folder.specs.FolderProgram.{segment_words}
use Rattle.cmd_folder.proofs.reading.read_files.Given as goal

-- The files of the segments before this one have been read, and the rest of the program is left.
abbrev pub invariant-loop-i : goal.invariant-loop-i
invariant-loop-i g l =
    let seen = g.W.World.seen in
    record {
      left : (may : May)
          → Leads {may = may} (read_each segment_words l.files (drop l.i l.catalog.segments)) (read_each segment_words [] l.catalog.segments) (seen l.fn.world)
          (seen l.world);
      count : length l.files ≡ l.i;
    }
