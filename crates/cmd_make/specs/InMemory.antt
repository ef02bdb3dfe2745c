-- A program whose files are in memory. It reads them without an event, and memory may run out in
-- each read; everything else is unchanged.
use Rattle.m36_outside.specs.Files.{Files}
use Rattle.m36_program.specs.Found.{found_in}
use Rattle.m36_program.specs.Program.{May, Program}
use Rattle.m36_program.specs.Program.{done, stops, reads, writes, puts, takes, some, wants}

-- a program with each read answered by these files, without an event
unfoldable pub in_memory : {may : May} {A : Type 0} → Files → Program may A → Program may A
in_memory files (done a) = done a
in_memory files (stops status own) = stops status own
in_memory files (reads name go) = wants (in_memory files (go (found_in (files name))))
in_memory files (writes allowed name content rest) =
    writes allowed name content (in_memory files rest)
in_memory files (puts piece rest) = puts piece (in_memory files rest)
in_memory files (takes allowed go) = takes allowed (λ piece. in_memory files (go piece))
in_memory files (some Is go) = some Is (λ b. in_memory files (go b))
in_memory files (wants rest) = wants (in_memory files rest)
