use Rattle.std.proofs.Common.{◌≡◌, take}
use Rattle.obj36_read.specs.Reading.{characters}
use Rattle.obj36_read.proofs.reading.put_characters.Given as goal

-- the characters so far
abbrev pub invariant-loop-i : goal.invariant-loop-i
invariant-loop-i l = take l.i l.bytes ≡ characters l.words l.at 1 l.i
