use Rattle.std.proofs.Common.{◌≡◌, min, take}
use Rattle.m36_text.specs.Reading.{number_of}
use Rattle.m36_text.proofs.reading.capped_value.Given as goal

abbrev pub invariant-loop-byte : goal.invariant-loop-byte
invariant-loop-byte l = l.value ≡ min (number_of l.base (take l.byte-index l.t)) l.cap
