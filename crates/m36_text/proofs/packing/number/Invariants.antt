use Rattle.std.proofs.Common.{◌≡◌, ◌<◌, ◌^◌, take}
use Rattle.m36_text.specs.Packing.{number_of_bytes}
use Rattle.m36_text.proofs.packing.number.Given as goal

abbrev pub invariant-loop-byte : goal.invariant-loop-byte
invariant-loop-byte l = record {
  value : l.value ≡ number_of_bytes (take l.byte-index l.bytes);
  bound : l.value < 256 ^ l.byte-index;
}
