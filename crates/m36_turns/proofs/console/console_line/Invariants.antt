use Rattle.std.proofs.Common.{◌≡◌, ◌+◌, ◌*◌, ◌≤◌, ◌++◌, length}
use Rattle.std.specs.Prelude.{codes}
use Rattle.std.specs.List.{flat_map}
use Rattle.m36_turns.specs.TurnLines.{console_character}
use Rattle.m36_turns.proofs.console.console_line.Given as goal

-- the rest completes the line
abbrev pub invariant-loop-rest : goal.invariant-loop-rest
invariant-loop-rest l = record {
  text : l.line.items ++ flat_map console_character l.rest ≡ codes "console " ++ flat_map console_character l.note;
  room : length l.line.items + 4 * length l.rest ≤ 1032;
}

abbrev pub decreases-loop-rest : goal.decreases-loop-rest
decreases-loop-rest l = length l.rest
