use Rattle.std.proofs.Common.{ℕ, ◌≡◌, List, drop}
use Rattle.std.specs.Prelude.{position}
use Rattle.obj36_parts.specs.Names.{same}
use Rattle.m36_bind.proofs.GivenLaws.{found_in}
use Rattle.m36_bind.proofs.given.first_indexes_of.Given as goal

-- the rest completes the whole
abbrev pub invariant-loop-name : goal.invariant-loop-name
invariant-loop-name l = record {
  each : (name : List ℕ) → found_in name l.places.entries l.place (drop l.name-index l.names) ≡ position (same name) l.names;
  count : l.place ≡ l.name-index;
}
