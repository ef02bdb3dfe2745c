use Rattle.std.proofs.Common.{◌≡◌, ◌+◌, drop}
use Rattle.m36_bind.specs.Components.{with_components_of_lines, no_components, PlacedComponents, BasesAreBounded}
use Rattle.m36_bind.proofs.placed.components_of.Given as goal

-- the rest completes the whole
abbrev pub invariant-loop-line : goal.invariant-loop-line
invariant-loop-line l =
    let so_far : PlacedComponents = record { placed = l.all; next = l.next } in
    record {
      told : with_components_of_lines l.given so_far l.n (drop l.line-index l.lines) ≡ with_components_of_lines l.given no_components 1 l.lines;
      near : BasesAreBounded l.next l.n;
      count : l.n ≡ l.line-index + 1;
    }
