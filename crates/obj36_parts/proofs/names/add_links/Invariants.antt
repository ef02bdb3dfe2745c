use Rattle.std.proofs.Common.{◌≡◌, ◌≤◌, ◌+◌, ◌*◌, length, drop}
use Rattle.obj36_parts.specs.Names.{with_names}
use Rattle.obj36_parts.specs.ObjectSegment.{all_link_names}
use Rattle.obj36_parts.proofs.names.add_links.Given as goal

-- what the rest adds completes the whole
abbrev pub invariant-loop-link : goal.invariant-loop-link
invariant-loop-link l = record {
  all : with_names l.table.names (all_link_names (drop l.link-index l.links)) ≡ with_names l.fn.table.names (all_link_names l.links);
  few : length l.table.names ≤ length l.fn.table.names + 2 * l.link-index;
  base : l.table.base ≡ l.fn.table.base;
}
