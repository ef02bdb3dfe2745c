use Rattle.std.proofs.Common.{◌≡◌, drop}
use Rattle.std.specs.List.{list_any}
use Rattle.m36_dir.specs.BootOrder.{entry, is_same_entry, entries_from, has_entry}
use Rattle.m36_dir.proofs.order.has_entry.Given as goal

-- the rest completes the whole
abbrev pub invariant-loop-line : goal.invariant-loop-line
invariant-loop-line l =
    list_any (is_same_entry (entry l.dir l.name)) (entries_from l.behind (drop l.line-index l.lines)) ≡ has_entry l.lines l.dir l.name
