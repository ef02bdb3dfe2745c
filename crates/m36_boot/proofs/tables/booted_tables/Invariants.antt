use Rattle.std.proofs.Common.{◌≡◌, ◌+◌, ◌-◌, ◌++◌, length}
use Rattle.m36_boot.specs.Image.{tables_from}
use Rattle.m36_boot.proofs.tables.booted_tables.Given as goal

-- the rest completes the whole
abbrev pub invariant-loop-seg : goal.invariant-loop-seg
invariant-loop-seg l =
    l.tables.items ++ tables_from l.catalog l.files l.lay l.seg (64 + length l.catalog.segments - l.seg)
    ≡ tables_from l.catalog l.files l.lay 0 (64 + length l.catalog.segments)
