use Rattle.std.proofs.Common.{◌≡◌}
use Rattle.m36_audit.specs.WordOwners.{pages_recorded}
use Rattle.m36_audit.proofs.identities.record_pages.Given as goal

-- The pages before this one are recorded.
abbrev pub invariant-loop-page : goal.invariant-loop-page
invariant-loop-page l = l.recorded.values.items ≡ pages_recorded l.table_number l.sdw l.page l.fn.recorded.values.items
