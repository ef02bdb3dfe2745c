use Rattle.std.proofs.Common.{◌≡◌, ◌++◌, replicate}
use Rattle.std.specs.declared.io.ErrorKind.TheVariants.{AlreadyExists}
use Rattle.m36_outside.specs.NameCalls.{refused_tries}
use Rattle.m36_outside.proofs.name_calls.make_spare.Given as goal

-- Each spare name so far was refused.
abbrev pub invariant-loop-number : goal.invariant-loop-number
invariant-loop-number g l = record {
  refused_tries : l.calls.entries ≡ l.fn.calls.entries ++ refused_tries l.number;
  refused : l.errors.entries ≡ l.fn.errors.entries ++ replicate l.number AlreadyExists;
}
