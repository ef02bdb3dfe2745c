use Rattle.std.proofs.Common.{◌≡◌, [], length}
use Rattle.alm_asm.specs.Definitions.{definitions_from}
use Rattle.alm_asm.proofs.definitions.definitions_of.Given as goal

-- adding the rest gives the whole
abbrev pub invariant-loop-rest : goal.invariant-loop-rest
invariant-loop-rest l = definitions_from l.text l.symbols l.done l.rest ≡ definitions_from l.text l.symbols [] l.lines

abbrev pub decreases-loop-rest : goal.decreases-loop-rest
decreases-loop-rest l = length l.rest
