use Rattle.std.proofs.Common.{◌≡◌, length}
use Rattle.alm_asm.specs.Definitions.{with_names, names_refusal}
use Rattle.alm_asm.proofs.definitions.push_names.Given as goal

-- adding the rest gives the whole
abbrev pub invariant-loop-rest : goal.invariant-loop-rest
invariant-loop-rest l = record {
  definitions : with_names l.text l.symbols l.is_entry l.done l.rest ≡ with_names l.text l.symbols l.is_entry l.initial.done l.line.args;
  refused : names_refusal l.text l.symbols l.line l.is_entry l.done l.first l.rest ≡ names_refusal l.text l.symbols l.line l.is_entry l.initial.done l.fn.refused l.line.args;
}

abbrev pub decreases-loop-rest : goal.decreases-loop-rest
decreases-loop-rest l = length l.rest
