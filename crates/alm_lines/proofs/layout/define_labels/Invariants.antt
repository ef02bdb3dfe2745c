use Rattle.std.proofs.Common.{◌≡◌, length}
use Rattle.alm_lines.specs.Layout.{with_labels, labels_refusal}
use Rattle.alm_lines.proofs.layout.define_labels.Given as goal

-- the symbols and the refusal of the rest are those of all
abbrev pub invariant-loop-rest : goal.invariant-loop-rest
invariant-loop-rest l = record {
  symbols : with_labels l.text l.sum l.symbols l.rest ≡ with_labels l.text l.sum l.initial.symbols l.line.labels;
  refused : labels_refusal l.text l.line l.sum l.symbols l.first l.rest ≡ labels_refusal l.text l.line l.sum l.initial.symbols l.fn.refused l.line.labels;
}

abbrev pub decreases-loop-rest : goal.decreases-loop-rest
decreases-loop-rest l = length l.rest
