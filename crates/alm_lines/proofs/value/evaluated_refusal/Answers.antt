-- The value is that of the expression.
use Rattle.std.proofs.Common.{◌∙◌}
use Rattle.alm_lines.proofs.ValueLaws.{refused_given}
use Rattle.alm_lines.proofs.value.evaluated_refusal.Goals as goal

pub returns : goal.returns
returns c =
    c.refusal_of_value.ensures
    ∙ refused_given c.args._text.now c.args._symbols.now c.args._spot c.args.line.now c.args._terms.now c.args.wanted.place c.args.wanted.room c.args.wanted.may_move c.args.value c.requires
