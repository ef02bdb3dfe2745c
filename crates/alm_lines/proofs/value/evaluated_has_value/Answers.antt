-- The value is that of the expression.
use Rattle.std.proofs.Common.{◌∙◌}
use Rattle.alm_lines.proofs.ValueLaws.{value_given}
use Rattle.alm_lines.proofs.value.evaluated_has_value.Goals as goal

pub returns : goal.returns
returns c =
    c.is_usable_value.ensures
    ∙ value_given c.args._text.now c.args._symbols.now c.args._spot c.args._terms.now c.args.room c.args.may_move c.args.value c.requires
