use Rattle.m36_inst.proofs.Parts.{rows, names, plain, row_parts}
use Rattle.m36_inst.proofs.codes.named_row.Goals as goal

pub returns-clause-row : goal.returns-clause-row
returns-clause-row c = rows c.args.code c.args.bit27 c.named_row_in_block.result c.named_row_in_block.ensures

pub returns-clause-parts : goal.returns-clause-parts
returns-clause-parts c = row_parts c.args.code c.args.bit27 c.named_row_in_block.result c.named_row_in_block.ensures

pub returns-clause-name : goal.returns-clause-name
returns-clause-name c = names c.args.code c.args.bit27 c.named_row_in_block.result c.named_row_in_block.ensures

pub returns-clause-plain : goal.returns-clause-plain
returns-clause-plain c = plain c.args.code c.args.bit27 c.named_row_in_block.result c.named_row_in_block.ensures
