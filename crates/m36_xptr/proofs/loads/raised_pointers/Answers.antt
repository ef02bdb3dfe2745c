use Rattle.m36_model.specs.Results.{operand_fields}
use Rattle.m36_xptr.proofs.Eight.{pointers_of_block}
use Rattle.m36_xptr.proofs.loads.raised_pointers.Goals as goal

pub returns : goal.returns
returns c =
    pointers_of_block c.block.result.now c.pointers.result c.raised_ring.result (operand_fields c.args.operand.now) c.args.f.now c.pointers.ensures.count c.block.ensures c.raised_ring.ensures.ring c.pointers.ensures.each
