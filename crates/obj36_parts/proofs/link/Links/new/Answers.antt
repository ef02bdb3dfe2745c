use Rattle.obj36_parts.proofs.IndexLaws.{none_indexed}
use Rattle.obj36_parts.proofs.link.Links.new.Goals as goal

pub invariant_of-result : goal.invariant_of-result
invariant_of-result c =
    none_indexed c.with_hasher-2.result.keys c.with_hasher.result.entries c.new.result.items c.with_hasher.ensures.empty c.with_hasher-2.ensures.empty c.new.ensures.items
