use Rattle.std.proofs.Common.{◌∙◌}
use Rattle.m36_link.proofs.KnownNames.{found_below}
use Rattle.m36_link.proofs.search.initiated_segment.Goals as goal

pub returns-in-Some-clause-bound : goal.returns-in-Some-clause-bound
returns-in-Some-clause-bound c = found_below _ _ c.args.names.now.entries (c.copied.ensures ∙ c.get.ensures.value) c.requires
