-- The words are written, and packed.
use Rattle.std.proofs.Common.{ap, ◌∙◌}
use Rattle.m36_text.specs.Packing.{packed}
use Rattle.cmd_tools.specs.Assemblies.{object_bytes}
use Rattle.cmd_tools.proofs.objects.object_bytes.Goals as goal

pub returns : goal.returns
unfolding object_bytes
returns c = c.in_ok-packed.ensures ∙ ap packed (c.slice.ensures.value ∙ c.in_ok-words.ensures.spelled)
