use Rattle.m36_text.proofs.PackingLaws.{group_pushed}
use Rattle.m36_text.proofs.packing.push_group.Goals as goal

pub returns : goal.returns
returns c = group_pushed c.args.bytes.now c.args.words.now _ c.number.result c.requires c.number.ensures.value c.in_ok-push_pair.ensures
