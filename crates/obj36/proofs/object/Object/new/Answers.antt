use Rattle.obj36_parts.proofs.LengthLaws.{short_lists}
use Rattle.obj36.proofs.object.Object.new.Goals as goal

pub sections_of-requires : goal.sections_of-requires
sections_of-requires c = short_lists c.args.parts c.requires
