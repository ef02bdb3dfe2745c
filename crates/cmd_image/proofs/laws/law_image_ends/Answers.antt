use Rattle.cmd_image.proofs.ImageEnded.{image_end_law}
use Rattle.cmd_image.proofs.laws.law_image_ends.Goals as goal

pub returns : goal.returns
returns c = image_end_law
