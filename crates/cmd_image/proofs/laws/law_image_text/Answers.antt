use Rattle.cmd_image.proofs.TextLaws.{image_text_law}
use Rattle.cmd_image.proofs.laws.law_image_text.Goals as goal

pub returns : goal.returns
returns c = image_text_law
