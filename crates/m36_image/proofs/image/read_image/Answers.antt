-- The image is that of the header and the lines after it.
use Rattle.std.proofs.Common.{sym, ap, ◌∙◌}
use Rattle.m36_image.proofs.Images.{image_accepted, ok_state}
use Rattle.m36_image.proofs.image.read_image.Goals as goal

pub returns : goal.returns
returns c =
    image_accepted c.args.text.now c.in-Ok.read.1.now c.in_ok-core.core c.put_lines.new.core c.in-Ok.read.0 c.in-Ok.ensures.says c.in_ok-core.ensures c.in_ok-put_lines.ensures.0 c.in_ok-put_lines.ensures.1 ∙ ap (λ r. ok_state (record { regs = r; store = c.put_lines.new.core })) (sym c.registers.ensures)
