-- The law that `bare FILE` and `audit FILE` have one text each: over the same files every call puts
-- the same pieces, up to where it ends.
use Rattle.std.specs.Prelude.{ℕ, List}
use Rattle.m36_program.specs.OneText.{HasOneText}
use Rattle.cmd_image.specs.declared.command.ImageCommand.{ImageCommand}
use Rattle.cmd_image.specs.ImageProgram.{image_program}

-- Both commands have one text, for each name of a file and all options.
abbrev pub ImageTextLaw : Type 0
ImageTextLaw =
    (command : ImageCommand) (name : List ℕ) → HasOneText (image_program command name)
