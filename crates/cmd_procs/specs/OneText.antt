-- The law that `procs FILE` has one text: over the same files every call puts the same pieces, up
-- to where it ends.
use Rattle.std.specs.Prelude.{ℕ, Bool, List}
use Rattle.m36_program.specs.OneText.{HasOneText}
use Rattle.cmd_procs.specs.ProcsProgram.{procs_program}

-- `procs` has one text for each name of a file, with and without `--unaudited`.
abbrev pub ProcsTextLaw : Type 0
ProcsTextLaw = (unaudited : Bool) (name : List ℕ) → HasOneText (procs_program unaudited name)
