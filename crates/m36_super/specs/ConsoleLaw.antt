-- How many characters a console service writes.
use Rattle.std.specs.Prelude.{◌≡◌, ℕ, List, length, Ok}
use Rattle.m36_model.specs.Registers.{RegsFields}
use Rattle.m36_model.specs.Flat.{Flat}
use Rattle.m36_super.specs.Services.{console_text}

-- A console service writes as many characters as A says.
abbrev pub ConsoleCounts : Type 0
ConsoleCounts =
    (g : RegsFields) (f : Flat) (text : List ℕ)
    → console_text g f ≡ Ok text → length text ≡ g.a
