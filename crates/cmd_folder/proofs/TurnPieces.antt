-- What is added to a block for a turn, and at the end of a run.
use Rattle.std.proofs.Common.{◌≡◌, ℕ, ◌<◌, List, [], ◌∷◌, length, arith}
use Rattle.m36_outside.specs.declared.sink.Put.{Put}
use Rattle.m36_outside.specs.declared.sink.Put.TheVariants.{Done, Failed}
use Rattle.m36_world.specs.Answers.{PutDid}
use Rattle.m36_world.specs.Seen.{Seen}
use Rattle.m36_program.specs.Gathered.{Gathers, Adds}
use Rattle.m36_program.proofs.Gathered.{gathers_none, gathers_put, loses_put}
use Rattle.cmd_folder.specs.RunText.{console_pieces}
use Rattle.std.proofs.Common.{refl}

-- no characters
pub none_shown :
    (text : List ℕ) (block : List (List ℕ)) (seen : Seen) → length text ≡ 0 → Gathers block block (console_pieces text) seen seen
none_shown [] block seen none = gathers_none block seen
none_shown (c ∷ text) block seen none = absurd (omega (arith, none))

one_shown :
    (answer : Put) (piece : List ℕ) (block : List (List ℕ)) (old new : Seen)
    → block ≡ [] → PutDid answer piece old new → Adds answer block block (piece ∷ []) old new
one_shown Done piece block old new none did = gathers_put block block piece old new none refl did
one_shown Failed piece block old new none did = loses_put block piece old new none did.failed

pub some_shown :
    (answer : Put) (text : List ℕ) (block : List (List ℕ)) (old new : Seen)
    → block ≡ [] → 0 < length text → PutDid answer text old new → Adds answer block block (console_pieces text) old new
some_shown answer [] block old new none some did = absurd (omega (arith, some))
some_shown answer (c ∷ text) block old new none some did = one_shown answer (c ∷ text) block old new none did

pub ruleset showing = (none_shown, some_shown)

pub ruleset adding = (gathers_none)
