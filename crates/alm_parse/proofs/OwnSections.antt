-- The names of own sections begin with a star.
use Rattle.std.proofs.Common.{◌≡◌, ◌≢◌, ℕ, List, [], ◌∷◌, None, get_or, refl, arith}
use Rattle.std.proofs.lemmas.Grind.{common_steps}
use Rattle.alm_parse.specs.Bodies.{own_section}

-- a name that begins with another byte is not one of them
pub no_star : (bytes : List ℕ) → get_or bytes 0 0 ≢ 42 → own_section bytes ≡ None
unfolding own_section
no_star [] h = refl
no_star (b ∷ rest) h = grind (arith, common_steps)
