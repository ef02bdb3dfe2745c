-- A run that writes its text in pieces: completing the rest of the text completes the whole text.
use Rattle.std.proofs.Common.{◌≡◌, ℕ, List, [], ◌++◌, Option, sym, subst}
use Rattle.m36_outside.specs.Written.{Grew, GrewWithin}
use Rattle.m36_outside.proofs.Grown.{grew_on, grew_more, grew_longer, grew_by_nothing, within_nothing}

-- Of the text `all`, written from `start` on, `left` is still to be written after `now`.
pub record Completes (now start : Option (List ℕ)) (left all : List ℕ) : Type 0 where
  pub whole : (new : Option (List ℕ)) → Grew now new left → Grew start new all
  pub cut : (new : Option (List ℕ)) → GrewWithin now new left → GrewWithin start new all

-- at the start all is left
pub completes_all : (start : Option (List ℕ)) (all : List ℕ) → Completes start start all all
completes_all start all = record { whole = λ new grown. grown; cut = λ new cut. cut }

-- a piece was written as a whole, and the rest of what was left is still to be written
pub completes_rest :
    (now next start : Option (List ℕ)) (before piece left all : List ℕ)
    → Completes now start before all → before ≡ piece ++ left → Grew now next piece → Completes next start left all
completes_rest now next start before piece left all run begins grown = record {
  whole = λ new rest. run.whole new (subst (λ t. Grew now new t) (sym begins) (grew_on now next new piece left grown rest));
  cut = λ new rest. run.cut new (subst (λ t. GrewWithin now new t) (sym begins) (grew_more now next new piece left grown rest));
}

-- the last piece was written as a whole
pub completes_whole :
    (now new start : Option (List ℕ)) (left all : List ℕ)
    → Completes now start left all → Grew now new left → Grew start new all
completes_whole now new start left all before grown = before.whole new grown

-- a prefix of the next piece was written
pub completes_cut :
    (now new start : Option (List ℕ)) (before piece left all : List ℕ)
    → Completes now start before all → before ≡ piece ++ left → GrewWithin now new piece → GrewWithin start new all
completes_cut now new start before piece left all run begins cut =
    run.cut new (subst (λ t. GrewWithin now new t) (sym begins) (grew_longer now new piece left cut))

-- a prefix of the last piece was written
pub completes_cut_last :
    (now new start : Option (List ℕ)) (left all : List ℕ)
    → Completes now start left all → GrewWithin now new left → GrewWithin start new all
completes_cut_last now new start left all before cut = before.cut new cut

-- no more is written, although some is left
pub completes_stop :
    (now start : Option (List ℕ)) (left all : List ℕ) → Completes now start left all → GrewWithin start now all
completes_stop now start left all before = before.cut now (within_nothing now left)

-- nothing is left
pub completes_none : (now start : Option (List ℕ)) (all : List ℕ) → Completes now start [] all → Grew start now all
completes_none now start all before = before.whole now (grew_by_nothing now)

-- what a run that puts its text in a loop takes by `using`
pub ruleset completing = (completes_all, completes_rest, completes_whole, completes_cut, completes_cut_last, completes_stop, completes_none)
