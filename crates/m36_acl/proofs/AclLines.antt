-- Lines of access lists by their words.
use Rattle.std.proofs.Common.{ℕ, ◌≡◌, Bool, true, false, cond, List, [], Option, None, codes, refl}
use Rattle.m36_text.specs.Texts.{is_text}
use Rattle.m36_acl.specs.AccessLine.{Line, line_named}

pick_none : (a b : Bool) → cond a None (cond b None None) ≡ (let none : Option Line = None in none)
pick_none true b = refl
pick_none false true = refl
pick_none false false = refl

-- a single word is not a line
pub no_words : (word : List ℕ) → line_named word [] ≡ None
no_words word = pick_none (is_text (codes "segment") word) (is_text (codes "term") word)
