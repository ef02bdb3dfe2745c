-- Lines of a boot text by their words.
use Rattle.std.proofs.Common.{◌≡◌, ℕ, Bool, true, false, cond, List, [], Option, None, codes, refl}
use Rattle.m36_text.specs.Texts.{is_text}
use Rattle.m36_dir.specs.BootLine.{line_named}

pick_none : {A : Type 0} (a b c d e f : Bool) →
    cond a None (cond b None (cond c None (cond d None (cond e None (cond f None None))))) ≡ (let none : Option A = None in none)
pick_none true b c d e f = refl
pick_none false true c d e f = refl
pick_none false false true d e f = refl
pick_none false false false true e f = refl
pick_none false false false false true f = refl
pick_none false false false false false true = refl
pick_none false false false false false false = refl

-- a single word is not a line
pub no_words : (word : List ℕ) → line_named word [] ≡ None
no_words word =
    pick_none (is_text (codes "frames") word) (is_text (codes "work") word) (is_text (codes "library") word)
    (is_text (codes "segment") word) (is_text (codes "name") word) (is_text (codes "start") word)
