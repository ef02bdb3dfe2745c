-- Words that are written into core one after the other.
use Rattle.std.proofs.Common.{◌≡◌, ℕ, suc, ◌+◌, ◌<◌, List, length, ◌≤◌, drop, get_or, set, ap, ◌∙◌, arith, add-one}
use Rattle.std.specs.Prelude.{slice_index, slice_set}
use Rattle.std.proofs.Math.Seq.{drop-cons}
use Rattle.std.proofs.Math.ListN.{drop_of_length-le}
use Rattle.m36_image.specs.ImageState.{written_at}

-- one more word was written
pub write_more :
    (core words : List ℕ) (first i : ℕ)
    → i < length words
    → written_at core (first + i) (drop i words) ≡ written_at (slice_set core (first + i) (slice_index words i)) (first + (i + 1)) (drop (i + 1) words)
write_more core words first i inside =
    let next : first + i + 1 ≡ first + (i + 1) = omega arith in
    let same : written_at (set core (first + i) (get_or words i 0)) (first + i + 1) (drop (suc i) words) ≡ written_at (set core (first + i) (get_or words i 0)) (first + (i + 1)) (drop (i + 1) words) = rw (next, add-one i) in
    ap (written_at core (first + i)) (drop-cons words i 0 inside) ∙ same

-- all were written
pub write_done :
    (core words : List ℕ) (first i : ℕ) → length words ≤ i → written_at core (first + i) (drop i words) ≡ core
write_done core words first i past = ap (written_at core (first + i)) (drop_of_length-le words past)

pub ruleset writing = (write_more, write_done)
