-- The text of a padded name, by the position of its first blank.
use Rattle.std.proofs.Common.{◌≡◌, ℕ, ◌≤◌, Bool, true, false, cond, Some, None, List, length, take, nat_lt, refl, sym, ap}
use Rattle.std.specs.List.{position, before_first, position_or_len}
use Rattle.std.proofs.lemmas.List.{take_all}
use Rattle.std.proofs.lemmas.Option.{cond_some}
use Rattle.std.proofs.lemmas.Bool.{ltb-false}

pub text_to : (p : ℕ → Bool) (xs : List ℕ) (end : ℕ) → position p xs ≡ Some end → take end xs ≡ before_first p xs
text_to p xs end h =
    let here = position_or_len p xs in
    let parts = cond_some (nat_lt here (length xs)) here end h in
    ap (λ n. take n xs) (sym parts.1)

not_past : (b : Bool) (n : ℕ) → cond b (Some n) None ≡ None → b ≡ false
not_past true n h = cc
not_past false n h = refl

pub whole_text : (p : ℕ → Bool) (xs : List ℕ) → position p xs ≡ None → xs ≡ before_first p xs
whole_text p xs h =
    let here = position_or_len p xs in
    let past : length xs ≤ here = ltb-false here (length xs) (not_past _ here h) in
    sym (take_all here xs past)

pub ruleset texts = (text_to, whole_text)
