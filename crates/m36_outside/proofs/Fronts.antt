-- The first elements of a list, after other elements were put into it.
use Rattle.std.proofs.Common.{◌≡◌, ℕ, ◌+◌, ◌≤◌, List, ◌++◌, length, take, sym, ap, ◌∙◌}
use Rattle.std.proofs.lemmas.List.{length-take-le, take-append-le}
use Rattle.std.proofs.Math.Seq.{take-append-add}
use borrow.Rule.Slice.PartMut.{put_mid, post_of}

-- the elements before the index, and then some of those that were put there
pub front_put :
    (place size count : ℕ) (xs ys : List ℕ)
    → place ≤ length xs → count ≤ length ys
    → take (place + count) (put_mid place size xs ys) ≡ take place xs ++ take count ys
front_put place size count xs ys within some =
    ap (λ n. take (n + count) (put_mid place size xs ys)) (sym (length-take-le place xs within))
    ∙ take-append-add (take place xs) (ys ++ post_of place size xs) count
    ∙ ap (λ l. take place xs ++ l) (take-append-le count ys (post_of place size xs) some)
