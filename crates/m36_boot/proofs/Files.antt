-- The file of a segment.
use Rattle.std.proofs.Common.{ℕ, ◌≡◌, ◌<◌, List, [], length, get_or}
use Rattle.std.proofs.lemmas.List.{get_or_default}

pub file_is : (files : List (List ℕ)) (i : ℕ) (d : List ℕ) → i < length files → get_or files i d ≡ get_or files i []
file_is files i d lt = get_or_default files i d [] lt
