-- Pointers and their ITS pairs.
use Rattle.std.specs.Prelude.{ℕ, max}
use Rattle.m36_word.specs.declared.pair.Pair.{Pair}
use Rattle.m36_desc.specs.Fields.{PtrFields}
use Rattle.m36_desc.specs.Descriptors.{ptr_of, its_of_ptr, its_pair}

-- the ITS pair of a pointer
abbrev pub pair_of_pointer : PtrFields → Pair
pair_of_pointer p = its_pair (its_of_ptr p)

-- the pointer of a pair, whose ring is raised to at least this one
abbrev pub pointer_of_pair : ℕ → Pair → PtrFields
pointer_of_pair ring p =
    let pointer = ptr_of p.even p.odd in record pointer { ring = max ring pointer.ring }
