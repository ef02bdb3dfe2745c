-- The page table word that is read at a place in core.
use Rattle.std.proofs.Common.{ℕ, ◌≡◌, ◌<◌, List, length, get_or, Option, Some, None, ap, ◌∙◌}
use Rattle.std.specs.Prelude.{slice_get, slice_index}
use Rattle.std.specs.Option.{option_map}
use Rattle.std.proofs.lemmas.Option.{slice_get-get_or}
use Rattle.m36_desc.specs.Descriptors.{ptw_of}
use Rattle.m36_desc.specs.Fields.{PtwFields}

there : (core : List ℕ) (a : ℕ) → a < length core → option_map ptw_of (slice_get core a) ≡ Some (ptw_of (slice_index core a))
there core a lt = ap (option_map ptw_of) (slice_get-get_or core a 0 lt)

-- there is one
pub word_there : (core : List ℕ) (a : ℕ) → a < length core → None ≡ option_map ptw_of (slice_get core a) → ⊥
word_there core a lt none =
    let wrong : None ≡ Some (ptw_of (slice_index core a)) = none ∙ there core a lt in
    absurd cc

from_some : PtwFields → Option PtwFields → PtwFields
from_some other None = other
from_some other (Some p) = p

pub word_is : (core : List ℕ) (a : ℕ) (p : PtwFields) → a < length core → Some p ≡ option_map ptw_of (slice_get core a) → p ≡ ptw_of (slice_index core a)
unfolding from_some
word_is core a p lt e = ap (from_some p) (e ∙ there core a lt)
