-- The object in a list of words, by the result of reading it.
use Rattle.std.proofs.Common.{ℕ, ◌≡◌, List, Option, Some, None, Ok, Err, refl}
use Rattle.obj36_parts.specs.PartsFields.{PartsFields}
use Rattle.obj36.specs.ObjectOf.{encoded_parts, parts_or_fault, object_of}
use Rattle.obj36.specs.Faults.{first_fault}
use Rattle.obj36.specs.declared.fault.ObjectFault.{ObjectFault}

some_by : (o : Option PartsFields) (fault : ObjectFault) (p : PartsFields) → parts_or_fault o fault ≡ Ok p → o ≡ Some p
some_by None fault p e = absurd (cc)
some_by (Some q) fault p e = cc

none_by : (o : Option PartsFields) (fault told : ObjectFault) → parts_or_fault o fault ≡ Err told → o ≡ None
none_by None fault told e = refl
none_by (Some q) fault told e = absurd (cc)

pub object_read : (words : List ℕ) (p : PartsFields) → object_of words ≡ Ok p → encoded_parts words ≡ Some p
unfolding object_of
object_read words p e = some_by (encoded_parts words) (first_fault words) p e

pub object_refused : (words : List ℕ) (told : ObjectFault) → object_of words ≡ Err told → encoded_parts words ≡ None
unfolding object_of
object_refused words told e = none_by (encoded_parts words) (first_fault words) told e

pub ruleset objects = (object_read, object_refused)
