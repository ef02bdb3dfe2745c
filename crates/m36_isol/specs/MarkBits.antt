-- Marks, as the laws use them.
use Rattle.std.specs.Prelude.{◌≡◌, ℕ, Bool, true, false, ◌||◌}
use Rattle.m36_desc.specs.Fields.{PtwFields}
use Rattle.m36_desc.specs.Descriptors.{ptw_of}
use Rattle.m36_model.specs.Place.{marked_word, without_used}
use Rattle.m36_model.specs.Core.{unmarked}

-- A mark changes no bit of a PTW except the used and the modified bit.
abbrev pub MarksKeepBits : Type 0
MarksKeepBits = (modified : Bool) (w : ℕ) → unmarked (marked_word modified w) ≡ unmarked w

-- the fields of a PTW after a mark: it turns `used` on, that of a write also `modified`
abbrev pub marked_fields : Bool → PtwFields → PtwFields
marked_fields modified p = record p { used = true; modified = modified || p.modified }

-- the two bits that a mark turns on are the fields `used` and `modified`, and no other field
-- changes
abbrev pub MarksAreFields : Type 0
MarksAreFields =
    (modified : Bool) (w : ℕ) → ptw_of (marked_word modified w) ≡ marked_fields modified (ptw_of w)

-- Turning the used bit of a PTW off turns its field `used` off, and changes no other field.
abbrev pub UnusedIsField : Type 0
UnusedIsField = (w : ℕ) → ptw_of (without_used w) ≡ record (ptw_of w) { used = false }
