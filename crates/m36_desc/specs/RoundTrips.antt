-- A record whose fields are within their widths is written to words and read back unchanged.
use Rattle.std.specs.Prelude.{◌≡◌, ℕ, ◌-◌, ◌^◌, ◌<◌}
use Rattle.m36_desc.specs.Fields.{SdwFields, PtwFields, DbrFields, PtrFields, ItsFields, ItpFields}
use Rattle.m36_desc.specs.Widths.{IsSdw, IsPtw, IsDbr, IsPtr, IsIts, IsItp}
use Rattle.m36_desc.specs.Descriptors.{sdw_of, sdw_even, sdw_odd, ptw_of, ptw_word, dbr_of}
use Rattle.m36_desc.specs.Descriptors.{dbr_even, dbr_odd, ptr_of, ptr_even, ptr_odd, its_of}
use Rattle.m36_desc.specs.Descriptors.{its_even, its_odd, its_tag, itp_of, itp_even, itp_odd}
use Rattle.m36_desc.specs.Descriptors.{itp_tag}
use Rattle.m36_desc.specs.Descriptors.{tag_of, pointer_of_packed, packed_word}

-- An SDW whose fields are within their widths is written to words and read back unchanged.
abbrev pub SdwRoundTrip : Type 0
SdwRoundTrip = (s : SdwFields) → IsSdw s → sdw_of (sdw_even s) (sdw_odd s) ≡ s

-- as `SdwRoundTrip`, for a PTW
abbrev pub PtwRoundTrip : Type 0
PtwRoundTrip = (p : PtwFields) → IsPtw p → ptw_of (ptw_word p) ≡ p

-- as `SdwRoundTrip`, for the DBR
abbrev pub DbrRoundTrip : Type 0
DbrRoundTrip = (d : DbrFields) → IsDbr d → dbr_of (dbr_even d) (dbr_odd d) ≡ d

-- as `SdwRoundTrip`, for a pointer register
abbrev pub PtrRoundTrip : Type 0
PtrRoundTrip = (p : PtrFields) → IsPtr p → ptr_of (ptr_even p) (ptr_odd p) ≡ p

-- as `SdwRoundTrip`, for an ITS pair
abbrev pub ItsRoundTrip : Type 0
ItsRoundTrip = (p : ItsFields) → IsIts p → its_of (its_even p) (its_odd p) ≡ p

-- as `SdwRoundTrip`, for an ITP pair
abbrev pub ItpRoundTrip : Type 0
ItpRoundTrip = (p : ItpFields) → IsItp p → itp_of (itp_even p) (itp_odd p) ≡ p

-- The even word of an ITS or ITP pair has the tag by which address formation recognises it.
pub record EvenTags : Type 0 where
  pub its : (p : ItsFields) → tag_of (its_even p) ≡ its_tag
  pub itp : (p : ItpFields) → tag_of (itp_even p) ≡ itp_tag

-- A packed pointer that was written is read back with the ring that the reader supplies.
abbrev pub PackedRoundTrip : Type 0
PackedRoundTrip =
    (seg word ring : ℕ) → seg < 2 ^ 12 - 1 → word < 2 ^ 18
    → pointer_of_packed (packed_word seg word) ring
    ≡ record { seg = seg; ring = ring; word = word; bit = 0 }
