-- The widths of the fields of each record, and of its words.
use Rattle.std.specs.Prelude.{ℕ, ◌^◌, ◌<◌}
use Rattle.m36_desc.specs.Fields.{SdwFields, PtwFields, DbrFields, PtrFields, ItsFields, ItpFields}
use Rattle.m36_desc.specs.Descriptors.{sdw_of, sdw_even, sdw_odd, ptw_of, ptw_word, dbr_of}
use Rattle.m36_desc.specs.Descriptors.{dbr_even, dbr_odd, ptr_of, ptr_even, ptr_odd, its_of}
use Rattle.m36_desc.specs.Descriptors.{its_even, its_odd, itp_of, itp_even, itp_odd}
use Rattle.m36_desc.specs.Descriptors.{pointer_of_packed}

-- the fields of an SDW are within their widths
pub record IsSdw (s : SdwFields) : Type 0 where
  pub addr : s.addr < 2 ^ 24
  pub r1 : s.r1 < 2 ^ 3
  pub r2 : s.r2 < 2 ^ 3
  pub r3 : s.r3 < 2 ^ 3
  pub fc : s.fc < 2 ^ 2
  pub bound : s.bound < 2 ^ 14
  pub limit : s.limit < 2 ^ 14

-- the fields of a PTW are within their widths
pub record IsPtw (p : PtwFields) : Type 0 where
  pub addr : p.addr < 2 ^ 18
  pub fc : p.fc < 2 ^ 2

-- the fields of the DBR are within their widths
pub record IsDbr (d : DbrFields) : Type 0 where
  pub addr : d.addr < 2 ^ 24
  pub bnd : d.bnd < 2 ^ 14
  pub stack : d.stack < 2 ^ 12

-- the fields of a pointer register are within their widths
pub record IsPtr (p : PtrFields) : Type 0 where
  pub seg : p.seg < 2 ^ 15
  pub ring : p.ring < 2 ^ 3
  pub word : p.word < 2 ^ 18
  pub bit : p.bit < 2 ^ 6

-- the fields of an ITS pair are within their widths
pub record IsIts (p : ItsFields) : Type 0 where
  pub seg : p.seg < 2 ^ 15
  pub ring : p.ring < 2 ^ 3
  pub word : p.word < 2 ^ 18
  pub bit : p.bit < 2 ^ 6
  pub tag : p.tag < 2 ^ 6

-- the fields of an ITP pair are within their widths
pub record IsItp (p : ItpFields) : Type 0 where
  pub pr : p.pr < 2 ^ 3
  pub word : p.word < 2 ^ 18
  pub bit : p.bit < 2 ^ 6
  pub tag : p.tag < 2 ^ 6

-- Each field of an SDW is within its width, whatever the words that it is read from.
abbrev pub SdwFits : Type 0
SdwFits = (even odd : ℕ) → IsSdw (sdw_of even odd)

-- as `SdwFits`, for a PTW
abbrev pub PtwFits : Type 0
PtwFits = (w : ℕ) → IsPtw (ptw_of w)

-- as `SdwFits`, for the DBR
abbrev pub DbrFits : Type 0
DbrFits = (even odd : ℕ) → IsDbr (dbr_of even odd)

-- as `SdwFits`, for a pointer register that is read from an ITS pair
abbrev pub PtrFits : Type 0
PtrFits = (even odd : ℕ) → IsPtr (ptr_of even odd)

-- as `SdwFits`, for an ITS pair
abbrev pub ItsFits : Type 0
ItsFits = (even odd : ℕ) → IsIts (its_of even odd)

-- as `SdwFits`, for an ITP pair
abbrev pub ItpFits : Type 0
ItpFits = (even odd : ℕ) → IsItp (itp_of even odd)

-- as `SdwFits`, for a pointer register that is read from a packed pointer, which has no ring
abbrev pub PackedFits : Type 0
PackedFits = (w ring : ℕ) → ring < 2 ^ 3 → IsPtr (pointer_of_packed w ring)

-- both numbers are below 2^36, as words are
pub record AreWords (first second : ℕ) : Type 0 where
  pub even : first < 2 ^ 36
  pub odd : second < 2 ^ 36

-- The words of an SDW whose fields are within their widths have 36 bits.
abbrev pub SdwWords : Type 0
SdwWords = (s : SdwFields) → IsSdw s → AreWords (sdw_even s) (sdw_odd s)

-- as `SdwWords`, for a PTW
abbrev pub PtwWords : Type 0
PtwWords = (p : PtwFields) → IsPtw p → ptw_word p < 2 ^ 36

-- as `SdwWords`, for the DBR
abbrev pub DbrWords : Type 0
DbrWords = (d : DbrFields) → IsDbr d → AreWords (dbr_even d) (dbr_odd d)

-- as `SdwWords`, for a pointer register
abbrev pub PtrWords : Type 0
PtrWords = (p : PtrFields) → IsPtr p → AreWords (ptr_even p) (ptr_odd p)

-- as `SdwWords`, for an ITS pair
abbrev pub ItsWords : Type 0
ItsWords = (p : ItsFields) → IsIts p → AreWords (its_even p) (its_odd p)

-- as `SdwWords`, for an ITP pair
abbrev pub ItpWords : Type 0
ItpWords = (p : ItpFields) → IsItp p → AreWords (itp_even p) (itp_odd p)
