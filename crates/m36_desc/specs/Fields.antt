-- Descriptors as contracts see them: numbers and Booleans. The types keep each number below 2 to
-- the power of its width (`Widths.antt`). `Descriptors.antt` has the bits of each field.
use Rattle.std.specs.Prelude.{ℕ, Bool}

-- a segment descriptor word
pub record SdwFields : Type 0 where
  pub addr : ℕ
  pub r1 : ℕ
  pub r2 : ℕ
  pub r3 : ℕ
  pub f : Bool
  pub fc : ℕ
  pub bound : ℕ
  pub readable : Bool
  pub executable : Bool
  pub writable : Bool
  pub privileged : Bool
  pub unpaged : Bool
  pub no_gate : Bool
  pub cached : Bool
  pub limit : ℕ

-- a page table word
pub record PtwFields : Type 0 where
  pub addr : ℕ
  pub used : Bool
  pub modified : Bool
  pub f : Bool
  pub fc : ℕ

-- the descriptor segment base register
pub record DbrFields : Type 0 where
  pub addr : ℕ
  pub bnd : ℕ
  pub unpaged : Bool
  pub stack : ℕ

-- a pointer register
pub record PtrFields : Type 0 where
  pub seg : ℕ
  pub ring : ℕ
  pub word : ℕ
  pub bit : ℕ

-- an ITS pair
pub record ItsFields : Type 0 where
  pub seg : ℕ
  pub ring : ℕ
  pub word : ℕ
  pub bit : ℕ
  pub tag : ℕ

-- an ITP pair
pub record ItpFields : Type 0 where
  pub pr : ℕ
  pub word : ℕ
  pub bit : ℕ
  pub tag : ℕ
