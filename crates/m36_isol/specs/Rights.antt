-- The brackets and rights that an allowed reference needs, as the laws use them.
use Rattle.std.specs.Prelude.{◌≡◌, ℕ, ◌<◌, ◌≤◌, ◌⊎◌, Bool, true, false, None}
use Rattle.m36_desc.specs.Fields.{SdwFields}
use Rattle.m36_model.specs.Act.{RequestKind, Fetch, Indirect, Odd, Read, Write, Transfer, Call}
use Rattle.m36_model.specs.Store.{refusing_violation}

-- the brackets of a segment are in order: R1 ≤ R2 ≤ R3; every allowed reference needs this
pub record HasOrderedBrackets (d : SdwFields) : Type 0 where
  pub first : d.r1 ≤ d.r2
  pub second : d.r2 ≤ d.r3

-- an instruction is fetched within the execute bracket, with E on
pub record MayFetch (d : SdwFields) (prr : ℕ) : Type 0 where
  pub low : d.r1 ≤ prr
  pub high : prr ≤ d.r2
  pub executable : d.executable ≡ true

-- a read is within the read bracket; R is on, or the segment is the one that the processor executes
pub record MayRead (d : SdwFields) (trr : ℕ) (same : Bool) : Type 0 where
  pub high : trr ≤ d.r2
  pub opens : (d.readable ≡ true) ⊎ (same ≡ true)

-- a write is within the write bracket, with W on
pub record MayWrite (d : SdwFields) (trr : ℕ) : Type 0 where
  pub high : trr ≤ d.r1
  pub writable : d.writable ≡ true

-- a transfer is checked as a fetch in the ring of the reference, which is that of execution
pub record MayTransfer (d : SdwFields) (trr prr : ℕ) : Type 0 where
  pub fetch : MayFetch d trr
  pub ring : trr ≡ prr

-- a call comes from a ring from R1 to R3, and goes to a segment with E on; into a gate of another
-- segment, it goes to a word below the call limiter
pub record MayCall (d : SdwFields) (trr : ℕ) (same : Bool) (word : ℕ) : Type 0 where
  pub executable : d.executable ≡ true
  pub entry : d.no_gate ≡ false → same ≡ false → word < d.limit
  pub high : trr ≤ d.r3
  pub low : d.r1 ≤ trr

-- what an allowed reference of each kind needs
pub record RightsLaw : Type 0 where
  pub order :
      (kind : RequestKind) (d : SdwFields) (trr prr : ℕ) (same : Bool) (word : ℕ)
      → refusing_violation kind d trr prr same word ≡ None → HasOrderedBrackets d
  pub fetch :
      (d : SdwFields) (trr prr : ℕ) (same : Bool) (word : ℕ)
      → refusing_violation Fetch d trr prr same word ≡ None → MayFetch d prr
  pub indirect :
      (d : SdwFields) (trr prr : ℕ) (same : Bool) (word : ℕ)
      → refusing_violation Indirect d trr prr same word ≡ None → MayRead d trr same
  pub odd :
      (d : SdwFields) (trr prr : ℕ) (same : Bool) (word : ℕ)
      → refusing_violation Odd d trr prr same word ≡ None
      → MayRead d trr same
  pub read :
      (d : SdwFields) (trr prr : ℕ) (same : Bool) (word : ℕ)
      → refusing_violation Read d trr prr same word ≡ None → MayRead d trr same
  pub write :
      (d : SdwFields) (trr prr : ℕ) (same : Bool) (word : ℕ)
      → refusing_violation Write d trr prr same word ≡ None → MayWrite d trr
  pub transfer :
      (d : SdwFields) (trr prr : ℕ) (same : Bool) (word : ℕ)
      → refusing_violation Transfer d trr prr same word ≡ None → MayTransfer d trr prr
  pub call :
      (d : SdwFields) (trr prr : ℕ) (same : Bool) (word : ℕ)
      → refusing_violation Call d trr prr same word ≡ None → MayCall d trr same word
