-- What holds of a step between two requests, and what a program ensures before it makes one.
use Rattle.std.proofs.Common.{◌≡◌}
use Rattle.std.specs.Prelude.{ℕ, ◌≤◌, ◌==◌, ◌||◌, true, None, Result, Ok}
use Rattle.m36_desc.specs.Fields.{SdwFields}
use Rattle.m36_model.specs.Registers.{RegsFields}
use Rattle.m36_model.specs.Act.{RequestKind, Fetch, Indirect, Odd, Read, Write, Transfer, Call, Locate, Request, Answer}
use Rattle.m36_model.specs.Store.{Spot, Store, Midstep, refusing_violation}
use Rattle.m36_model.specs.StoreLaw.{Each, IsPlacedWord}
use Rattle.m36_model.specs.declared.outcome.Refusal.{Refusal}
use Rattle.m36_model.specs.declared.place.Kind.{Kind}
use Rattle.m36_model.specs.declared.place.Kind.TheVariants as reference
use Rattle.m36_model.specs.declared.place.Reference.{Reference}

-- ring r can see a segment, or can change it, by the descriptors
pub record Sees (sdws : ℕ → Result SdwFields Refusal) (r seg : ℕ) : Type 0 where
  pub sdw : SdwFields
  pub live : sdws seg ≡ Ok sdw
  pub opens : (sdw.readable || sdw.executable) ≡ true
  pub high : r ≤ sdw.r2

pub record Reaches (sdws : ℕ → Result SdwFields Refusal) (r seg : ℕ) : Type 0 where
  pub sdw : SdwFields
  pub live : sdws seg ≡ Ok sdw
  pub opens : sdw.writable ≡ true
  pub high : r ≤ sdw.r1

-- the spot of a word that ring r can change
pub record IsReached (sdws : ℕ → Result SdwFields Refusal) (spots : SdwFields → ℕ → ℕ → Result Spot Refusal) (r : ℕ) (p : Spot) : Type 0 where
  pub seg : ℕ
  pub w : ℕ
  pub word : IsPlacedWord sdws spots seg w p
  pub reaches : Reaches sdws r seg

-- a completed reference is to a segment that ring r can see or, for a Write, can change
abbrev pub IsAllowed : (ℕ → Result SdwFields Refusal) → ℕ → ℕ → Kind → Type 0
IsAllowed sdws r seg reference.Fetch = Sees sdws r seg
IsAllowed sdws r seg reference.Indirect = Sees sdws r seg
IsAllowed sdws r seg reference.Read = Sees sdws r seg
IsAllowed sdws r seg reference.Write = Reaches sdws r seg

abbrev pub IsAllowedReference : (ℕ → Result SdwFields Refusal) → ℕ → Reference → Type 0
IsAllowedReference sdws r e = IsAllowed sdws r e.at.seg e.kind

-- before a request: its ring is at least r, and except for the fetch, ring r can see the segment
-- that the processor executes
abbrev pub MayRing : (ℕ → Result SdwFields Refusal) → ℕ → RegsFields → RequestKind → ℕ → Type 0
MayRing sdws r g Fetch ring = Unit {0}
MayRing sdws r g Indirect ring = (r ≤ ring) × Sees sdws r g.ppr.psr
MayRing sdws r g Odd ring = (r ≤ ring) × Sees sdws r g.ppr.psr
MayRing sdws r g Read ring = (r ≤ ring) × Sees sdws r g.ppr.psr
MayRing sdws r g Write ring = r ≤ ring
MayRing sdws r g Transfer ring = Unit {0}
MayRing sdws r g Call ring = Unit {0}
MayRing sdws r g Locate ring = Unit {0}

pub record May (sdws : ℕ → Result SdwFields Refusal) (r : ℕ) (g : RegsFields) (q : Request) : Type 0 where
  pub some : 1 ≤ q.count
  pub ring : MayRing sdws r g q.kind q.at.ring

-- the descriptor of an answer is that of the tables, and allows the reference
pub record Known (sdws : ℕ → Result SdwFields Refusal) (g : RegsFields) (q : Request) (a : Answer) : Type 0 where
  pub live : sdws q.at.seg ≡ Ok a.sdw
  pub allowed : refusing_violation q.kind a.sdw q.at.ring g.ppr.prr (q.at.seg == g.ppr.psr) q.at.word ≡ None

module _ {S : Type 0} (o : Store S) (Has : S → Type 0) (Lies : Spot → Type 0) (Near : S → S → Type 0) where
  -- the store differs from that at the beginning of the step only by marks
  pub record IsKept (first now : S) : Type 0 where
    pub has : Has now
    pub words : (p : Spot) → Lies p → o.word now p ≡ o.word first p
    pub near : Near first now

  -- two steps, from the stores `first` and `other`, have made the same references and claims
  pub record Alike (sdws : ℕ → Result SdwFields Refusal) (spots : SdwFields → ℕ → ℕ → Result Spot Refusal) (r : ℕ) (first other : S) (x y : Midstep S) : Type 0 where
    pub kept : IsKept first x.store
    pub kept_other : IsKept other y.store
    pub claims : x.claims ≡ y.claims
    pub refs : x.refs ≡ y.refs
    pub claimed : Each (IsReached sdws spots r) x.claims
    pub allowed : Each (IsAllowedReference sdws r) x.refs

-- words that ring r can see are equal in two stores
abbrev pub SeeEqual : {S : Type 0} → Store S → (ℕ → Result SdwFields Refusal) → (SdwFields → ℕ → ℕ → Result Spot Refusal) → ℕ → S → S → Type 0
SeeEqual o sdws spots r first other =
    (seg w : ℕ) (p : Spot) → Sees sdws r seg → IsPlacedWord sdws spots seg w p → o.word first p ≡ o.word other p
