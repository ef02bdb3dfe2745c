-- The content of a segment, and which segments a ring can see and can change.
use Rattle.std.specs.Prelude.{◌≡◌, ℕ, ◌≤◌, true, ◌||◌, Option, Some, None, Result, Ok, Err}
use Rattle.m36_desc.specs.Fields.{SdwFields, DbrFields}
use Rattle.m36_model.specs.Store.{Spot, Store, State, Tables, place}
use Rattle.m36_model.specs.declared.outcome.Refusal.{Refusal}

-- the segment has this descriptor; so it is live
abbrev pub IsLive : {S : Type 0} → Store S → State S → ℕ → SdwFields → Type 0
IsLive o s seg d = o.sdw s.store s.regs.dbr seg ≡ Ok d

-- the word at a spot, if there is one
abbrev pub word_if_placed : {S : Type 0} → Store S → S → Result Spot Refusal → Option ℕ
word_if_placed o s (Ok spot) = Some (o.word s spot)
word_if_placed o s (Err e) = None

-- the word of a segment, or None if it has no place
unfoldable pub content_in : {S : Type 0} → Store S → S → DbrFields → ℕ → ℕ → Option ℕ
content_in o s dbr seg w = word_if_placed o s (place o s dbr seg w)

-- the content of word w of a segment, in a state
abbrev pub content : {S : Type 0} → Store S → State S → ℕ → ℕ → Option ℕ
content o s seg w = content_in o s.store s.regs.dbr seg w

-- the DBR and the table words of the store, without marks
abbrev pub tables_of : {S : Type 0} → Store S → State S → Tables
tables_of o s = o.tables s.store s.regs.dbr

-- ring r can see the segment: it is live, R or E is on, and R2 is at least r
pub record InSight {S : Type 0} (o : Store S) (s : State S) (r seg : ℕ) : Type 0 where
  pub sdw : SdwFields
  pub live : IsLive o s seg sdw
  pub opens : (sdw.readable || sdw.executable) ≡ true
  pub high : r ≤ sdw.r2

-- ring r can change the segment: it is live, W is on, and R1 is at least r
pub record InReach {S : Type 0} (o : Store S) (s : State S) (r seg : ℕ) : Type 0 where
  pub sdw : SdwFields
  pub live : IsLive o s seg sdw
  pub opens : sdw.writable ≡ true
  pub high : r ≤ sdw.r1

-- every segment that ring r cannot change has the same content as before
abbrev pub Unreached : {S : Type 0} → Store S → ℕ → State S → State S → Type 0
Unreached o r old new =
    (seg w : ℕ) → (InReach o old r seg → ⊥) → content o new seg w ≡ content o old seg w
