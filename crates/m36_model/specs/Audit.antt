-- The six conditions of the audit, each by what breaks it, and the findings of the audit.
use Rattle.std.specs.Prelude.{◌≡◌, ◌≢◌, ℕ, ◌+◌, ◌<◌, ◌≤◌, ◌⊎◌, Bool, true, false, ◌&&◌}
use Rattle.std.specs.Prelude.{◌==◌, List, [], ◌∷◌, ◌++◌, length, Option, Some, None, Result, Ok}
use Rattle.std.specs.Prelude.{Err}
use Rattle.m36_desc.specs.Fields.{SdwFields, DbrFields}
use Rattle.m36_desc.specs.Access.{has_ordered_brackets}
use Rattle.m36_model.specs.Store.{Core_word, place}
use Rattle.m36_model.specs.Place.{wrapped_address, has_descriptor_in_bounds, sdw_place}
use Rattle.m36_model.specs.Place.{directory_at, page_at, last_page}
use Rattle.m36_model.specs.Place.{core_sdw, ring_stack}
use Rattle.m36_model.specs.Core.{core_store}
use Rattle.m36_model.specs.declared.outcome.Refusal.{Refusal}

-- the core word at an address is one of the two words of a descriptor that is in bounds
pub record IsSdwWord (core : List ℕ) (dbr : DbrFields) (seg a : ℕ) : Type 0 where
  pub even : ℕ
  pub found : sdw_place core dbr seg ≡ Ok even
  pub half : (a ≡ even) ⊎ (a ≡ wrapped_address (even + 1))

-- the address is that of the PTW of a paged descriptor segment for a descriptor that is in bounds
pub record IsDirectoryWord (dbr : DbrFields) (seg a : ℕ) : Type 0 where
  pub bounds : has_descriptor_in_bounds dbr seg ≡ true
  pub paged : dbr.unpaged ≡ false
  pub found : a ≡ directory_at dbr seg

-- the address is that of the PTW of a live paged segment for a page that begins within its bound
pub record IsPageWord (core : List ℕ) (dbr : DbrFields) (seg page a : ℕ) : Type 0 where
  pub sdw : SdwFields
  pub live : core_sdw core dbr seg ≡ Ok sdw
  pub paged : sdw.unpaged ≡ false
  pub begins : page ≤ last_page sdw
  pub found : a ≡ page_at sdw page

-- the tables: the descriptors, the page table of the descriptor segment, and the page table of each
-- live paged segment
pub data Table : Type 0 where
  Sdws : Table
  Directory : Table
  Pages : (seg : ℕ) → Table

-- the core word at an address is a word of a table
abbrev pub IsWordOfTable : List ℕ → DbrFields → Table → ℕ → Type 0
IsWordOfTable core dbr Sdws a = (seg : ℕ) × IsSdwWord core dbr seg a
IsWordOfTable core dbr Directory a = (seg : ℕ) × IsDirectoryWord dbr seg a
IsWordOfTable core dbr (Pages seg) a = (page : ℕ) × IsPageWord core dbr seg page a

-- the core word at an address is word w of a segment
abbrev pub IsSegmentWord : List ℕ → DbrFields → ℕ → ℕ → ℕ → Type 0
IsSegmentWord core dbr seg w a = place core_store core dbr seg w ≡ Ok (Core_word a)

-- First condition: each live segment has its ring brackets in order. A segment breaks it. This
-- condition, the fifth and the sixth depend only on descriptors; those of core or of a flat memory.
pub record IsOutOfOrder (sdws : ℕ → Result SdwFields Refusal) (seg : ℕ) : Type 0 where
  pub sdw : SdwFields
  pub live : sdws seg ≡ Ok sdw
  pub out : has_ordered_brackets sdw ≡ false

-- a core word below `size` is a word of two tables, where Of says what the words of a table are
pub record IsInTwo (Of : Table → ℕ → Type 0) (size a : ℕ) : Type 0 where
  pub inside : a < size
  pub table : Table
  pub other : Table
  pub of : Of table a
  pub of_other : Of other a
  pub differ : table ≢ other

-- Second condition: no core word is a word of two tables. A core word breaks it.
abbrev pub IsInTwoTables : List ℕ → DbrFields → ℕ → Type 0
IsInTwoTables core dbr = IsInTwo (IsWordOfTable core dbr) (length core)

-- Third condition: no core word is both a table word and a word of a segment. A core word breaks
-- it.
pub record IsTableAndSegment (core : List ℕ) (dbr : DbrFields) (a : ℕ) : Type 0 where
  pub table : Table
  pub of : IsWordOfTable core dbr table a
  pub seg : ℕ
  pub w : ℕ
  pub word : IsSegmentWord core dbr seg w a

-- Fourth condition: no core word is two words of segments. A core word breaks it.
pub record IsInTwoSegments (core : List ℕ) (dbr : DbrFields) (a : ℕ) : Type 0 where
  pub seg : ℕ
  pub w : ℕ
  pub word : IsSegmentWord core dbr seg w a
  pub other_seg : ℕ
  pub other_w : ℕ
  pub other_word : IsSegmentWord core dbr other_seg other_w a
  pub differ : (seg ≢ other_seg) ⊎ (w ≢ other_w)

-- the second, third and fourth condition: table words and words of segments are separate
pub record AreApart (core : List ℕ) (dbr : DbrFields) : Type 0 where
  pub tables : (a : ℕ) → IsInTwoTables core dbr a → ⊥
  pub segments : (a : ℕ) → IsTableAndSegment core dbr a → ⊥
  pub words : (a : ℕ) → IsInTwoSegments core dbr a → ⊥

-- a live segment that rings above R2 may call
pub record IsCallable (sdws : ℕ → Result SdwFields Refusal) (seg : ℕ) (sdw : SdwFields)
    : Type 0 where
  pub live : sdws seg ≡ Ok sdw
  pub executable : sdw.executable ≡ true
  pub outer : sdw.r2 < sdw.r3

-- Fifth condition: each live segment with E on and R3 greater than R2 is a gate. A segment breaks
-- it.
pub record IsNoGate (sdws : ℕ → Result SdwFields Refusal) (seg : ℕ) : Type 0 where
  pub sdw : SdwFields
  pub callable : IsCallable sdws seg sdw
  pub open_everywhere : sdw.no_gate ≡ true

-- whether a segment can be the stack of a ring: it is live, R and W are on, and R1 and R2 are this
-- ring
abbrev pub is_stack_of : ℕ → Result SdwFields Refusal → Bool
is_stack_of ring (Ok d) = (d.readable && d.writable) && (d.r1 == ring && d.r2 == ring)
is_stack_of ring (Err e) = false

-- Sixth condition: for each live segment with E on and R3 greater than R2, the ring that a call
-- enters has a stack. A segment breaks it.
pub record HasNoStack (dbr : DbrFields) (sdws : ℕ → Result SdwFields Refusal) (seg : ℕ)
    : Type 0 where
  pub sdw : SdwFields
  pub callable : IsCallable sdws seg sdw
  pub missing : is_stack_of sdw.r2 (sdws (ring_stack dbr sdw.r2)) ≡ false

-- The fifth and sixth condition, stated for descriptors: a segment that rings above R2 may call is
-- a gate, and the ring that a call enters has a stack.
pub record IsGuarded (dbr : DbrFields) (sdws : ℕ → Result SdwFields Refusal) : Type 0 where
  pub gates :
      (seg : ℕ) (d : SdwFields) → sdws seg ≡ Ok d → d.executable ≡ true → d.r2 < d.r3
      → d.no_gate ≡ false
  pub stacks :
      (seg : ℕ) (d : SdwFields) → sdws seg ≡ Ok d → d.executable ≡ true → d.r2 < d.r3
      → is_stack_of d.r2 (sdws (ring_stack dbr d.r2)) ≡ true

-- all six conditions hold
pub record IsAudited (core : List ℕ) (dbr : DbrFields) : Type 0 where
  pub first : (seg : ℕ) → IsOutOfOrder (core_sdw core dbr) seg → ⊥
  pub second : (a : ℕ) → IsInTwoTables core dbr a → ⊥
  pub third : (a : ℕ) → IsTableAndSegment core dbr a → ⊥
  pub fourth : (a : ℕ) → IsInTwoSegments core dbr a → ⊥
  pub fifth : (seg : ℕ) → IsNoGate (core_sdw core dbr) seg → ⊥
  pub sixth : (seg : ℕ) → HasNoStack dbr (core_sdw core dbr) seg → ⊥

-- the finding of one condition: none if it holds, and otherwise the least place that breaks it
abbrev pub Finds : (ℕ → Type 0) → Option ℕ → Type 0
Finds Breaks None = (p : ℕ) → Breaks p → ⊥
Finds Breaks (Some p) = Breaks p × ((q : ℕ) → Breaks q → p ≤ q)

-- the finding of a condition as a list of one, with the number of the condition; an empty list if
-- the condition holds
abbrev pub numbered_finding : ℕ → Option ℕ → List (ℕ × ℕ)
numbered_finding condition None = []
numbered_finding condition (Some p) = (condition, p) ∷ []

-- the findings of an audit: one for each condition that fails, in the order of the conditions
pub record AreFindings (core : List ℕ) (dbr : DbrFields) (findings : List (ℕ × ℕ)) : Type 0 where
  pub first : Option ℕ
  pub finds_first : Finds (IsOutOfOrder (core_sdw core dbr)) first
  pub second : Option ℕ
  pub finds_second : Finds (IsInTwoTables core dbr) second
  pub third : Option ℕ
  pub finds_third : Finds (IsTableAndSegment core dbr) third
  pub fourth : Option ℕ
  pub finds_fourth : Finds (IsInTwoSegments core dbr) fourth
  pub fifth : Option ℕ
  pub finds_fifth : Finds (IsNoGate (core_sdw core dbr)) fifth
  pub sixth : Option ℕ
  pub finds_sixth : Finds (HasNoStack dbr (core_sdw core dbr)) sixth
  pub listed :
      findings
      ≡ numbered_finding 1 first ++ numbered_finding 2 second ++ numbered_finding 3 third
      ++ numbered_finding 4 fourth ++ numbered_finding 5 fifth
      ++ numbered_finding 6 sixth
