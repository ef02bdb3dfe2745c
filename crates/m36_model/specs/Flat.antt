-- The flat store: the descriptors of a booted image and the content of its segments, without page
-- tables and without marks. The spot of a word is its segment and word number.
use Rattle.std.specs.Prelude.{◌≡◌, ℕ, ◌+◌, ◌*◌, Bool, true, false, ◌&&◌, ◌==◌, if◌then◌else◌}
use Rattle.std.specs.Prelude.{List, [], ◌∷◌, slice_get, Result, Ok, Err}
use Rattle.m36_desc.specs.Fields.{SdwFields, DbrFields}
use Rattle.m36_desc.specs.Violations.{out_of_segment_bounds}
use Rattle.m36_model.specs.Act.{RequestKind, Part}
use Rattle.m36_model.specs.Store.{Spot, Core_word, Segment_word, Change, SegTable, Tables, Store}
use Rattle.m36_model.specs.Store.{with_part_written, violation}
use Rattle.m36_model.specs.Place.{has_descriptor_in_bounds, sdw_words}
use Rattle.m36_model.specs.Audit.{IsOutOfOrder, IsNoGate, HasNoStack}
use Rattle.m36_model.specs.declared.outcome.Refusal.{Refusal}

-- the words of the descriptor segment, and the content of each word of each segment
pub record Flat : Type 0 where
  pub descriptors : List ℕ
  pub content : ℕ → ℕ → ℕ

-- the descriptor of a segment, if it is in bounds (true) and live
abbrev pub flat_sdw_by : Bool → List ℕ → ℕ → Result SdwFields Refusal
flat_sdw_by true words seg = sdw_words (slice_get words (2 * seg)) (slice_get words (2 * seg + 1))
flat_sdw_by false words seg = Err (violation out_of_segment_bounds)

-- the descriptor of a segment; a refusal if it is out of bounds or not live
unfoldable pub flat_sdw : Flat → DbrFields → ℕ → Result SdwFields Refusal
flat_sdw s dbr seg = flat_sdw_by (has_descriptor_in_bounds dbr seg) s.descriptors seg

-- each word within the bound has a spot
abbrev pub flat_spot : Flat → DbrFields → SdwFields → ℕ → ℕ → Result Spot Refusal
flat_spot s dbr d seg w = Ok (Segment_word seg w)

-- the word at a spot
abbrev pub flat_word : Flat → Spot → ℕ
flat_word s (Core_word a) = 0
flat_word s (Segment_word seg w) = s.content seg w

-- content with one word, or a half of it, written
abbrev pub content_with : (ℕ → ℕ → ℕ) → ℕ → ℕ → Part → ℕ → ℕ → ℕ → ℕ
content_with content seg w part v seg' w' =
    if (seg == seg') && (w == w') then with_part_written part
    (content seg' w') v else content seg' w'

-- the flat memory with one word, or a half of it, written; a core word is none of its words
abbrev pub flat_put_one : Flat → Spot → Part → ℕ → Flat
flat_put_one s (Core_word a) part v = s
flat_put_one s (Segment_word seg w) part v =
    record s { content = content_with s.content seg w part v }

-- the memory with words written, in order
unfoldable pub flat_put : Flat → List Change → Flat
flat_put s [] = s
flat_put s (p ∷ puts) = flat_put (flat_put_one s p.spot p.part p.value) puts

-- the table words of a segment: its descriptor, if it is in bounds (true)
abbrev pub flat_table_by : Bool → List ℕ → ℕ → SegTable
flat_table_by true words seg =
    record {
      directory = [];
      sdw =
          (2 * seg, slice_get words (2 * seg)) ∷ (2 * seg + 1, slice_get words (2 * seg + 1)) ∷ [];
      pages = [];
    }
flat_table_by false words seg = record { directory = []; sdw = []; pages = [] }

-- the tables of a flat memory: the words of its descriptors
unfoldable pub flat_tables : Flat → DbrFields → Tables
flat_tables s dbr =
    record {
      dbr = dbr;
      size = 0;
      of = λ seg. flat_table_by
          (has_descriptor_in_bounds dbr seg) s.descriptors seg;
    }

-- a reference sets no marks
abbrev pub flat_marked : Flat → DbrFields → RequestKind → ℕ → ℕ → Flat
flat_marked s dbr kind seg w = s

-- a flat memory as a store
abbrev pub flat_store : Store Flat
flat_store =
    record {
      sdw = flat_sdw;
      spot = flat_spot;
      word = flat_word;
      marked = flat_marked;
      put = flat_put;
      tables = flat_tables;
    }

-- The audit conditions that depend only on descriptors: the first, the fifth and the sixth.
pub record IsFlatAudited (s : Flat) (dbr : DbrFields) : Type 0 where
  pub first : (seg : ℕ) → IsOutOfOrder (flat_sdw s dbr) seg → ⊥
  pub fifth : (seg : ℕ) → IsNoGate (flat_sdw s dbr) seg → ⊥
  pub sixth : (seg : ℕ) → HasNoStack dbr (flat_sdw s dbr) seg → ⊥

-- the flat memory `now` has the descriptors of `s`
abbrev pub HasDescriptors : Flat → DbrFields → Flat → Type 0
HasDescriptors s dbr now = flat_tables now dbr ≡ flat_tables s dbr

-- a spot of the flat store
abbrev pub IsFlatSpot : Spot → Type 0
IsFlatSpot (Core_word a) = ⊥
IsFlatSpot (Segment_word seg w) = Unit {0}

-- marks change nothing in a flat store
abbrev pub IsSameFlat : Flat → Flat → Type 0
IsSameFlat old new = new ≡ old
