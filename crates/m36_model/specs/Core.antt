-- The store that is core: a list of words, in which segments and pages are found by tables.
use Rattle.std.specs.Prelude.{ℕ, zero, suc, ◌+◌, ◌*◌, ◌/◌, ◌%◌, not, ◌&&◌, if◌then◌else◌, List, []}
use Rattle.std.specs.Prelude.{◌∷◌, length, slice_get, slice_index, slice_set, Option, option_map}
use Rattle.std.specs.Prelude.{Result, Ok, Err}
use Rattle.m36_desc.specs.Fields.{SdwFields, DbrFields}
use Rattle.m36_model.specs.Act.{Part}
use Rattle.m36_model.specs.Place.{wrapped_address, directory_at, page_at, last_page}
use Rattle.m36_model.specs.Place.{has_descriptor_in_bounds, sdw_place}
use Rattle.m36_model.specs.Place.{core_sdw, core_spot, core_marked}
use Rattle.m36_model.specs.Store.{Spot, Core_word, Segment_word, Change, SegTable, Tables, Store}
use Rattle.m36_model.specs.Store.{with_part_written}
use Rattle.m36_model.specs.declared.outcome.Refusal.{Refusal}

-- the word at a spot
abbrev pub core_word : List ℕ → Spot → ℕ
core_word core (Core_word a) = slice_index core a
core_word core (Segment_word s w) = 0

-- core with one word, or a half of it, written at a spot
abbrev pub put_one : List ℕ → Spot → Part → ℕ → List ℕ
put_one core (Core_word a) part v = slice_set core a (with_part_written part (slice_index core a) v)
put_one core (Segment_word s w) part v = core

-- core with words written, in order
unfoldable pub core_put : List ℕ → List Change → List ℕ
core_put core [] = core
core_put core (p ∷ puts) = core_put (put_one core p.spot p.part p.value) puts

-- a PTW without its marks: the used bit (26) and the modified bit (29) are off
unfoldable pub unmarked : ℕ → ℕ
unmarked w = (w / 1024 * 1024 + w / 128 % 4 * 128) + w % 64

-- an address with the PTW there, without its marks
abbrev pub ptw_entry : List ℕ → ℕ → ℕ × Option ℕ
ptw_entry core a = (a, option_map unmarked (slice_get core a))

-- an address with the word there
abbrev pub sdw_entry : List ℕ → ℕ → ℕ × Option ℕ
sdw_entry core a = (a, slice_get core a)

-- the addresses of the two words of an SDW, with these words; none if it has no place
abbrev pub sdw_entries : List ℕ → Result ℕ Refusal → List (ℕ × Option ℕ)
sdw_entries core (Ok a) = sdw_entry core a ∷ sdw_entry core (wrapped_address (a + 1)) ∷ []
sdw_entries core (Err e) = []

-- the entries of the PTWs of a segment for page n down to page 0
abbrev pub pages_to : List ℕ → SdwFields → ℕ → List (ℕ × Option ℕ)
pages_to core d zero = ptw_entry core (page_at d zero) ∷ []
pages_to core d (suc n) = ptw_entry core (page_at d (suc n)) ∷ pages_to core d n

-- the entries of the PTWs of the pages that begin within the bound
abbrev pub page_entries : List ℕ → Result SdwFields Refusal → List (ℕ × Option ℕ)
page_entries core (Err e) = []
page_entries core (Ok d) = if d.unpaged then [] else pages_to core d (last_page d)

-- the table words of a segment
abbrev pub segment_table : List ℕ → DbrFields → ℕ → SegTable
segment_table core dbr seg =
    record {
      directory =
          if has_descriptor_in_bounds dbr seg && not dbr.unpaged
          then ptw_entry core (directory_at dbr seg) ∷ []
          else [];
      sdw = sdw_entries core (sdw_place core dbr seg);
      pages = page_entries core (core_sdw core dbr seg);
    }

-- the tables of core, without marks
unfoldable pub core_tables : List ℕ → DbrFields → Tables
core_tables core dbr = record { dbr = dbr; size = length core; of = segment_table core dbr }

-- core as a store
abbrev pub core_store : Store (List ℕ)
core_store =
    record {
      sdw = core_sdw;
      spot = core_spot;
      word = core_word;
      marked = core_marked;
      put = core_put;
      tables = core_tables;
    }
