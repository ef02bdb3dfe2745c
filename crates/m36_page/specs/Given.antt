-- The pager that is made from page tables: every page is in no frame, and missing words are zero.
use Rattle.std.specs.Prelude.{ℕ, ◌+◌, ◌-◌, ◌*◌, Bool, true, ◌&&◌, ◌||◌, nat_le, List, [], ◌∷◌}
use Rattle.std.specs.Prelude.{◌++◌, length, map, replicate, None}
use Rattle.std.specs.List.{list_all}
use Rattle.m36_page.specs.declared.table.PageTable.{PageTable}
use Rattle.m36_page.specs.Fields.{TableFields, PagerFields}

-- the table of a pager for this page table, with a kept word for every word of its pages: missing
-- words are zero
abbrev pub filled_table : PageTable → TableFields
filled_table t =
    record {
      seg = t.seg;
      at = t.at;
      pages = t.pages;
      words = t.words ++ replicate (1024 * t.pages - length t.words) 0;
    }

-- the pager over `frames` frames from frame `first` on, with these page tables
abbrev pub initial_pager : ℕ → ℕ → List PageTable → PagerFields
initial_pager first frames tables =
    record { first = first; holders = replicate frames None; tables = map filled_table tables }

-- A table ends below a frame, and has no more words than its pages.
abbrev pub fits_below : ℕ → PageTable → Bool
fits_below first t =
    nat_le (t.at + t.pages) (1024 * first) && nat_le (length t.words) (1024 * t.pages)

-- Two tables share no core word.
abbrev pub is_apart : PageTable → PageTable → Bool
is_apart a b = nat_le (a.at + a.pages) b.at || nat_le (b.at + b.pages) a.at

-- Each table ends below frame `first` and has no more words than its pages, and no two share a
-- core word.
unfoldable pub are_placed : ℕ → List PageTable → Bool
are_placed first [] = true
are_placed first (t ∷ tables) =
    fits_below first t && list_all (is_apart t) tables && are_placed first tables
