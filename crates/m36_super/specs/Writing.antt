-- Words of segments that are written, wherever their pages are.
use Rattle.std.specs.Prelude.{◌≡◌, ℕ, List, length}
use Rattle.m36_model.specs.Store.{Change}
use Rattle.m36_model.specs.Flat.{Flat, flat_put}
use Rattle.m36_model.specs.Residence.{Paged, flat_of}
use Rattle.m36_page.specs.Fields.{PagerFields}
use Rattle.m36_page.specs.Residence.{paged_by}
use Rattle.m36_super.specs.PagedPut.{paged_put}
use Rattle.m36_super.specs.SuperFields.{IsManaged}

-- core, with the words that a pager keeps
unfoldable pub memory_by : List ℕ → PagerFields → Paged
memory_by core p = paged_by core p

-- the flat memory that core and a pager represent
abbrev pub flat_by : List ℕ → PagerFields → Flat
flat_by core p = flat_of (paged_by core p)

-- The changes are made in core and in the kept words, and the flat memory changes by them. The
-- pager and its core still satisfy `IsManaged`.
pub record ArePut
    (core : List ℕ) (p : PagerFields) (now : List ℕ) (q : PagerFields) (changes : List Change)
    : Type 0 where
  pub put : memory_by now q ≡ paged_put (memory_by core p) changes
  pub flat : flat_by now q ≡ flat_put (flat_by core p) changes
  pub frames : length q.holders ≡ length p.holders
  pub managed : IsManaged (length q.holders) now q
