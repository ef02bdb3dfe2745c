-- What the memories and the pages in front find.
use Rattle.std.proofs.Common.{ℕ, ◌≡◌, ◌+◌, ◌*◌, ◌/◌, ◌%◌, ◌<◌, ◌^◌, ◌++◌, Bool, true, false, if◌then◌else◌, List, [], ◌∷◌, length, Option, Some, None, option_map, Ok, slice_get, slice_set, slice_index, refl, sym, ap, ◌∙◌, arith}
use Rattle.std.proofs.lemmas.List.{set-get_or}
use Rattle.std.proofs.lemmas.Option.{slice_get_within}
use Rattle.m36_desc.specs.Fields.{SdwFields, PtwFields, DbrFields}
use Rattle.m36_desc.specs.Descriptors.{ptw_of}
use Rattle.m36_model.specs.Place.{wrapped_address, frame_at, address_in_frame, address_in_frame_by, directory_at, page_at, has_descriptor_in_bounds, sdw_place_by, sdw_at, core_sdw, marked_word, with_mark, with_marks, marks_by}
use Rattle.m36_tables.specs.Tables.{TableWordIsInCore}
use Rattle.m36_associative.specs.Right.{IsMarked, IsPageRights, DescribesPage, IsKeptDescriptor, IsKeptTableWord}
use Rattle.m36_associative.specs.declared.front.Page.{Page}
use Rattle.m36_associative.specs.declared.memories.Memories.{Memories}

-- In a paged descriptor segment, a descriptor is found through a word that is in core.
passes_by : (core : List ℕ) (dbr : DbrFields) (seg a : ℕ) (d : SdwFields) (b u : Bool) (found : Option ℕ) → slice_get core a ≡ found → sdw_at core (sdw_place_by b u dbr seg (option_map ptw_of found)) ≡ Ok d → TableWordIsInCore (length core) u a
passes_by core dbr seg a d b true found e h = tt
passes_by core dbr seg a d false false found e h = absurd (cc)
passes_by core dbr seg a d true false None e h = absurd (cc)
passes_by core dbr seg a d true false (Some x) e h = slice_get_within core a x e

pub passes : (core : List ℕ) (dbr : DbrFields) (seg : ℕ) (d : SdwFields) → core_sdw core dbr seg ≡ Ok d → TableWordIsInCore (length core) dbr.unpaged (directory_at dbr seg)
unfolding core_sdw
passes core dbr seg d h = passes_by core dbr seg (directory_at dbr seg) d (has_descriptor_in_bounds dbr seg) dbr.unpaged (slice_get core (directory_at dbr seg)) refl h

-- setting marks that are set changes nothing
no_change : (core : List ℕ) (a : ℕ) (m : Bool) → IsMarked core a m → with_mark core (record { address = a; modified = m }) ≡ core
no_change core a m h = ap (slice_set core a) h ∙ set-get_or core a 0

marks_stand : (core : List ℕ) (a b : ℕ) (write t u : Bool) → (t ≡ false → IsMarked core a false) → (u ≡ false → IsMarked core b write)
    → with_marks core ((if t then [] else record { address = a; modified = false } ∷ []) ++ (if u then [] else record { address = b; modified = write } ∷ [])) ≡ core
unfolding with_marks
marks_stand core a b write true true h k = refl
marks_stand core a b write true false h k = no_change core b write (k refl)
marks_stand core a b write false true h k = no_change core a false (h refl)
marks_stand core a b write false false h k =
    ap (λ (l : List ℕ). with_mark l (record { address = b; modified = write })) (no_change core a false (h refl)) ∙ no_change core b write (k refl)

-- the marks of a page in front are set
pub marks_of : (core : List ℕ) (dbr : DbrFields) (words tables : List ℕ) (p : Page) (seg word : ℕ) (write : Bool) → (write ≡ true → 0 < p.write_below) → (k : DescribesPage core dbr words tables p seg (word / 1024)) → with_marks core (marks_by dbr seg write word (Ok k.sdw)) ≡ core
marks_of core dbr words tables p seg word write h k = marks_stand core (directory_at dbr seg) (page_at k.sdw (word / 1024)) write dbr.unpaged k.sdw.unpaged k.passed (stands write h)
  where
    stands : (write : Bool) → (write ≡ true → 0 < p.write_below) → k.sdw.unpaged ≡ false → IsMarked core (page_at k.sdw (word / 1024)) write
    stands true h u = k.modified (h refl) u
    stands false h u = k.used u

module _ (core : List ℕ) (dbr : DbrFields) (m : Memories) (p : Page) (seg word : ℕ) where
  module _ (d : SdwFields) (page_rights : IsPageRights (length core) d (word / 1024) p) where
    -- a page of a contiguous segment
    whole_place : (w : ℕ) → w / 1024 ≡ word / 1024 → p.base ≡ wrapped_address (d.addr + word / 1024 * 1024) → wrapped_address (d.addr + w) ≡ wrapped_address (p.base + w % 1024)
    whole_place w e b = omega arith

    pub page_unpaged : IsKeptDescriptor core dbr m.words m.tables seg d → d.unpaged ≡ true → (dbr.unpaged ≡ false → IsMarked core (directory_at dbr seg) false) → p.base ≡ wrapped_address (d.addr + word / 1024 * 1024) → p.base < 2 ^ 24 → DescribesPage core dbr m.words m.tables p seg (word / 1024)
    page_unpaged k u q b l =
        record {
          sdw = d;
          found = k.found;
          watches = k.watches;
          table = λ v. let wrong : true ≡ false = sym u ∙ v in absurd (cc);
          low = l;
          place = λ w f. rw u (ap Ok (whole_place w f b));
          passed = q;
          used = λ v. let wrong : true ≡ false = sym u ∙ v in absurd (cc);
          modified = λ x v. let wrong : true ≡ false = sym u ∙ v in absurd (cc);
          page_rights = page_rights;
        }

    -- a page of a paged segment
    frame_place : (t : PtwFields) (w : ℕ) → p.base ≡ wrapped_address (t.addr / 16 * 1024) → wrapped_address (frame_at t + w % 1024) ≡ wrapped_address (p.base + w % 1024)
    frame_place t w b = omega arith

    in_frame_on : (t : PtwFields) (w : ℕ) → t.f ≡ true → p.base ≡ wrapped_address (t.addr / 16 * 1024) → address_in_frame (Some t) (w % 1024) ≡ Ok (wrapped_address (p.base + w % 1024))
    in_frame_on t w f b = ap (λ (x : Bool). address_in_frame_by x t (w % 1024)) f ∙ ap Ok (frame_place t w b)

    pub page_paged : (t : PtwFields) → IsKeptDescriptor core dbr m.words m.tables seg d → d.unpaged ≡ false → (dbr.unpaged ≡ false → IsMarked core (directory_at dbr seg) false) → IsKeptTableWord core dbr m.words m.tables (page_at d (word / 1024)) t → t.f ≡ true → p.base ≡ wrapped_address (t.addr / 16 * 1024) → p.base < 2 ^ 24
        → IsMarked core (page_at d (word / 1024)) false → (0 < p.write_below → IsMarked core (page_at d (word / 1024)) true) → DescribesPage core dbr m.words m.tables p seg (word / 1024)
    page_paged t k u q x f b l i j =
        record {
          sdw = d;
          found = k.found;
          watches = k.watches;
          table = λ v. x.watches;
          low = l;
          place = λ w k. rw u (x.finds (w % 1024) ∙ in_frame_on t w f b);
          passed = q;
          used = λ v. i;
          modified = λ y v. j y;
          page_rights = page_rights;
        }

-- a mark that is set already
pub unchanged : (core : List ℕ) (a w v : ℕ) (m : Bool) → w ≡ slice_index core a → v ≡ marked_word m w → v ≡ w → core ≡ with_mark core (record { address = a; modified = m })
unchanged core a w v m e f g =
    let same : marked_word m (slice_index core a) ≡ slice_index core a = rw (← e) (sym f ∙ g) in
    sym (no_change core a m same)
