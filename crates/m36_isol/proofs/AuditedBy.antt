-- The audit conditions depend only on the tables.
use Rattle.std.proofs.Common.{◌≡◌, sym, ◌∙◌, ap, subst}
use Rattle.std.specs.Prelude.{ℕ, ◌+◌, ◌*◌, ◌<◌, List, Ok}
use Rattle.m36_desc.specs.Fields.{SdwFields, DbrFields}
use Rattle.m36_model.specs.Store.{Core_word, Tables}
use Rattle.m36_model.specs.Place.{core_sdw}
use Rattle.m36_model.specs.Core.{core_store, core_tables}
use Rattle.m36_model.specs.Audit.{Table, Sdws, Directory, Pages, IsWordOfTable, IsSegmentWord, IsCallable, is_stack_of, IsAudited}
use Rattle.m36_isol.proofs.Places.{place_is, place_parts}
use Rattle.m36_isol.proofs.CoreTables.{Matches, matches, same_sdw_place, same_sdw, same_spot_of}
use Rattle.m36_isol.proofs.CoreLaw.{placed_within}

module _ (core : List ℕ) (dbr : DbrFields) (now : List ℕ) (m : Matches core dbr now) where
  live_before : (seg : ℕ) (d : SdwFields) → core_sdw now dbr seg ≡ Ok d → core_sdw core dbr seg ≡ Ok d
  live_before seg d h = sym (same_sdw core dbr now m seg) ∙ h

  table_before : (t : Table) (a : ℕ) → IsWordOfTable now dbr t a → IsWordOfTable core dbr t a
  table_before Sdws a k =
      (k.0, record { even = k.1.even; found = sym (same_sdw_place core dbr now m k.0) ∙ k.1.found; half = k.1.half })
  table_before Directory a k = k
  table_before (Pages seg) a k =
      (k.0, record { sdw = k.1.sdw; live = live_before seg k.1.sdw k.1.live; paged = k.1.paged; begins = k.1.begins; found = k.1.found })

  word_before : (seg w a : ℕ) → IsSegmentWord now dbr seg w a → IsSegmentWord core dbr seg w a
  word_before seg w a h =
      let k = place_parts core_store now dbr seg w (Core_word a) h in
      let live = live_before seg k.sdw k.live in
      place_is core_store core dbr seg w (Core_word a) (record {
        sdw = k.sdw;
        live = live;
        inside = k.inside;
        found = sym (same_spot_of core dbr now m seg w k.sdw live (placed_within k.sdw w k.inside)) ∙ k.found;
      })

  callable_before : (seg : ℕ) (d : SdwFields) → IsCallable (core_sdw now dbr) seg d → IsCallable (core_sdw core dbr) seg d
  callable_before seg d k = record { live = live_before seg d k.live; executable = k.executable; outer = k.outer }

  pub still_audited : IsAudited core dbr → IsAudited now dbr
  still_audited audited =
      record {
        first = λ seg k. audited.first seg (record { sdw = k.sdw; live = live_before seg k.sdw k.live; out = k.out });
        second = λ a k. audited.second a (record {
          inside = subst (λ (n : ℕ). a < n) m.size k.inside;
          table = k.table;
          other = k.other;
          of = table_before k.table a k.of;
          of_other = table_before k.other a k.of_other;
          differ = k.differ;
        });
        third = λ a k. audited.third a (record { table = k.table; of = table_before k.table a k.of; seg = k.seg; w = k.w; word = word_before k.seg k.w a k.word });
        fourth = λ a k. audited.fourth a (record {
          seg = k.seg;
          w = k.w;
          word = word_before k.seg k.w a k.word;
          other_seg = k.other_seg;
          other_w = k.other_w;
          other_word = word_before k.other_seg k.other_w a k.other_word;
          differ = k.differ;
        });
        fifth = λ seg k. audited.fifth seg (record { sdw = k.sdw; callable = callable_before seg k.sdw k.callable; open_everywhere = k.open_everywhere });
        sixth = λ seg k. audited.sixth seg (record {
          sdw = k.sdw;
          callable = callable_before seg k.sdw k.callable;
          missing = ap (is_stack_of k.sdw.r2) (sym (same_sdw core dbr now m (8 * dbr.stack + k.sdw.r2))) ∙ k.missing;
        });
      }

-- equal tables have one DBR
pub same_dbr : (core now : List ℕ) (dbr d : DbrFields) → core_tables now d ≡ core_tables core dbr → d ≡ dbr
unfolding core_tables
same_dbr core now dbr d h = ap (λ (t : Tables). t.dbr) h

audited_at : (core now : List ℕ) (dbr d : DbrFields) → dbr ≡ d → IsAudited core dbr → core_tables now d ≡ core_tables core dbr → IsAudited now d
audited_at core now dbr d e audited h =
    subst (λ (x : DbrFields). core_tables now x ≡ core_tables core dbr → IsAudited now x) e (λ k. still_audited core dbr now (matches core dbr now k) audited) h

-- if the tables are equal except for marks, the audit conditions hold of both cores or of neither
pub audited_by : (core now : List ℕ) (dbr d : DbrFields) → IsAudited core dbr → core_tables now d ≡ core_tables core dbr → IsAudited now d
audited_by core now dbr d audited h = audited_at core now dbr d (sym (same_dbr core now dbr d h)) audited h
