-- Whether the audit conditions hold of a booted core depends only on its descriptors, whatever
-- frames its pages are in.
use Rattle.std.proofs.Common.{◌≡◌, refl, sym, ◌∙◌, ap}
use Rattle.std.specs.Prelude.{ℕ, ◌+◌, ◌*◌, List, take, Ok}
use Rattle.m36_desc.specs.Fields.{SdwFields}
use Rattle.m36_model.specs.Place.{core_sdw, ring_stack}
use Rattle.m36_model.specs.Audit.{IsCallable, is_stack_of, IsAudited}
use Rattle.m36_model.specs.Flat.{flat_sdw, IsFlatAudited}
use Rattle.m36_model.specs.BootedCore.{descriptor_words, booted_dbr, IsLaid}
use Rattle.m36_model.specs.Residence.{Paged, flat_of}
use Rattle.m36_model.specs.PagedStep.{SameAuditLaw, FlatAuditLaw}
use Rattle.m36_isol.proofs.Laid.{laid_apart}
use Rattle.m36_isol.proofs.Booted.{flat_descriptor}
use Rattle.m36_isol.proofs.Moved.{same_descriptors}

module _ (core now : List ℕ) (low : take descriptor_words now ≡ take descriptor_words core) where
  live_before : (seg : ℕ) (d : SdwFields) → core_sdw now booted_dbr seg ≡ Ok d → core_sdw core booted_dbr seg ≡ Ok d
  live_before seg d live = sym (same_descriptors core now low seg) ∙ live

  callable_before : (seg : ℕ) (d : SdwFields) → IsCallable (core_sdw now booted_dbr) seg d → IsCallable (core_sdw core booted_dbr) seg d
  callable_before seg d k = record { live = live_before seg d k.live; executable = k.executable; outer = k.outer }

  pub audited_by_descriptors : (frames : ℕ) → IsLaid now frames → IsAudited core booted_dbr → IsAudited now booted_dbr
  audited_by_descriptors frames laid audited =
      let apart = laid_apart now frames laid in
      record {
        first = λ seg k. audited.first seg (record { sdw = k.sdw; live = live_before seg k.sdw k.live; out = k.out });
        second = apart.tables;
        third = apart.segments;
        fourth = apart.words;
        fifth = λ seg k. audited.fifth seg (record { sdw = k.sdw; callable = callable_before seg k.sdw k.callable; open_everywhere = k.open_everywhere });
        sixth = λ seg k. audited.sixth seg (record {
          sdw = k.sdw;
          callable = callable_before seg k.sdw k.callable;
          missing = ap (is_stack_of k.sdw.r2) (sym (same_descriptors core now low (8 * booted_dbr.stack + k.sdw.r2))) ∙ k.missing;
        });
      }

pub same_audit : SameAuditLaw
same_audit frames core now audited laid low = audited_by_descriptors core now low frames laid audited

module _ (frames : ℕ) (m : Paged) (laid : IsLaid m.core frames) (audited : IsAudited m.core booted_dbr) where
  flat_is : (seg : ℕ) → core_sdw m.core booted_dbr seg ≡ flat_sdw (flat_of m) booted_dbr seg
  unfolding flat_of
  flat_is seg = flat_descriptor m.core (flat_of m) refl seg

  callable_in : (seg : ℕ) (d : SdwFields) → IsCallable (flat_sdw (flat_of m) booted_dbr) seg d → IsCallable (core_sdw m.core booted_dbr) seg d
  callable_in seg d k = record { live = flat_is seg ∙ k.live; executable = k.executable; outer = k.outer }

  flat_audited : IsFlatAudited (flat_of m) booted_dbr
  flat_audited =
      record {
        first = λ seg k. audited.first seg (record { sdw = k.sdw; live = flat_is seg ∙ k.live; out = k.out });
        fifth = λ seg k. audited.fifth seg (record { sdw = k.sdw; callable = callable_in seg k.sdw k.callable; open_everywhere = k.open_everywhere });
        sixth = λ seg k. audited.sixth seg (record {
          sdw = k.sdw;
          callable = callable_in seg k.sdw k.callable;
          missing = ap (is_stack_of k.sdw.r2) (flat_is (ring_stack booted_dbr k.sdw.r2)) ∙ k.missing;
        });
      }

pub flat_audit : FlatAuditLaw
flat_audit frames m laid audited = flat_audited frames m laid audited
