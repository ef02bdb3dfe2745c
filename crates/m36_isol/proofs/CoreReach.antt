-- Each core word after a step, and the audit conditions after it.
use Rattle.std.proofs.Common.{◌≡◌, refl, sym, ◌∙◌, ap, subst, ⊎_elim, arith}
use Rattle.std.specs.Prelude.{ℕ, ◌≤◌, List, [], ◌∷◌, slice_index, Ok}
use Rattle.std.proofs.lemmas.List.{get_or-set_other}
use Rattle.m36_desc.specs.Fields.{DbrFields}
use Rattle.m36_model.specs.Registers.{RegsFields}
use Rattle.m36_model.specs.Act.{Part}
use Rattle.m36_model.specs.Store.{Spot, Core_word, Segment_word, Change, State}
use Rattle.m36_model.specs.Core.{core_store, core_put, put_one, core_tables}
use Rattle.m36_model.specs.Step.{state_after}
use Rattle.m36_model.specs.Audit.{IsAudited}
use Rattle.m36_model.specs.StoreLaw.{Each, Lawful}
use Rattle.m36_model.specs.CoreLaw.{HasTables, IsSegmentSpot, IsMarkedFrom, IsSameExceptMarks}
use Rattle.m36_model.specs.Laws.{IsReachable, CoreReachLaw, AuditKeptLaw}
use Rattle.m36_isol.proofs.Alike.{IsReached}
use Rattle.m36_isol.proofs.Spots.{each_map}
use Rattle.m36_isol.proofs.Places.{place_is}
use Rattle.m36_isol.proofs.CoreLaw.{are_apart, lawful}
use Rattle.m36_isol.proofs.OneStep.{one_run, reached_writes}
use Rattle.m36_isol.proofs.StepLaws.{tables_by, dbr_or}
use Rattle.m36_isol.proofs.AuditedBy.{same_dbr, audited_by}
use Rattle.m36_isol.proofs.CoreIsolated.{guarded_by, backed}

-- writes at other spots do not change a word
put_elsewhere : (now : List ℕ) (spot : Spot) (part : Part) (v a : ℕ) → (spot ≡ Core_word a → ⊥) → slice_index (put_one now spot part v) a ≡ slice_index now a
put_elsewhere now (Core_word b) part v a other =
    get_or-set_other now b a _ 0 (λ e. other (ap (λ (c : ℕ). Core_word c) (sym e)))
put_elsewhere now (Segment_word s w) part v a other = refl

puts_elsewhere : (now : List ℕ) (puts : List Change) (a : ℕ) → Each (λ (c : Change). c.spot ≡ Core_word a → ⊥) puts → slice_index (core_put now puts) a ≡ slice_index now a
unfolding core_put
puts_elsewhere now [] a h = refl
puts_elsewhere now (p ∷ puts) a h =
    puts_elsewhere (put_one now p.spot p.part p.value) puts a h.1 ∙ put_elsewhere now p.spot p.part p.value a h.0

module _ (core : List ℕ) (g : RegsFields) (audited : IsAudited core g.dbr) (store : List ℕ) (tables : HasTables core g.dbr store) (r : ℕ) (low : r ≤ g.ppr.prr) where
  abbrev law : Lawful core_store g.dbr (HasTables core g.dbr) (IsSegmentSpot core g.dbr) (IsMarkedFrom core g.dbr)
  law = lawful core g.dbr (are_apart core g.dbr audited)

  abbrev here : State (List ℕ)
  here = record { regs = g; store = store }

  -- a spot that ring r can change is, in core, a word of a segment that ring r can change
  reachable : (a : ℕ) (p : Spot) → IsReached law.sdws law.spots r p → p ≡ Core_word a → IsReachable r here a
  reachable a p k e =
      record {
        seg = k.seg;
        w = k.w;
        reach = record { sdw = k.reaches.sdw; live = law.sdw_is store tables k.seg ∙ k.reaches.live; opens = k.reaches.opens; high = k.reaches.high };
        word = place_is core_store store g.dbr k.seg k.w (Core_word a) (record {
          sdw = k.word.sdw;
          live = law.sdw_is store tables k.seg ∙ k.word.live;
          inside = k.word.inside;
          found = law.spot_is store tables k.seg k.w k.word.sdw k.word.live k.word.inside ∙ k.word.found ∙ ap (λ (q : Spot). Ok q) e;
        });
      }

  words_after : (a : ℕ) → (IsReachable r here a → ⊥) → IsSameExceptMarks core g.dbr a (slice_index store a) (slice_index (state_after core_store here).store a)
  unfolding state_after
  words_after a none =
      let k = one_run core_store g (HasTables core g.dbr) (IsSegmentSpot core g.dbr) (IsMarkedFrom core g.dbr) law (guarded_by core g.dbr audited) r low store tables in
      let writes = reached_writes core_store g (HasTables core g.dbr) (IsSegmentSpot core g.dbr) (IsMarkedFrom core g.dbr) law (guarded_by core g.dbr audited) r low store tables in
      let other = each_map (λ (c : Change). IsReached law.sdws law.spots r c.spot) (λ (c : Change). c.spot ≡ Core_word a → ⊥) (λ c reached e. none (reachable a c.spot reached e)) _ writes in
      subst (λ (v : ℕ). IsSameExceptMarks core g.dbr a (slice_index store a) v) (sym (puts_elsewhere _ _ a other)) (k.mid.kept.near.words a)

-- In core, a step changes only words of segments that ring r can change, and marks.
pub core_words : (core : List ℕ) (dbr : DbrFields) → IsAudited core dbr → CoreReachLaw core dbr
core_words core dbr audited r s above a none =
    subst (λ (d : DbrFields). IsAudited core d → core_tables s.store s.regs.dbr ≡ core_tables core d → IsSameExceptMarks core d a (slice_index s.store a) (slice_index (state_after core_store s).store a)) (same_dbr core s.store dbr s.regs.dbr above.tables) (λ here tables. words_after core s.regs here s.store tables r above.low a none) audited above.tables

-- A step that executes no LDBR preserves the audit conditions.
pub core_kept : AuditKeptLaw
core_kept s audited none =
    let T = core_tables s.store s.regs.dbr in
    let B = backed s.store s.regs.dbr audited s refl in
    let low : 0 ≤ s.regs.ppr.prr = omega arith in
    let same = ⊎_elim (λ e. e) (λ loads. absurd (none loads)) (dbr_or core_store T s.regs B 0 low s.store refl) in
    audited_by s.store (state_after core_store s).store s.regs.dbr (state_after core_store s).regs.dbr audited (tables_by core_store T s.regs B 0 low s.store refl same)
