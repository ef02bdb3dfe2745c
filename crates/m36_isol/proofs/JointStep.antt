-- A step of one process, seen by another: the tables of all processes do not change, words that
-- were equal are equal again, and words that the ring may not change do not change.
use Rattle.std.proofs.Common.{◌≡◌, refl, sym, ◌∙◌, ap, subst, eqb-true}
use Rattle.std.specs.Prelude.{ℕ, ◌+◌, ◌≤◌, Bool, true, false, ◌==◌, List, slice_get, Some, Result, Ok}
use Rattle.std.proofs.lemmas.Bool.{eqb-false}
use Rattle.m36_desc.specs.Fields.{SdwFields, DbrFields}
use Rattle.m36_model.specs.Registers.{RegsFields}
use Rattle.m36_model.specs.Store.{Spot, Core_word, Change}
use Rattle.m36_model.specs.Place.{wrapped_address, sdw_place, sdw_at, sdw_words, core_sdw}
use Rattle.m36_model.specs.Core.{core_store}
use Rattle.m36_model.specs.Sight.{content_in}
use Rattle.m36_model.specs.Audit.{IsSegmentWord, IsGuarded}
use Rattle.m36_model.specs.StoreLaw.{same_spot, overlay, IsPlacedWord, Lawful}
use Rattle.m36_model.specs.CoreLaw.{IsMarkedFrom}
use Rattle.m36_model.specs.JointAudit.{AreSame, IsJointlyAudited}
use Rattle.m36_model.specs.declared.outcome.Refusal.{Refusal}
use Rattle.m36_isol.proofs.Alike.{Sees, Reaches, IsReached, SeeEqual}
use Rattle.m36_isol.proofs.Spots.{each_map}
use Rattle.m36_isol.proofs.Contents.{overlay_none, content_equal, words_equal}
use Rattle.m36_isol.proofs.OneStep.{after_run, writes_of, after_has, after_word, reached_writes, same_writes, see_equal}
use Rattle.m36_isol.proofs.CoreIsolated.{core_gates}
use Rattle.m36_isol.proofs.JointLaw.{HasAll, LiesInSome, joint_lawful, joint_sdws, joint_word}

-- segments with equal descriptor words have the same descriptor
same_descriptor : (core : List ℕ) (dbr other : DbrFields) (seg other_seg : ℕ) → AreSame core dbr other seg other_seg → core_sdw core other other_seg ≡ core_sdw core dbr seg
unfolding core_sdw
same_descriptor core dbr other seg other_seg h =
    let here : sdw_at core (sdw_place core other other_seg) ≡ sdw_words (slice_get core h.other_at) (slice_get core (wrapped_address (h.other_at + 1))) = ap (sdw_at core) h.other_found in
    let there : sdw_at core (sdw_place core dbr seg) ≡ sdw_words (slice_get core h.at) (slice_get core (wrapped_address (h.at + 1))) = ap (sdw_at core) h.found in
    let even = h.even in
    let odd = h.odd in
    let words : sdw_words (slice_get core h.at) (slice_get core (wrapped_address (h.at + 1))) ≡ sdw_words (slice_get core h.other_at) (slice_get core (wrapped_address (h.other_at + 1))) = λ i. sdw_words (even i) (odd i) in
    here ∙ sym words ∙ sym there

-- core spots that are the same have the same address
same_address : (p q : Spot) (a b : ℕ) → p ≡ Core_word a → q ≡ Core_word b → same_spot p q ≡ true → a ≡ b
same_address p q a b e f h =
    let k : same_spot (Core_word a) (Core_word b) ≡ true = sym (ap (λ (x : Spot). same_spot x (Core_word b)) e) ∙ sym (ap (same_spot p) f) ∙ h in
    eqb-true a b k

module _ (core : List ℕ) (dbrs : List DbrFields) (audited : IsJointlyAudited core dbrs) (i : ℕ) (g : RegsFields) (at : slice_get dbrs i ≡ Some g.dbr) (r : ℕ) (low : r ≤ g.ppr.prr) where
  abbrev pub law : Lawful core_store g.dbr (HasAll core dbrs) (LiesInSome core dbrs) (IsMarkedFrom core g.dbr)
  law = joint_lawful core dbrs audited i g.dbr at

  pub joint_guarded : IsGuarded g.dbr law.sdws
  joint_guarded =
      subst (λ (s : ℕ → Result SdwFields Refusal). IsGuarded g.dbr s) (sym (joint_sdws core dbrs audited i g.dbr at)) (core_gates core g.dbr (audited.each i g.dbr at))

  abbrev pub after : List ℕ → List ℕ
  after s = after_run core_store g (HasAll core dbrs) (LiesInSome core dbrs) (IsMarkedFrom core g.dbr) law joint_guarded r low s

  abbrev pub equal : List ℕ → List ℕ → Type 0
  equal s t = SeeEqual core_store law.sdws law.spots r s t

  pub all_after : (s : List ℕ) → HasAll core dbrs s → HasAll core dbrs (after s)
  all_after s h =
      after_has core_store g (HasAll core dbrs) (LiesInSome core dbrs) (IsMarkedFrom core g.dbr) law joint_guarded r low s h

  word_after : (s : List ℕ) → HasAll core dbrs s → (p : Spot) → LiesInSome core dbrs p → core_store.word (after s) p ≡ overlay (writes_of core_store g (HasAll core dbrs) (LiesInSome core dbrs) (IsMarkedFrom core g.dbr) law joint_guarded r low s) p (core_store.word s p)
  word_after s h p lies =
      after_word core_store g (HasAll core dbrs) (LiesInSome core dbrs) (IsMarkedFrom core g.dbr) law joint_guarded r low s h p lies

  -- equal content that the process which steps can see
  pub joint_see_equal : (s t : List ℕ) → HasAll core dbrs s → HasAll core dbrs t → ((seg w : ℕ) → Sees law.sdws r seg → content_in core_store s g.dbr seg w ≡ content_in core_store t g.dbr seg w) → equal s t
  joint_see_equal s t h k contents =
      see_equal core_store g (HasAll core dbrs) (LiesInSome core dbrs) (IsMarkedFrom core g.dbr) law joint_guarded r low s t h k contents

  module _ (j : ℕ) (other : DbrFields) (there : slice_get dbrs j ≡ Some other) where
    abbrev its : Lawful core_store other (HasAll core dbrs) (LiesInSome core dbrs) (IsMarkedFrom core other)
    its = joint_lawful core dbrs audited j other there

    -- content of another process that was equal is equal again
    pub other_agrees : (s t : List ℕ) → HasAll core dbrs s → HasAll core dbrs t → equal s t → (seg w : ℕ) → content_in core_store s other seg w ≡ content_in core_store t other seg w → content_in core_store (after s) other seg w ≡ content_in core_store (after t) other seg w
    other_agrees s t h k same seg w e =
        content_equal core_store other (HasAll core dbrs) (LiesInSome core dbrs) (IsMarkedFrom core other) its (after s) (after t) (all_after s h) (all_after t k) seg w (λ p word. word_after s h p (its.lies seg w p word) ∙ ap (overlay (writes s) p) (words_equal core_store other (HasAll core dbrs) (LiesInSome core dbrs) (IsMarkedFrom core other) its s t h k seg w p word e) ∙ ap (λ (c : List Change). overlay c p (core_store.word t p)) alike ∙ sym (word_after t k p (its.lies seg w p word)))
      where
        writes : List ℕ → List Change
        writes x = writes_of core_store g (HasAll core dbrs) (LiesInSome core dbrs) (IsMarkedFrom core g.dbr) law joint_guarded r low x

        alike : writes_of core_store g (HasAll core dbrs) (LiesInSome core dbrs) (IsMarkedFrom core g.dbr) law joint_guarded r low s ≡ writes_of core_store g (HasAll core dbrs) (LiesInSome core dbrs) (IsMarkedFrom core g.dbr) law joint_guarded r low t
        alike =
            same_writes core_store g (HasAll core dbrs) (LiesInSome core dbrs) (IsMarkedFrom core g.dbr) law joint_guarded r low s t h k same

    -- a segment of the other process with the descriptor of a segment that ring r can change: ring
    -- r can change it
    reach_of_same : (seg other_seg : ℕ) → AreSame core g.dbr other seg other_seg → Reaches law.sdws r seg → Reaches its.sdws r other_seg
    reach_of_same seg other_seg same k =
        let mine = joint_sdws core dbrs audited i g.dbr at in
        let theirs = joint_sdws core dbrs audited j other there in
        let live : its.sdws other_seg ≡ Ok k.sdw = ap (λ (f : ℕ → Result SdwFields Refusal). f other_seg) theirs ∙ same_descriptor core g.dbr other seg other_seg same ∙ sym (ap (λ (f : ℕ → Result SdwFields Refusal). f seg) mine) ∙ k.live in
        record { sdw = k.sdw; live = live; opens = k.opens; high = k.high }

    apart_by : (differ : (i == j) ≡ false) (seg w : ℕ) (p : Spot) → IsPlacedWord its.sdws its.spots seg w p → (Reaches its.sdws r seg → ⊥) → (c : Change) → IsReached law.sdws law.spots r c.spot → (t : Bool) → same_spot c.spot p ≡ t → same_spot c.spot p ≡ false
    apart_by differ seg w p word none c k false e = e
    apart_by differ seg w p word none c k true e =
        let mine = joint_word core dbrs audited i g.dbr at k.seg k.w c.spot k.word in
        let theirs = joint_word core dbrs audited j other there seg w p word in
        let same = same_address c.spot p mine.address theirs.address mine.spot theirs.spot e in
        absurd (audited.segments theirs.address (record {
          dbr = g.dbr;
          other = other;
          two = record { first = i; second = j; at = at; other_at = there; differ = eqb-false i j differ };
          seg = k.seg;
          w = k.w;
          word = subst (λ (a : ℕ). IsSegmentWord core g.dbr k.seg k.w a) same mine.word;
          other_seg = seg;
          other_w = w;
          other_word = theirs.word;
          differ = λ one. none (reach_of_same k.seg seg one.segment k.reaches);
        }))

    -- segments of another process that the ring cannot change do not change
    pub other_unreached : (i == j) ≡ false → (s : List ℕ) → HasAll core dbrs s → (seg w : ℕ) → (Reaches its.sdws r seg → ⊥) → content_in core_store (after s) other seg w ≡ content_in core_store s other seg w
    other_unreached differ s h seg w none =
        content_equal core_store other (HasAll core dbrs) (LiesInSome core dbrs) (IsMarkedFrom core other) its (after s) s (all_after s h) h seg w (λ p word. word_after s h p (its.lies seg w p word) ∙ overlay_none _ p (core_store.word s p) (each_map (λ (c : Change). IsReached law.sdws law.spots r c.spot) (λ (c : Change). same_spot c.spot p ≡ false) (λ c k. apart_by differ seg w p word none c k (same_spot c.spot p) refl) _ (reached_writes core_store g (HasAll core dbrs) (LiesInSome core dbrs) (IsMarkedFrom core g.dbr) law joint_guarded r low s h)))
