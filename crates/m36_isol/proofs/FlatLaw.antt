-- A flat memory is a store as the laws require, and is isolated if the audit conditions hold of its
-- descriptors.
use Rattle.std.proofs.Common.{◌≡◌, refl, sym, ◌∙◌, ap, subst, eqb-true}
use Rattle.std.specs.Prelude.{ℕ, ◌+◌, ◌*◌, Bool, true, false, ◌==◌, if◌then◌else◌, List, [], ◌∷◌, slice_get, Option, Some, None, Result, Ok}
use Rattle.std.proofs.lemmas.Bool.{and_parts}
use Rattle.m36_desc.specs.Fields.{SdwFields, DbrFields}
use Rattle.m36_model.specs.Act.{Part}
use Rattle.m36_model.specs.Store.{Spot, Core_word, Segment_word, Change, SegTable, Tables, State, with_part_written}
use Rattle.m36_model.specs.Place.{has_descriptor_in_bounds, sdw_words}
use Rattle.m36_model.specs.Sight.{content_in, tables_of}
use Rattle.m36_model.specs.Step.{state_after}
use Rattle.m36_model.specs.StoreLaw.{same_spot, overlay, IsPlacedWord, Lawful}
use Rattle.m36_model.specs.Isolation.{HasPointers, Isolated}
use Rattle.m36_model.specs.Laws.{IsAbove, ReachLaw, FallLaw, AgreeLaw}
use Rattle.m36_model.specs.Flat.{Flat, flat_sdw_by, flat_sdw, flat_word, flat_put_one, flat_put, flat_table_by, flat_tables, flat_store, IsFlatAudited, HasDescriptors, IsFlatSpot, IsSameFlat}
use Rattle.m36_model.specs.declared.outcome.Refusal.{Refusal}
use Rattle.m36_model.specs.Audit.{IsGuarded}
use Rattle.m36_isol.proofs.Guarded.{guards}
use Rattle.m36_isol.proofs.Places.{content_placed}
use Rattle.m36_isol.proofs.StepLaws.{Backed, reach_law, fall_law, agree_law, pointers_stay}
use Rattle.m36_isol.proofs.Windows.{windows_kept}

abbrev spot_of : SdwFields → ℕ → ℕ → Result Spot Refusal
spot_of d seg w = Ok (Segment_word seg w)

-- the words of the first two entries of a table
abbrev first_word : List (ℕ × Option ℕ) → Option ℕ
first_word [] = None
first_word (e ∷ es) = e.1

abbrev second_word : List (ℕ × Option ℕ) → Option ℕ
second_word [] = None
second_word (e ∷ es) = first_word es

-- equal tables mean equal descriptors
table_sdw : (dbr : DbrFields) (b : Bool) (seg : ℕ) (xs ys : List ℕ) → flat_table_by b xs seg ≡ flat_table_by b ys seg → flat_sdw_by b xs seg ≡ flat_sdw_by b ys seg
table_sdw dbr false seg xs ys h = refl
table_sdw dbr true seg xs ys h =
    let even : slice_get xs (2 * seg) ≡ slice_get ys (2 * seg) = ap (λ (t : SegTable). first_word t.sdw) h in
    let odd : slice_get xs (2 * seg + 1) ≡ slice_get ys (2 * seg + 1) = ap (λ (t : SegTable). second_word t.sdw) h in
    λ i. sdw_words (even i) (odd i)

same_flat_sdw : (s : Flat) (dbr : DbrFields) (now : Flat) → HasDescriptors s dbr now → (seg : ℕ) → flat_sdw now dbr seg ≡ flat_sdw s dbr seg
unfolding flat_sdw flat_tables
same_flat_sdw s dbr now has seg =
    table_sdw dbr (has_descriptor_in_bounds dbr seg) seg now.descriptors s.descriptors (ap (λ (t : Tables). t.of seg) has)

-- writes change no descriptor
put_one_descriptors : (s : Flat) (p : Spot) (part : Part) (v : ℕ) → (flat_put_one s p part v).descriptors ≡ s.descriptors
put_one_descriptors s (Core_word a) part v = refl
put_one_descriptors s (Segment_word seg w) part v = refl

pub put_descriptors : (s : Flat) (puts : List Change) → (flat_put s puts).descriptors ≡ s.descriptors
unfolding flat_put
put_descriptors s [] = refl
put_descriptors s (p ∷ puts) =
    put_descriptors (flat_put_one s p.spot p.part p.value) puts ∙ put_one_descriptors s p.spot p.part p.value

put_tables : (s : Flat) (dbr : DbrFields) (puts : List Change) → flat_tables (flat_put s puts) dbr ≡ flat_tables s dbr
unfolding flat_tables
put_tables s dbr puts =
    ap (λ (l : List ℕ). record { dbr = dbr; size = 0; of = λ seg. flat_table_by (has_descriptor_in_bounds dbr seg) l seg }) (put_descriptors s puts)

-- a word after writes
word_put : (now : Flat) (p : Spot) (part : Part) (v seg w : ℕ) → flat_word (flat_put_one now p part v) (Segment_word seg w) ≡ (if same_spot p (Segment_word seg w) then with_part_written part (flat_word now (Segment_word seg w)) v else flat_word now (Segment_word seg w))
word_put now (Core_word a) part v seg w = refl
word_put now (Segment_word s w') part v seg w = refl

pub words_put : (now : Flat) (puts : List Change) (seg w : ℕ) → flat_word (flat_put now puts) (Segment_word seg w) ≡ overlay puts (Segment_word seg w) (flat_word now (Segment_word seg w))
unfolding flat_put
words_put now [] seg w = refl
words_put now (p ∷ puts) seg w =
    words_put (flat_put_one now p.spot p.part p.value) puts seg w ∙ ap (overlay puts (Segment_word seg w)) (word_put now p.spot p.part p.value seg w)

put_at : (now : Flat) (puts : List Change) (p : Spot) → IsFlatSpot p → flat_word (flat_put now puts) p ≡ overlay puts p (flat_word now p)
put_at now puts (Core_word a) lies = absurd lies
put_at now puts (Segment_word seg w) lies = words_put now puts seg w

same_words : (seg w seg' w' : ℕ) (p p' : Spot) → p ≡ Segment_word seg w → p' ≡ Segment_word seg' w' → same_spot p p' ≡ true → (seg ≡ seg') × (w ≡ w')
same_words seg w seg' w' p p' e f h =
    let k : same_spot (Segment_word seg w) (Segment_word seg' w') ≡ true = sym (ap (λ (x : Spot). same_spot x (Segment_word seg' w')) e) ∙ sym (ap (same_spot p) f) ∙ h in
    let parts = and_parts (seg == seg') (w == w') k in
    (eqb-true seg seg' parts.0, eqb-true w w' parts.1)

module _ (s : Flat) (dbr : DbrFields) where
  spot_is : (seg w : ℕ) (p : Spot) → IsPlacedWord (flat_sdw s dbr) spot_of seg w p → p ≡ Segment_word seg w
  spot_is seg w p h = let found = h.found in cc

  lies : (seg w : ℕ) (p : Spot) → IsPlacedWord (flat_sdw s dbr) spot_of seg w p → IsFlatSpot p
  lies seg w p h = subst IsFlatSpot (sym (spot_is seg w p h)) tt

  word_is : (now : Flat) → HasDescriptors s dbr now → (seg w : ℕ) (p : Spot) → IsPlacedWord (flat_sdw s dbr) spot_of seg w p → content_in flat_store now dbr seg w ≡ Some (flat_word now p)
  word_is now has seg w p h =
      content_placed flat_store now dbr seg w p (record { sdw = h.sdw; live = same_flat_sdw s dbr now has seg ∙ h.live; inside = h.inside; found = h.found })

  pub flat_lawful : Lawful flat_store dbr (HasDescriptors s dbr) IsFlatSpot IsSameFlat
  flat_lawful =
      record {
        sdws = flat_sdw s dbr;
        spots = spot_of;
        sdw_is = λ now has seg. same_flat_sdw s dbr now has seg;
        spot_is = λ now has seg w d live inside. refl;
        lies = lies;
        word_is = word_is;
        apart = λ seg w seg' w' p p' h k e. same_words seg w seg' w' p p' (spot_is seg w p h) (spot_is seg' w' p' k) e;
        marks_tables = λ now has kind seg w p word. has;
        marks_word = λ now has kind seg w p p' word lies. refl;
        marks_near = λ now has kind seg w p word. refl;
        near_self = λ now. refl;
        near_then = λ x y z h k. k ∙ h;
        put_tables = λ now has puts spots. put_tables now dbr puts ∙ has;
        put_word = λ now has puts spots p lies. put_at now puts p lies;
      }

  module _ (audited : IsFlatAudited s dbr) where
    guarded : IsGuarded dbr flat_lawful.sdws
    unfolding flat_lawful
    guarded = guards dbr (flat_sdw s dbr) audited.fifth audited.sixth

    backed_here : Backed flat_store (flat_tables s dbr) dbr
    backed_here =
        record {
          Has = HasDescriptors s dbr;
          Lies = IsFlatSpot;
          Near = IsSameFlat;
          law = flat_lawful;
          guarded = guarded;
          has = λ now h. h;
          tables = λ now h. h;
        }

    same_dbr : (now : Flat) (d : DbrFields) → flat_tables now d ≡ flat_tables s dbr → d ≡ dbr
    unfolding flat_tables
    same_dbr now d h = ap (λ (t : Tables). t.dbr) h

    backed : (x : State Flat) → tables_of flat_store x ≡ flat_tables s dbr → Backed flat_store (flat_tables s dbr) x.regs.dbr
    backed x h =
        subst (λ (d : DbrFields). Backed flat_store (flat_tables s dbr) d) (sym (same_dbr x.store x.regs.dbr h)) backed_here

    by_tables : (x : State Flat) → tables_of flat_store x ≡ flat_tables s dbr → (seg : ℕ) → flat_sdw x.store x.regs.dbr seg ≡ flat_sdw s dbr seg
    by_tables x h seg =
        let e = same_dbr x.store x.regs.dbr h in
        ap (λ (d : DbrFields). flat_sdw x.store d seg) e ∙ same_flat_sdw s dbr x.store (subst (λ (d : DbrFields). flat_tables x.store d ≡ flat_tables s dbr) e h) seg

    reach : ReachLaw flat_store (flat_tables s dbr)
    reach = reach_law flat_store (flat_tables s dbr) backed

    fall : FallLaw flat_store (flat_tables s dbr)
    fall = fall_law flat_store (flat_tables s dbr) backed

    agrees : AgreeLaw flat_store (flat_tables s dbr)
    agrees = agree_law flat_store (flat_tables s dbr) backed

    pointers_after : (r : ℕ) (x : State Flat) → IsAbove flat_store (flat_tables s dbr) r x → HasPointers (state_after flat_store x).regs
    pointers_after r x above =
        pointers_stay flat_store (flat_tables s dbr) x.regs (backed x above.tables) r above.low x.store above.tables above.pointers

    pub flat_isolated : Isolated flat_store (flat_tables s dbr)
    flat_isolated r some most a b pointers tables tables_other low agree n =
        let T = flat_tables s dbr in
        let k = windows_kept flat_store T r some reach fall agrees (λ x y h l seg. by_tables x h seg ∙ sym (by_tables y l seg)) (pointers_after r) n a b a b tables tables_other (record { pointers = pointers; tables = tables; low = low }) agree (λ seg w none. refl) (λ seg w none. refl) in
        record { told = k.told; agree = k.agree; kept = k.kept; kept_other = k.kept_other }
