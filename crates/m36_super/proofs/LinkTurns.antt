-- The words that a link service writes, and its turn.
use Rattle.std.proofs.Common.{◌≡◌, refl, sym, ◌∙◌, ap, subst, arith, drop, drop-cons}
use Rattle.std.specs.Prelude.{ℕ, zero, suc, ◌+◌, ◌^◌, ◌<◌, ◌≤◌, Bool, List, [], ◌∷◌, ◌++◌, length, slice_index_or, Some, None, Result, Ok, Err}
use Rattle.m36_model.specs.Fields.{AtFields}
use Rattle.m36_model.specs.Registers.{RegsFields}
use Rattle.m36_model.specs.Store.{State, Change}
use Rattle.m36_model.specs.Flat.{Flat, flat_put, flat_put_one}
use Rattle.m36_model.specs.Residence.{Paged}
use Rattle.m36_model.specs.BootedCore.{IsLaid}
use Rattle.m36_model.specs.declared.endings.End.TheVariants as end
use Rattle.m36_page.specs.Fields.{PagerFields}
use Rattle.m36_link.specs.Fields.{KnownFields, SnapFields, NewSectionFields}
use Rattle.m36_link.specs.Known.{linkage_segment, lot_word}
use Rattle.m36_link.specs.Snap.{RefusedFields}
use Rattle.m36_link.specs.Accepted.{known_after}
use Rattle.m36_step.specs.declared.turns.Turn.{Turn}
use Rattle.m36_step.specs.declared.turns.Turn.TheVariants.{Linked, NoMemory}
use Rattle.m36_super.specs.Laying.{written_from, section_changes}
use Rattle.m36_super.specs.PagedPut.{paged_put, paged_put_one}
use Rattle.m36_super.specs.Services.{link_changes, note_snapped, note_refused}
use Rattle.m36_super.specs.NextEvent.{NextEvent, Step, Over}
use Rattle.m36_super.specs.BootedRun.{Booted, IsLinkTurn}
use Rattle.m36_super.specs.SuperFields.{run_of, IsManaged, IsRunning}
use Rattle.m36_super.specs.Writing.{memory_by, flat_by, ArePut}
use Rattle.m36_super.proofs.LinkPlaces.{snap_place}

-- ---- words one after another

drop_past : (i : ℕ) (xs : List ℕ) → length xs ≤ i → drop i xs ≡ []
drop_past zero [] h = refl
drop_past zero (x ∷ xs) h = absurd (omega arith)
drop_past (suc i) [] h = refl
drop_past (suc i) (x ∷ xs) h = drop_past i xs (omega arith)

-- The words that are left complete what is written.
pub record IsWriting (core : List ℕ) (p : PagerFields) (now : List ℕ) (q : PagerFields) (ring at : ℕ) (rest : List ℕ) (word : ℕ) (words : List ℕ) : Type 0 where
  pub fits : at + length rest ≤ 2 ^ 18
  pub put : paged_put (memory_by now q) (written_from (linkage_segment ring) at rest) ≡ paged_put (memory_by core p) (written_from (linkage_segment ring) word words)
  pub written : flat_put (flat_by now q) (written_from (linkage_segment ring) at rest) ≡ flat_put (flat_by core p) (written_from (linkage_segment ring) word words)
  pub frames : length q.holders ≡ length p.holders
  pub managed : IsManaged (length q.holders) now q

pub writing_first : (core : List ℕ) (p : PagerFields) (ring word : ℕ) (words : List ℕ) → IsManaged (length p.holders) core p → word + length words ≤ 2 ^ 18 → IsWriting core p core p ring word words word words
writing_first core p ring word words m fits =
    record { fits = fits; put = refl; written = refl; frames = refl; managed = m }

next_written : (f g : Flat) (seg at w : ℕ) (rest : List ℕ) → g ≡ flat_put f (written_from seg at (w ∷ [])) → flat_put g (written_from seg (at + 1) rest) ≡ flat_put f (written_from seg at (w ∷ rest))
unfolding flat_put written_from
next_written f g seg at w rest e = ap (λ (x : Flat). flat_put x (written_from seg (at + 1) rest)) e

next_put : (f g : Paged) (seg at w : ℕ) (rest : List ℕ) → g ≡ paged_put f (written_from seg at (w ∷ [])) → paged_put g (written_from seg (at + 1) rest) ≡ paged_put f (written_from seg at (w ∷ rest))
unfolding paged_put written_from
next_put f g seg at w rest e = ap (λ (x : Paged). paged_put x (written_from seg (at + 1) rest)) e

writing_next : (core mid now : List ℕ) (p r q : PagerFields) (ring at w word : ℕ) (rest words : List ℕ) → IsWriting core p mid r ring at (w ∷ rest) word words → ArePut mid r now q (written_from (linkage_segment ring) at (w ∷ [])) → IsWriting core p now q ring (at + 1) rest word words
writing_next core mid now p r q ring at w word rest words h put =
    let fits = h.fits in
    record {
      fits = omega arith;
      put = next_put (memory_by mid r) (memory_by now q) (linkage_segment ring) at w rest put.put ∙ h.put;
      written = next_written (flat_by mid r) (flat_by now q) (linkage_segment ring) at w rest put.flat ∙ h.written;
      frames = put.frames ∙ h.frames;
      managed = put.managed;
    }

pub writing_more : (core mid now : List ℕ) (p r q : PagerFields) (ring at word i w : ℕ) (words : List ℕ) → i < length words → w ≡ slice_index_or words i w → IsWriting core p mid r ring at (drop i words) word words → ArePut mid r now q (written_from (linkage_segment ring) at (w ∷ [])) → IsWriting core p now q ring (at + 1) (drop (i + 1) words) word words
writing_more core mid now p r q ring at word i w words inside is h put =
    let cut : drop i words ≡ w ∷ drop (suc i) words = drop-cons words i w inside ∙ ap (λ (x : ℕ). x ∷ drop (suc i) words) (sym is) in
    let next : suc i ≡ i + 1 = omega arith in
    subst (λ (n : ℕ). IsWriting core p now q ring (at + 1) (drop n words) word words) next (writing_next core mid now p r q ring at w word (drop (suc i) words) words (subst (λ (x : List ℕ). IsWriting core p mid r ring at x word words) cut h) put)

writing_end : (core now : List ℕ) (p q : PagerFields) (ring at word : ℕ) (words : List ℕ) → IsWriting core p now q ring at [] word words → ArePut core p now q (written_from (linkage_segment ring) word words)
unfolding flat_put paged_put written_from
writing_end core now p q ring at word words h =
    record { put = h.put; flat = h.written; frames = h.frames; managed = h.managed }

pub writing_done : (core now : List ℕ) (p q : PagerFields) (ring at word i : ℕ) (words : List ℕ) → length words ≤ i → IsWriting core p now q ring at (drop i words) word words → ArePut core p now q (written_from (linkage_segment ring) word words)
writing_done core now p q ring at word i words past h =
    writing_end core now p q ring at word words (subst (λ (x : List ℕ). IsWriting core p now q ring at x word words) (drop_past i words past) h)

pub put-append : (f : Flat) (a b : List Change) → flat_put f (a ++ b) ≡ flat_put (flat_put f a) b
unfolding flat_put
put-append f [] b = refl
put-append f (c ∷ a) b = put-append (flat_put_one f c.spot c.part c.value) a b

paged_append : (m : Paged) (a b : List Change) → paged_put m (a ++ b) ≡ paged_put (paged_put m a) b
unfolding paged_put
paged_append m [] b = refl
paged_append m (c ∷ a) b = paged_append (paged_put_one m c.spot c.part c.value) a b

pub put_both : (core mid now : List ℕ) (p r q : PagerFields) (a b : List Change) → ArePut core p mid r a → ArePut mid r now q b → ArePut core p now q (a ++ b)
put_both core mid now p r q a b first second =
    record {
      put = second.put ∙ ap (λ (m : Paged). paged_put m b) first.put ∙ sym (paged_append (memory_by core p) a b);
      flat = second.flat ∙ ap (λ (f : Flat). flat_put f b) first.flat ∙ sym (put-append (flat_by core p) a b);
      frames = second.frames ∙ first.frames;
      managed = second.managed;
    }

pub put_none : (core : List ℕ) (p : PagerFields) → IsManaged (length p.holders) core p → ArePut core p core p []
unfolding flat_put paged_put
put_none core p m = record { put = refl; flat = refl; frames = refl; managed = m }

pub put_section : (core mid now : List ℕ) (p r q : PagerFields) (l : NewSectionFields) → ArePut core p mid r (written_from (linkage_segment l.ring) l.base l.words) → ArePut mid r now q (written_from (linkage_segment l.ring) l.seg (lot_word l ∷ [])) → ArePut core p now q (section_changes (Some l))
unfolding section_changes
put_section core mid now p r q l first second = put_both core mid now p r q _ _ first second

pub put_nothing : (core : List ℕ) (p : PagerFields) → IsManaged (length p.holders) core p → ArePut core p core p (section_changes None)
unfolding section_changes
put_nothing core p m = put_none core p m

pub put_changes : (core mid now : List ℕ) (p r q : PagerFields) (at : AtFields) (s : SnapFields) → at.seg ≡ linkage_segment at.ring → ArePut core p mid r (written_from (linkage_segment at.ring) at.word (s.pair.even ∷ s.pair.odd ∷ [])) → ArePut mid r now q (section_changes s.lay) → ArePut core p now q (link_changes at s)
unfolding link_changes
put_changes core mid now p r q at s seg first second =
    put_both core mid now p r q _ _ (subst (λ (n : ℕ). ArePut core p mid r (written_from n at.word (s.pair.even ∷ s.pair.odd ∷ []))) (sym seg) first) second

-- ---- the turn

pub linked : (old new : State (List ℕ)) (p q : PagerFields) (known later : KnownFields) (next_event next : NextEvent) (loaded : Bool) (at : AtFields) (s : SnapFields) (turn : Turn) → ArePut old.store p new.store q (link_changes at s) → new.regs ≡ old.regs → later ≡ known_after known s → next ≡ Step → turn ≡ Linked (note_snapped at s) → IsLinkTurn (Ok s) (length p.holders) at (run_of old p known next_event loaded) turn (run_of new q later next loaded)
unfolding memory_by
linked old new p q known later next_event next loaded at s turn put regs accepts step told =
    subst (λ (t : Turn). IsLinkTurn (Ok s) (length p.holders) at (run_of old p known next_event loaded) t (run_of new q later next loaded)) (sym told) (record {
      told = refl;
      regs = regs;
      written = record { put = put.put; laid = subst (IsLaid new.store) put.frames put.managed.pages.laid; flat = put.flat };
      known = accepts;
      next_event = step;
      loaded = refl;
    })

no_memory_by : (answer : Result SnapFields RefusedFields) (frames : ℕ) (at : AtFields) (before : Booted) → IsLinkTurn answer frames at before NoMemory before
no_memory_by (Ok s) frames at before = refl
no_memory_by (Err why) frames at before = refl

-- if memory runs out, nothing has changed
pub linked_without_memory : (answer : Result SnapFields RefusedFields) (frames : ℕ) (at : AtFields) (before after : Booted) (turn : Turn) → turn ≡ NoMemory → after ≡ before → IsLinkTurn answer frames at before turn after
linked_without_memory answer frames at before after turn told same =
    subst (λ (t : Turn). IsLinkTurn answer frames at before t after) (sym told) (subst (IsLinkTurn answer frames at before NoMemory) (sym same) (no_memory_by answer frames at before))

pub link_refused : (answer : Result SnapFields RefusedFields) (frames : ℕ) (at : AtFields) (before after : Booted) (turn : Turn) (why : RefusedFields) → answer ≡ Err why → turn ≡ Linked (note_refused at why) → after ≡ record before { next_event = Over (end.Link why.code) } → IsLinkTurn answer frames at before turn after
link_refused answer frames at before after turn why e told same =
    subst (λ (t : Turn). IsLinkTurn answer frames at before t after) (sym told) (subst (λ (a : Result SnapFields RefusedFields). IsLinkTurn a frames at before (Linked (note_refused at why)) after) (sym e) (refl, same))

pub link_answered : (answer : Result SnapFields RefusedFields) (frames : ℕ) (at : AtFields) (before after : Booted) (turn : Turn) (s : SnapFields) → answer ≡ Ok s → IsLinkTurn (Ok s) frames at before turn after → IsLinkTurn answer frames at before turn after
link_answered answer frames at before after turn s e h =
    subst (λ (a : Result SnapFields RefusedFields). IsLinkTurn a frames at before turn after) (sym e) h

pub still_running : (old new : State (List ℕ)) (p q : PagerFields) (changes : List Change) → IsRunning (length p.holders) old.regs old.store p → new.regs ≡ old.regs → ArePut old.store p new.store q changes → IsRunning (length q.holders) new.regs new.store q
still_running old new p q changes runs regs put =
    record { dbr = ap (λ (r : RegsFields). r.dbr) regs ∙ runs.dbr; managed = put.managed }

pub ruleset writing = (writing_first, writing_more, writing_done)

pub ruleset complete_snap = (linked, linked_without_memory, still_running)

pub ruleset answers = (link_answered, link_refused, linked_without_memory, snap_place)
