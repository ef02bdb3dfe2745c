-- One step in ring r and above: of one state, and of two states that agree.
use Rattle.std.proofs.Common.{◌≡◌, refl, sym, ◌∙◌, ap, subst}
use Rattle.std.specs.Prelude.{ℕ, ◌≤◌, Bool, true, false, List, []}
use Rattle.m36_model.specs.Registers.{RegsFields}
use Rattle.m36_model.specs.Store.{Spot, Change, Store, ProgramResult, run, changes}
use Rattle.m36_model.specs.Sight.{content_in}
use Rattle.m36_model.specs.Step.{Ending, program, step_record}
use Rattle.m36_model.specs.StoreLaw.{Each, same_spot, overlay, IsPlacedWord, IsSegmentChange, Lawful}
use Rattle.m36_model.specs.Audit.{IsGuarded}
use Rattle.m36_isol.proofs.Program.{AreRan, run_alike}
use Rattle.m36_isol.proofs.Alike.{Sees, Reaches, IsReached, May, Known, Alike, SeeEqual}
use Rattle.m36_isol.proofs.Spots.{each_change, each_map}
use Rattle.m36_isol.proofs.Serve.{serve_alike}
use Rattle.m36_isol.proofs.Programs.{IsEnded, program_meets}
use Rattle.m36_isol.proofs.Contents.{overlay_none, content_equal, words_equal}

module _ {S : Type 0} (o : Store S) (g : RegsFields) (Has : S → Type 0) (Lies : Spot → Type 0) (Near : S → S → Type 0) (L : Lawful o g.dbr Has Lies Near) (guarded : IsGuarded g.dbr L.sdws) (r : ℕ) (low : r ≤ g.ppr.prr) where
  abbrev pub step_run : S → ProgramResult Ending S
  step_run s = run o g (program g) (record { store = s; claims = []; refs = [] })

  abbrev pub after_run : S → S
  after_run s = let t = step_run s in o.put t.mid.store (changes t.mid.claims t.value.puts)

  abbrev pub writes_of : S → List Change
  writes_of s = let t = step_run s in changes t.mid.claims t.value.puts

  begins_alike : (s t : S) → Has s → Has t → Alike o Has Lies Near L.sdws L.spots r s t (record { store = s; claims = []; refs = [] }) (record { store = t; claims = []; refs = [] })
  begins_alike s t h k =
      record {
        kept = record { has = h; words = λ p lies. refl; near = L.near_self s };
        kept_other = record { has = k; words = λ p lies. refl; near = L.near_self t };
        claims = refl;
        refs = refl;
        claimed = tt;
        allowed = tt;
      }

  pub both_run : (s t : S) → Has s → Has t → SeeEqual o L.sdws L.spots r s t → AreRan (Alike o Has Lies Near L.sdws L.spots r s t) (IsEnded L.sdws r g) (step_run s) (step_run t)
  both_run s t h k equal =
      run_alike o o g (May L.sdws r g) (Known L.sdws g) (Alike o Has Lies Near L.sdws L.spots r s t) (serve_alike o g Has Lies Near L r low s t equal) (IsEnded L.sdws r g) (program g) _ _ (program_meets L.sdws r g low guarded) (begins_alike s t h k)

  pub one_run : (s : S) → Has s → AreRan (Alike o Has Lies Near L.sdws L.spots r s s) (IsEnded L.sdws r g) (step_run s) (step_run s)
  one_run s h = both_run s s h h (λ seg w p sees word. refl)

  -- all words that are written are in reach
  pub reached_writes : (s : S) → Has s → Each (λ (c : Change). IsReached L.sdws L.spots r c.spot) (writes_of s)
  reached_writes s h = each_change (IsReached L.sdws L.spots r) _ (one_run s h).mid.claimed _

  spot_writes : (s : S) → Has s → Each (IsSegmentChange L.sdws L.spots) (writes_of s)
  spot_writes s h =
      each_map (λ (c : Change). IsReached L.sdws L.spots r c.spot) (IsSegmentChange L.sdws L.spots) (λ c k. record { seg = k.seg; w = k.w; word = k.word }) (writes_of s) (reached_writes s h)

  pub after_has : (s : S) → Has s → Has (after_run s)
  after_has s h = L.put_tables _ (one_run s h).mid.kept.has (writes_of s) (spot_writes s h)

  -- a word of a segment after the step
  pub after_word : (s : S) → Has s → (p : Spot) → Lies p → o.word (after_run s) p ≡ overlay (writes_of s) p (o.word s p)
  after_word s h p lies =
      let k = (one_run s h).mid.kept in
      L.put_word _ k.has (writes_of s) (spot_writes s h) p lies ∙ ap (overlay (writes_of s) p) (k.words p lies)

  -- out of reach nothing changes
  apart_by : (seg w : ℕ) (p : Spot) → IsPlacedWord L.sdws L.spots seg w p → (Reaches L.sdws r seg → ⊥) → (c : Change) → IsReached L.sdws L.spots r c.spot → (t : Bool) → same_spot c.spot p ≡ t → same_spot c.spot p ≡ false
  apart_by seg w p word none c k false e = e
  apart_by seg w p word none c k true e =
      let same = L.apart k.seg k.w seg w c.spot p k.word word e in
      absurd (none (subst (λ (x : ℕ). Reaches L.sdws r x) same.0 k.reaches))

  pub unreached_word : (s : S) → Has s → (seg w : ℕ) (p : Spot) → IsPlacedWord L.sdws L.spots seg w p → (Reaches L.sdws r seg → ⊥) → o.word (after_run s) p ≡ o.word s p
  unreached_word s h seg w p word none =
      after_word s h p (L.lies seg w p word) ∙ overlay_none (writes_of s) p (o.word s p) (each_map (λ (c : Change). IsReached L.sdws L.spots r c.spot) (λ (c : Change). same_spot c.spot p ≡ false) (λ c k. apart_by seg w p word none c k (same_spot c.spot p) refl) (writes_of s) (reached_writes s h))

  pub unreached : (s : S) → Has s → (seg w : ℕ) → (Reaches L.sdws r seg → ⊥) → content_in o (after_run s) g.dbr seg w ≡ content_in o s g.dbr seg w
  unreached s h seg w none =
      content_equal o g.dbr Has Lies Near L (after_run s) s (after_has s h) h seg w (λ p word. unreached_word s h seg w p word none)

  -- two states in which words that ring r can see are equal
  module _ (s t : S) (h : Has s) (k : Has t) (equal : SeeEqual o L.sdws L.spots r s t) where
    pub same_record : step_record g (step_run s) ≡ step_record g (step_run t)
    same_record =
        let b = both_run s t h k equal in
        let value = b.value in
        let refs = b.mid.refs in
        λ i. record {
          ppr = g.ppr;
          word = (value i).word;
          at = (value i).at;
          refs = record { items = refs i };
          after = (value i).after;
          outcome = (value i).outcome;
        }

    pub same_writes : writes_of s ≡ writes_of t
    same_writes =
        let b = both_run s t h k equal in
        let value = b.value in
        let claims = b.mid.claims in
        λ i. changes (claims i) (value i).puts

    -- content that was equal is equal again, whether ring r can see it or not
    pub equal_stays : (seg w : ℕ) → content_in o s g.dbr seg w ≡ content_in o t g.dbr seg w → content_in o (after_run s) g.dbr seg w ≡ content_in o (after_run t) g.dbr seg w
    equal_stays seg w e =
        content_equal o g.dbr Has Lies Near L (after_run s) (after_run t) (after_has s h) (after_has t k) seg w (λ p word. after_word s h p (L.lies seg w p word) ∙ ap (overlay (writes_of s) p) (words_equal o g.dbr Has Lies Near L s t h k seg w p word e) ∙ ap (λ (c : List Change). overlay c p (o.word t p)) same_writes ∙ sym (after_word t k p (L.lies seg w p word)))

    after_equal : SeeEqual o L.sdws L.spots r (after_run s) (after_run t)
    after_equal seg w p sees word =
        let lies = L.lies seg w p word in
        after_word s h p lies ∙ ap (overlay (writes_of s) p) (equal seg w p sees word) ∙ ap (λ (c : List Change). overlay c p (o.word t p)) same_writes ∙ sym (after_word t k p lies)

    pub after_content : (seg w : ℕ) → Sees L.sdws r seg → content_in o (after_run s) g.dbr seg w ≡ content_in o (after_run t) g.dbr seg w
    after_content seg w sees =
        content_equal o g.dbr Has Lies Near L (after_run s) (after_run t) (after_has s h) (after_has t k) seg w (λ p word. after_equal seg w p sees word)

  -- equal content that ring r can see means equal words that it can see
  pub see_equal : (s t : S) → Has s → Has t → ((seg w : ℕ) → Sees L.sdws r seg → content_in o s g.dbr seg w ≡ content_in o t g.dbr seg w) → SeeEqual o L.sdws L.spots r s t
  see_equal s t h k contents seg w p sees word =
      words_equal o g.dbr Has Lies Near L s t h k seg w p word (contents seg w sees)
