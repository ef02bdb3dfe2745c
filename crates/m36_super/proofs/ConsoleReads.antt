-- Words that the console reads: by the rules of access, over the flat memory.
use Rattle.std.proofs.Common.{◌≡◌, refl, sym, ◌∙◌, ap, subst, arith, append_assoc, length-append}
use Rattle.std.proofs.lemmas.List.{append-nil}
use Rattle.std.specs.Prelude.{ℕ, zero, suc, ◌+◌, ◌*◌, ◌-◌, ◌<◌, ◌≤◌, ◌==◌, Bool, true, false, List, [], ◌∷◌, ◌++◌, length, slice_index, Option, Some, None, Result, Ok, Err}
use Rattle.m36_desc.specs.Fields.{SdwFields, DbrFields}
use Rattle.m36_desc.specs.Access.{has_ordered_brackets, first_violation, read_rows, unless_violation}
use Rattle.m36_desc.specs.Violations.{out_of_segment_bounds}
use Rattle.m36_desc.specs.declared.access.Acv.{Acv}
use Rattle.m36_model.specs.Fields.{AtFields}
use Rattle.m36_model.specs.Registers.{RegsFields}
use Rattle.m36_model.specs.Act.{Answer, Read, Request}
use Rattle.m36_model.specs.Store.{Spot, Segment_word, Midstep, violation, is_within_bound, fault_by, refusing_violation, serve_sdw, serve_rights, serve_places, spots_from, serve, place, place_by, place_within, when_ordered, spots_of_request, spots_of, changes, without_marks, examined_reply}
use Rattle.m36_model.specs.Place.{core_sdw}
use Rattle.m36_model.specs.Sight.{word_if_placed, content_in}
use Rattle.m36_model.specs.Flat.{Flat, flat_sdw, flat_put, flat_store}
use Rattle.m36_model.specs.BootedCore.{booted_dbr}
use Rattle.m36_model.specs.Residence.{flat_of}
use Rattle.m36_model.specs.declared.outcome.Fault.{Fault}
use Rattle.m36_model.specs.declared.outcome.Refusal.{Refusal}
use Rattle.m36_isol.proofs.Booted.{flat_descriptor}
use Rattle.m36_page.specs.Fields.{PagerFields}
use Rattle.m36_page.specs.Residence.{content_of}
use Rattle.m36_super.specs.Services.{characters_of, with_word_before, console_at, console_words}
use Rattle.m36_super.specs.SuperFields.{IsManaged}
use Rattle.m36_super.specs.Writing.{flat_by}
use Rattle.m36_super.specs.Examining.{ExaminedResult, with_characters_before}
use Rattle.m36_super.proofs.PagedContents.{content_shown, shown, shown_by}

-- ---- over any flat memory

module _ (f : Flat) (g : RegsFields) (at : AtFields) where
  abbrev first : Midstep Flat
  first = record { store = f; claims = []; refs = [] }

  abbrev request : Request
  request = record { kind = Read; at = at; count = 1; pending = [] }

  abbrev no_acv : SdwFields → Option ℕ
  no_acv d = refusing_violation Read d at.ring g.ppr.prr (at.seg == g.ppr.psr) at.word

  dead_read : (why : Refusal) → flat_sdw f g.dbr at.seg ≡ Err why → examined_reply flat_store g f at ≡ Err (fault_by why at)
  unfolding examined_reply serve
  dead_read why e =
      ap (λ (v : Result SdwFields Refusal). (serve_sdw (without_marks flat_store) g first request v).reply) e

  rights_read : (d : SdwFields) (v : Option ℕ) → flat_sdw f g.dbr at.seg ≡ Ok d → no_acv d ≡ v → examined_reply flat_store g f at ≡ (serve_rights (without_marks flat_store) g first request d v).reply
  unfolding examined_reply serve
  rights_read d v e h =
      ap (λ (x : Result SdwFields Refusal). (serve_sdw (without_marks flat_store) g first request x).reply) e
      ∙ ap (λ (x : Option ℕ). (serve_rights (without_marks flat_store) g first request d x).reply) h

  denied_read : (d : SdwFields) (acv : ℕ) → flat_sdw f g.dbr at.seg ≡ Ok d → no_acv d ≡ Some acv → examined_reply flat_store g f at ≡ Err (fault_by (violation acv) at)
  denied_read d acv e h = rights_read d (Some acv) e h

  abbrev AreFound : Bool → Result Answer Fault → Type 0
  AreFound true r = (a : Answer) × (r ≡ Ok a) × (slice_index a.words 0 ≡ f.content at.seg at.word)
  AreFound false r = r ≡ Err (fault_by (violation out_of_segment_bounds) at)

  abbrev placed_reply : SdwFields → Bool → Result Answer Fault
  placed_reply d b =
      (serve_places (without_marks flat_store) g first request d (spots_from b at.word (Ok (Segment_word at.seg at.word)) (Ok []))).reply

  placed_by : (d : SdwFields) (b : Bool) → AreFound b (placed_reply d b)
  unfolding changes flat_put
  placed_by d true =
      (record { sdw = d; first = 0; place = 0; words = f.content at.seg at.word ∷ [] }, refl, refl)
  placed_by d false = refl

  placed_is : (d : SdwFields) → (serve_rights (without_marks flat_store) g first request d None).reply ≡ placed_reply d (is_within_bound d at.word)
  unfolding spots_of_request spots_of
  placed_is d = refl

  placed : (d : SdwFields) (b : Bool) → is_within_bound d at.word ≡ b → AreFound b (serve_rights (without_marks flat_store) g first request d None).reply
  placed d b e =
      subst (AreFound b) (sym (placed_is d)) (subst (λ (c : Bool). AreFound b (placed_reply d c)) (sym e) (placed_by d b))

  bounds_read : (d : SdwFields) (b : Bool) → flat_sdw f g.dbr at.seg ≡ Ok d → no_acv d ≡ None → is_within_bound d at.word ≡ b → AreFound b (examined_reply flat_store g f at)
  bounds_read d b e h inside = subst (AreFound b) (sym (rights_read d None e h)) (placed d b inside)

-- ---- words without access checks

module _ (core : List ℕ) (p : PagerFields) (seg w : ℕ) where
  sdw_is : (v : Result SdwFields Refusal) → core_sdw core booted_dbr seg ≡ v → flat_sdw (flat_by core p) booted_dbr seg ≡ v
  unfolding flat_of
  sdw_is v e = sym (flat_descriptor core (flat_by core p) refl seg) ∙ e

  abbrev place_as : Result SdwFields Refusal → Result Spot Refusal
  place_as v = place_by v (λ d. Ok (Segment_word seg w)) w

  content_as : (v : Result SdwFields Refusal) → core_sdw core booted_dbr seg ≡ v → content_in flat_store (flat_by core p) booted_dbr seg w ≡ word_if_placed flat_store (flat_by core p) (place_as v)
  unfolding content_in place
  content_as v e =
      ap (λ (x : Result SdwFields Refusal). word_if_placed flat_store (flat_by core p) (place_as x)) (sdw_is v e)

  pub dead_content : (why : Refusal) (dbr : DbrFields) → dbr ≡ booted_dbr → core_sdw core dbr seg ≡ Err why → None ≡ content_in flat_store (flat_by core p) dbr seg w
  dead_content why dbr e dead =
      let e' = sym e in
      subst (λ (d : DbrFields). None ≡ content_in flat_store (flat_by core p) d seg w) e' (sym (content_as (Err why) (subst (λ (d : DbrFields). core_sdw core d seg ≡ Err why) e dead)))

  pub disordered_content : (d : SdwFields) → core_sdw core booted_dbr seg ≡ Ok d → has_ordered_brackets d ≡ false → None ≡ content_in flat_store (flat_by core p) booted_dbr seg w
  disordered_content d live apart =
      sym (content_as (Ok d) live ∙ ap (λ (b : Bool). word_if_placed flat_store (flat_by core p) (when_ordered b (place_within (is_within_bound d w) (Ok (Segment_word seg w))))) apart)

  pub beyond_content : (d : SdwFields) → core_sdw core booted_dbr seg ≡ Ok d → has_ordered_brackets d ≡ true → is_within_bound d w ≡ false → None ≡ content_in flat_store (flat_by core p) booted_dbr seg w
  beyond_content d live ordered past =
      sym (content_as (Ok d) live ∙ (λ i. word_if_placed flat_store (flat_by core p) (when_ordered (ordered i) (place_within (past i) (Ok (Segment_word seg w))))))

  found_content : (d : SdwFields) (v : ℕ) → IsManaged (length p.holders) core p → core_sdw core booted_dbr seg ≡ Ok d → has_ordered_brackets d ≡ true → is_within_bound d w ≡ true → content_of p core seg w ≡ Some v → (flat_by core p).content seg w ≡ v
  unfolding flat_of
  found_content d v m live ordered inside found =
      content_shown (length p.holders) core p m seg w
      ∙ ap (λ (x : Result SdwFields Refusal). shown x (content_of p core seg w) w) live
      ∙ (λ i. shown_by (ordered i) (inside i) (found i))

  pub placed_content : (d : SdwFields) (v : ℕ) → IsManaged (length p.holders) core p → core_sdw core booted_dbr seg ≡ Ok d → has_ordered_brackets d ≡ true → is_within_bound d w ≡ true → content_of p core seg w ≡ Some v → Some v ≡ content_in flat_store (flat_by core p) booted_dbr seg w
  placed_content d v m live ordered inside found =
      sym (content_as (Ok d) live ∙ (λ i. word_if_placed flat_store (flat_by core p) (when_ordered (ordered i) (place_within (inside i) (Ok (Segment_word seg w))))) ∙ ap Some (found_content d v m live ordered inside found))

-- ---- over the memory of a booted system

-- the answer for a right to read that is denied
abbrev pub denied_answer : ℕ → Result (Unit {0}) Acv
denied_answer acv = Err (record { 0 = acv })

abbrev pub allowed_answer : Result (Unit {0}) Acv
allowed_answer = Ok tt

abbrev acv_of : Result (Unit {0}) Acv → ℕ
acv_of (Ok u) = 0
acv_of (Err a) = a.0

pub denied_as : (d : SdwFields) (trr prr word acv : ℕ) (same : Bool) → denied_answer acv ≡ unless_violation tt (first_violation (read_rows d trr same)) → refusing_violation Read d trr prr same word ≡ Some acv
unfolding refusing_violation
denied_as d trr prr word acv same e = by_answer (first_violation (read_rows d trr same)) refl
  where
    by_answer : (v : Option ℕ) → first_violation (read_rows d trr same) ≡ v → first_violation (read_rows d trr same) ≡ Some acv
    by_answer None h = cc
    by_answer (Some n) h =
        let same_acv : acv ≡ n = ap acv_of (e ∙ ap (λ (x : Option ℕ). unless_violation tt x) h) in
        h ∙ ap Some (sym same_acv)

pub allowed_as : (d : SdwFields) (trr prr word : ℕ) (same : Bool) → allowed_answer ≡ unless_violation tt (first_violation (read_rows d trr same)) → refusing_violation Read d trr prr same word ≡ None
unfolding refusing_violation
allowed_as d trr prr word same e = by_answer (first_violation (read_rows d trr same)) refl
  where
    by_answer : (v : Option ℕ) → first_violation (read_rows d trr same) ≡ v → first_violation (read_rows d trr same) ≡ None
    by_answer None h = h
    by_answer (Some n) h = cc

module _ (core : List ℕ) (p : PagerFields) (g : RegsFields) (at : AtFields) (dbr : g.dbr ≡ booted_dbr) where
  descriptor_is : (v : Result SdwFields Refusal) → core_sdw core booted_dbr at.seg ≡ v → flat_sdw (flat_by core p) g.dbr at.seg ≡ v
  unfolding flat_of
  descriptor_is v e =
      ap (λ (d : DbrFields). flat_sdw (flat_by core p) d at.seg) dbr ∙ sym (flat_descriptor core (flat_by core p) refl at.seg) ∙ e

  pub dead_word : (why : Refusal) → core_sdw core booted_dbr at.seg ≡ Err why → examined_reply flat_store g (flat_by core p) at ≡ Err (fault_by why at)
  dead_word why e = dead_read (flat_by core p) g at why (descriptor_is (Err why) e)

  pub denied_word : (d : SdwFields) (acv : ℕ) → core_sdw core booted_dbr at.seg ≡ Ok d → denied_answer acv ≡ unless_violation tt (first_violation (read_rows d at.ring (at.seg == g.ppr.psr))) → examined_reply flat_store g (flat_by core p) at ≡ Err (fault_by (violation acv) at)
  denied_word d acv e h =
      denied_read (flat_by core p) g at d acv (descriptor_is (Ok d) e) (denied_as d at.ring g.ppr.prr at.word acv (at.seg == g.ppr.psr) h)

  pub beyond_word : (d : SdwFields) → core_sdw core booted_dbr at.seg ≡ Ok d → allowed_answer ≡ unless_violation tt (first_violation (read_rows d at.ring (at.seg == g.ppr.psr))) → is_within_bound d at.word ≡ false → examined_reply flat_store g (flat_by core p) at ≡ Err (fault_by (violation out_of_segment_bounds) at)
  beyond_word d e h out =
      bounds_read (flat_by core p) g at d false (descriptor_is (Ok d) e) (allowed_as d at.ring g.ppr.prr at.word (at.seg == g.ppr.psr) h) out

  pub read_word : (d : SdwFields) (w : ℕ) → IsManaged (length p.holders) core p → core_sdw core booted_dbr at.seg ≡ Ok d → allowed_answer ≡ unless_violation tt (first_violation (read_rows d at.ring (at.seg == g.ppr.psr))) → is_within_bound d at.word ≡ true → content_of p core at.seg at.word ≡ Some w → ExaminedResult (Ok w) (examined_reply flat_store g (flat_by core p) at)
  read_word d w m e h inside found =
      let r = bounds_read (flat_by core p) g at d true (descriptor_is (Ok d) e) (allowed_as d at.ring g.ppr.prr at.word (at.seg == g.ppr.psr) h) inside in
      (r.0, r.1, r.2 ∙ found_content core p at.seg at.word d w m e (m.pages.laid.segments at.seg d e).ordered inside found)

-- ---- words of the text, one after another

-- `left` words are still to be read.
pub record IsReading (g : RegsFields) (f : Flat) (count k left : ℕ) (text : List ℕ) : Type 0 where
  pub size : length text ≡ 4 * k
  pub count_is : k + left ≡ count
  pub rest : with_characters_before text (console_words g f k left) ≡ console_words g f 0 count

behind_none : (r : Result (List ℕ) Fault) → with_characters_before [] r ≡ r
behind_none (Ok more) = refl
behind_none (Err f) = refl

pub reading_first : (g : RegsFields) (f : Flat) (count : ℕ) → IsReading g f count 0 count []
reading_first g f count =
    record { size = refl; count_is = omega arith; rest = behind_none (console_words g f 0 count) }

behind_more : (text word : List ℕ) (r : Result (List ℕ) Fault) (all : Result (List ℕ) Fault) (a : Answer) → characters_of (slice_index a.words 0) ≡ word → with_characters_before text (with_word_before (Ok a) r) ≡ all → with_characters_before (text ++ word) r ≡ all
behind_more text word (Ok more) all a e h =
    ap Ok (append_assoc text word more) ∙ ap (λ (cs : List ℕ). Ok (text ++ (cs ++ more))) (sym e) ∙ h
behind_more text word (Err f) all a e h = h

reading_by : (g : RegsFields) (f : Flat) (count k n : ℕ) (text word : List ℕ) (a : Answer) → IsReading g f count k (suc n) text → examined_reply flat_store g f (console_at g k) ≡ Ok a → characters_of (slice_index a.words 0) ≡ word → length word ≡ 4 → IsReading g f count (k + 1) n (text ++ word)
unfolding console_words
reading_by g f count k n text word a h e is four =
    let size = h.size in
    let all = h.count_is in
    let both = length-append text word in
    let next : with_characters_before text (with_word_before (Ok a) (console_words g f (k + 1) n)) ≡ console_words g f 0 count = ap (λ (r : Result Answer Fault). with_characters_before text (with_word_before r (console_words g f (k + 1) n))) (sym e) ∙ h.rest in
    record {
      size = omega arith;
      count_is = omega arith;
      rest = behind_more text word (console_words g f (k + 1) n) (console_words g f 0 count) a is next;
    }

pub four_characters : (w : ℕ) → length (characters_of w) ≡ 4
unfolding characters_of
four_characters w = refl

pub reading_more : (g : RegsFields) (f : Flat) (count k left w : ℕ) (text next : List ℕ) → 0 < left → IsReading g f count k left text → ExaminedResult (Ok w) (examined_reply flat_store g f (console_at g k)) → next ≡ text ++ characters_of w → IsReading g f count (k + 1) (left - 1) next
reading_more g f count k zero w text next some h e put = absurd (omega arith)
reading_more g f count k (suc n) w text next some h e put =
    let same : n ≡ suc n - 1 = omega arith in
    let is = ap characters_of e.2 in
    subst (λ (l : ℕ). IsReading g f count (k + 1) l next) same (subst (IsReading g f count (k + 1) n) (sym put) (reading_by g f count k n text (characters_of w) e.0 h e.1 is (four_characters w)))

pub reading_failed : (g : RegsFields) (f : Flat) (count k left : ℕ) (text : List ℕ) (why : Fault) → 0 < left → IsReading g f count k left text → examined_reply flat_store g f (console_at g k) ≡ Err why → console_words g f 0 count ≡ Err why
unfolding console_words
reading_failed g f count k zero text why some h e = absurd (omega arith)
reading_failed g f count k (suc n) text why some h e =
    sym h.rest ∙ ap (λ (r : Result Answer Fault). with_characters_before text (with_word_before r (console_words g f (k + 1) n))) e

pub reading_done : (g : RegsFields) (f : Flat) (count k left : ℕ) (text : List ℕ) → left ≤ 0 → IsReading g f count k left text → console_words g f 0 count ≡ Ok text
unfolding console_words
reading_done g f count k zero text none h = sym h.rest ∙ ap Ok (append-nil text)
reading_done g f count k (suc n) text none h = absurd (omega arith)

pub ruleset placed_words = (disordered_content, beyond_content, placed_content)

pub ruleset described = (denied_word, beyond_word, read_word)

pub ruleset reading = (reading_first, reading_more, reading_failed, reading_done)
