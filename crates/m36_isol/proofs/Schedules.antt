-- Windows over a schedule, by induction on it.
use Rattle.std.proofs.Common.{◌≡◌, refl, sym, ◌∙◌, ap, subst, leb-true, eqb-true, length-set}
use Rattle.std.specs.Prelude.{ℕ, ◌<◌, ◌≤◌, Bool, true, false, ◌&&◌, ◌==◌, nat_le, List, [], ◌∷◌, map, length, slice_get, slice_set, Option, Some, None}
use Rattle.std.proofs.lemmas.Bool.{eqb-false}
use Rattle.std.proofs.lemmas.List.{length-map}
use Rattle.m36_desc.specs.Fields.{DbrFields}
use Rattle.m36_model.specs.Registers.{RegsFields}
use Rattle.m36_model.specs.Store.{State, Tables}
use Rattle.m36_model.specs.Core.{core_store, core_tables}
use Rattle.m36_model.specs.Sight.{InSight, InReach, Unreached, content_in}
use Rattle.m36_model.specs.Agree.{Agree}
use Rattle.m36_model.specs.Step.{record_of, state_after}
use Rattle.m36_model.specs.Run.{is_next, only_if}
use Rattle.m36_model.specs.StoreLaw.{Each}
use Rattle.m36_model.specs.Isolation.{EachTwo, IsGateCall, HasPointers}
use Rattle.m36_model.specs.Laws.{IsAbove, IsAlike}
use Rattle.m36_model.specs.Schedule.{Processes, process_of, Event, processes_after, event, events_by, events, cut_events, window_of}
use Rattle.m36_model.specs.JointAudit.{IsJointlyAudited}
use Rattle.m36_model.specs.JointIsolation.{AgreeAll, IsEventKept, JointlyIsolated}
use Rattle.m36_model.specs.declared.record.StepRecord.{StepRecord}
use Rattle.m36_word.proofs.Lists.{set_other, set_same, get_beside, get_map}
use Rattle.m36_isol.proofs.Alike.{Sees, Reaches}
use Rattle.m36_isol.proofs.Windows.{after_is}
use Rattle.m36_isol.proofs.AuditedBy.{same_dbr}
use Rattle.m36_isol.proofs.CoreIsolated.{core_reach, core_fall, core_agree, by_tables, pointers_after}
use Rattle.m36_isol.proofs.JointLaw.{HasAll, joint_lawful}
use Rattle.m36_isol.proofs.JointStep.{equal, all_after, joint_see_equal, other_agrees, other_unreached}

module _ (core : List ℕ) (dbrs : List DbrFields) (audited : IsJointlyAudited core dbrs) (r : ℕ) (some : 1 ≤ r) where
  abbrev All : Type 0
  All = Processes (List ℕ)

  -- there are as many registers as DBRs, and each process runs in r or above, on its own tables
  pub record AreSound (s : All) : Type 0 where
    pub count : length s.regs ≡ length dbrs
    pub each : (i : ℕ) (g : RegsFields) (dbr : DbrFields) → slice_get s.regs i ≡ Some g → slice_get dbrs i ≡ Some dbr → IsAbove core_store (core_tables core dbr) r (process_of s g)

  abbrev UnreachedAll : All → All → Type 0
  UnreachedAll start now =
      (i : ℕ) (g h : RegsFields) → slice_get start.regs i ≡ Some g → slice_get now.regs i ≡ Some h → Unreached core_store r (process_of start g) (process_of now h)

  -- the DBR of a process
  base : (s : All) → AreSound s → (i : ℕ) (g : RegsFields) → slice_get s.regs i ≡ Some g → slice_get dbrs i ≡ Some g.dbr
  base s sound i g at =
      let k = get_beside s.regs dbrs i g (sym sound.count) at in
      let above = sound.each i g k.0 at k.1 in
      k.1 ∙ ap Some (sym (same_dbr core s.store k.0 g.dbr above.tables))

  has_all : (s : All) → AreSound s → HasAll core dbrs s.store
  has_all s sound i dbr at =
      let k = get_beside dbrs s.regs i dbr sound.count at in
      let above = sound.each i k.0 dbr k.1 at in
      subst (λ (d : DbrFields). core_tables s.store d ≡ core_tables core dbr) (same_dbr core s.store dbr k.0.dbr above.tables) above.tables

  -- a process of a sound state
  above_of : (s : All) → AreSound s → (i : ℕ) (g : RegsFields) → slice_get s.regs i ≡ Some g → IsAbove core_store (core_tables core g.dbr) r (process_of s g)
  above_of s sound i g at = sound.each i g g.dbr at (base s sound i g at)

  -- a state that agrees with a sound one is sound
  sound_other : (a b : All) → AreSound a → AgreeAll core_store r a b → AreSound b
  sound_other a b sound agree =
      record {
        count = ap (λ (l : List RegsFields). length l) (sym agree.regs) ∙ sound.count;
        each = λ k h dbr at there. let at_a = ap (λ (l : List RegsFields). slice_get l k) agree.regs ∙ at in let above = sound.each k h dbr at_a there in record { pointers = above.pointers; tables = sym (agree.each k h at_a).tables ∙ above.tables; low = above.low };
      }

  -- one step of a process in a sound state
  module _ (s : All) (sound : AreSound s) (i : ℕ) (g : RegsFields) (at : slice_get s.regs i ≡ Some g) where
    abbrev here : State (List ℕ)
    here = process_of s g

    abbrev left : State (List ℕ)
    left = state_after core_store here

    abbrev next : All
    next = processes_after core_store s i g

    above_here : IsAbove core_store (core_tables core g.dbr) r here
    above_here = above_of s sound i g at

    low_here : r ≤ g.ppr.prr
    low_here = above_here.low

    at_base : slice_get dbrs i ≡ Some g.dbr
    at_base = base s sound i g at

    self_alike : IsAlike core_store (core_tables core g.dbr) r here here
    self_alike =
        core_agree core g.dbr (audited.each i g.dbr at_base) r here here some above_here (record { regs = refl; tables = refl; contents = λ seg w sees. refl })

    all_left : HasAll core dbrs left.store
    unfolding state_after
    all_left = all_after core dbrs audited i g at_base r low_here s.store (has_all s sound)

    own_next : slice_get next.regs i ≡ Some left.regs
    own_next = set_same s.regs i left.regs g at

    other_next : (k : ℕ) → (i == k) ≡ false → slice_get next.regs k ≡ slice_get s.regs k
    other_next k e = set_other s.regs i k left.regs (λ f. eqb-false i k e (sym f))

    count_next : length next.regs ≡ length dbrs
    count_next = length-set s.regs i left.regs ∙ sound.count

    -- the tables of every process after the step
    tables_next : (k : ℕ) (h : RegsFields) (dbr : DbrFields) → slice_get next.regs k ≡ Some h → slice_get dbrs k ≡ Some dbr → core_tables next.store h.dbr ≡ core_tables core dbr
    tables_next k h dbr at' there = by_test (i == k) refl
      where
        by_test : (b : Bool) → (i == k) ≡ b → core_tables next.store h.dbr ≡ core_tables core dbr
        by_test true e =
            let same = eqb-true i k e in
            let mine : slice_get next.regs k ≡ Some left.regs = subst (λ (n : ℕ). slice_get next.regs n ≡ Some left.regs) same own_next in
            let theirs : slice_get dbrs k ≡ Some g.dbr = subst (λ (n : ℕ). slice_get dbrs n ≡ Some g.dbr) same at_base in
            let regs : left.regs ≡ h = cc in
            let tables : g.dbr ≡ dbr = cc in
            ap (λ (x : RegsFields). core_tables next.store x.dbr) (sym regs) ∙ self_alike.tables ∙ ap (core_tables core) tables
        by_test false e =
            let before : slice_get s.regs k ≡ Some h = sym (other_next k e) ∙ at' in
            let above = sound.each k h dbr before there in
            let same = same_dbr core s.store dbr h.dbr above.tables in
            ap (core_tables next.store) same ∙ all_left k dbr there

    -- if the step ends in r or above, the processes are sound again
    sound_next : nat_le r (record_of core_store here).after.ppr.prr ≡ true → AreSound next
    sound_next high = record { count = count_next; each = each_next }
      where
        each_next : (k : ℕ) (h : RegsFields) (dbr : DbrFields) → slice_get next.regs k ≡ Some h → slice_get dbrs k ≡ Some dbr → IsAbove core_store (core_tables core dbr) r (process_of next h)
        each_next k h dbr at' there =
            record {
              pointers = pointers_by (i == k) refl;
              tables = tables_next k h dbr at' there;
              low = low_by (i == k) refl;
            }
          where
            own : (i == k) ≡ true → left.regs ≡ h
            own e =
                let mine : slice_get next.regs k ≡ Some left.regs = subst (λ (n : ℕ). slice_get next.regs n ≡ Some left.regs) (eqb-true i k e) own_next in
                cc

            before : (i == k) ≡ false → IsAbove core_store (core_tables core dbr) r (process_of s h)
            before e = sound.each k h dbr (sym (other_next k e) ∙ at') there

            pointers_by : (b : Bool) → (i == k) ≡ b → HasPointers h
            pointers_by true e =
                subst HasPointers (own e) (pointers_after core g.dbr (audited.each i g.dbr at_base) r here above_here)
            pointers_by false e = (before e).pointers

            low_by : (b : Bool) → (i == k) ≡ b → r ≤ h.ppr.prr
            low_by true e =
                let low : r ≤ (record_of core_store here).after.ppr.prr = leb-true r _ high in
                subst (λ (x : RegsFields). r ≤ x.ppr.prr) (after_is core_store here ∙ own e) low
            low_by false e = (before e).low

    -- segments of another process that the ring cannot change do not change
    in_reach : (j : ℕ) (x : RegsFields) (there : slice_get dbrs j ≡ Some x.dbr) (seg : ℕ) → Reaches (joint_lawful core dbrs audited j x.dbr there).sdws r seg → InReach core_store (process_of s x) r seg
    in_reach j x there seg reach =
        let law = joint_lawful core dbrs audited j x.dbr there in
        record { sdw = reach.sdw; live = law.sdw_is s.store (has_all s sound) seg ∙ reach.live; opens = reach.opens; high = reach.high }

    other_content : (j : ℕ) (x : RegsFields) (there : slice_get dbrs j ≡ Some x.dbr) → (i == j) ≡ false → (seg w : ℕ) → (InReach core_store (process_of s x) r seg → ⊥) → content_in core_store left.store x.dbr seg w ≡ content_in core_store s.store x.dbr seg w
    unfolding state_after
    other_content j x there e seg w none =
        other_unreached core dbrs audited i g at_base r low_here j x.dbr there e s.store (has_all s sound) seg w (λ reach. none (in_reach j x there seg reach))

    -- what no process can change from ring r does not change
    unreached_step : (k : ℕ) (h h' : RegsFields) → slice_get s.regs k ≡ Some h → slice_get next.regs k ≡ Some h' → Unreached core_store r (process_of s h) (process_of next h')
    unreached_step k h h' at_k at' = by_test (i == k) refl
      where
        by_test : (b : Bool) → (i == k) ≡ b → Unreached core_store r (process_of s h) (process_of next h')
        by_test true e seg w none =
            let same = eqb-true i k e in
            let mine : slice_get next.regs k ≡ Some left.regs = subst (λ (n : ℕ). slice_get next.regs n ≡ Some left.regs) same own_next in
            let first : slice_get s.regs k ≡ Some g = subst (λ (n : ℕ). slice_get s.regs n ≡ Some g) same at in
            let regs : left.regs ≡ h' = cc in
            let old : g ≡ h = cc in
            let fact : content_in core_store left.store left.regs.dbr seg w ≡ content_in core_store s.store g.dbr seg w = core_reach core g.dbr (audited.each i g.dbr at_base) r here some above_here seg w (λ reach. none (subst (λ (x : RegsFields). InReach core_store (process_of s x) r seg) old reach)) in
            ap (λ (x : RegsFields). content_in core_store left.store x.dbr seg w) (sym regs) ∙ fact ∙ ap (λ (x : RegsFields). content_in core_store s.store x.dbr seg w) old
        by_test false e seg w none =
            let first = other_next k e in
            let regs : h ≡ h' = cc in
            let there = base s sound k h at_k in
            let fact = other_content k h there e seg w none in
            ap (λ (x : RegsFields). content_in core_store left.store x.dbr seg w) (sym regs) ∙ fact

    falls_step : (record_of core_store here).after.ppr.prr < r → IsGateCall core_store here r (record_of core_store here)
    falls_step below =
        core_fall core g.dbr (audited.each i g.dbr at_base) r here some above_here (subst (λ (x : RegsFields). x.ppr.prr < r) (after_is core_store here) below)

    -- two stores for which all processes agree
    module _ (other : List ℕ) (agree : AgreeAll core_store r s (record { regs = s.regs; store = other })) where
      abbrev twin : All
      twin = record { regs = s.regs; store = other }

      abbrev there_left : State (List ℕ)
      there_left = state_after core_store (process_of twin g)

      abbrev twin_next : All
      twin_next = processes_after core_store twin i g

      alike_here : IsAlike core_store (core_tables core g.dbr) r here (process_of twin g)
      alike_here =
          core_agree core g.dbr (audited.each i g.dbr at_base) r here (process_of twin g) some above_here (agree.each i g at)

      twin_sound : AreSound twin
      twin_sound = sound_other s twin sound agree

      alike_regs : left.regs ≡ there_left.regs
      alike_regs = alike_here.agree.regs

      regs_next : next.regs ≡ twin_next.regs
      regs_next = ap (λ (x : RegsFields). slice_set s.regs i x) alike_regs

      -- what the process that steps can see is equal
      sees_equal : equal core dbrs audited i g at_base r low_here s.store other
      sees_equal =
          joint_see_equal core dbrs audited i g at_base r low_here s.store other (has_all s sound) (has_all twin twin_sound) (λ seg w sees. (agree.each i g at).contents seg w (in_sight seg sees))
        where
          in_sight : (seg : ℕ) → Sees (joint_lawful core dbrs audited i g.dbr at_base).sdws r seg → InSight core_store here r seg
          in_sight seg sees =
              let law = joint_lawful core dbrs audited i g.dbr at_base in
              record { sdw = sees.sdw; live = law.sdw_is s.store (has_all s sound) seg ∙ sees.live; opens = sees.opens; high = sees.high }

      other_alike : (j : ℕ) (x : RegsFields) (there : slice_get dbrs j ≡ Some x.dbr) (seg w : ℕ) → content_in core_store s.store x.dbr seg w ≡ content_in core_store other x.dbr seg w → content_in core_store left.store x.dbr seg w ≡ content_in core_store there_left.store x.dbr seg w
      unfolding state_after
      other_alike j x there seg w e =
          other_agrees core dbrs audited i g at_base r low_here j x.dbr there s.store other (has_all s sound) (has_all twin twin_sound) sees_equal seg w e

      -- a segment that ring r can see after the step could be seen before it
      sight_before : (j : ℕ) (x : RegsFields) (there : slice_get dbrs j ≡ Some x.dbr) (seg : ℕ) → InSight core_store (record { regs = x; store = left.store }) r seg → InSight core_store (process_of s x) r seg
      sight_before j x there seg k =
          let law = joint_lawful core dbrs audited j x.dbr there in
          record { sdw = k.sdw; live = law.sdw_is s.store (has_all s sound) seg ∙ sym (law.sdw_is left.store all_left seg) ∙ k.live; opens = k.opens; high = k.high }

      agree_own : Agree core_store r (process_of next left.regs) (process_of twin_next left.regs)
      agree_own =
          let own = alike_here.agree in
          let same = alike_regs in
          record {
            regs = refl;
            tables = own.tables ∙ ap (λ (x : RegsFields). core_tables there_left.store x.dbr) (sym same);
            contents = λ seg w sees. own.contents seg w (record { sdw = sees.sdw; live = sees.live; opens = sees.opens; high = sees.high }) ∙ ap (λ (x : RegsFields). content_in core_store there_left.store x.dbr seg w) (sym same);
          }

      twin_tables : (k : ℕ) (h : RegsFields) → slice_get dbrs k ≡ Some h.dbr → core_tables there_left.store h.dbr ≡ core_tables core h.dbr
      unfolding state_after
      twin_tables k h there =
          all_after core dbrs audited i g at_base r low_here other (has_all twin twin_sound) k h.dbr there

      agree_other : (k : ℕ) (h : RegsFields) → (i == k) ≡ false → slice_get next.regs k ≡ Some h → Agree core_store r (process_of next h) (process_of twin_next h)
      agree_other k h e at' =
          let before : slice_get s.regs k ≡ Some h = sym (other_next k e) ∙ at' in
          let there = base s sound k h before in
          let was = agree.each k h before in
          record {
            regs = refl;
            tables = tables_next k h h.dbr at' there ∙ sym (twin_tables k h there);
            contents = λ seg w sees. other_alike k h there seg w (was.contents seg w (sight_before k h there seg (record { sdw = sees.sdw; live = sees.live; opens = sees.opens; high = sees.high })));
          }

      agree_next : AgreeAll core_store r next twin_next
      agree_next = record { regs = regs_next; each = each_next }
        where
          each_next : (k : ℕ) (h : RegsFields) → slice_get next.regs k ≡ Some h → Agree core_store r (process_of next h) (process_of twin_next h)
          each_next k h at' = by_test (i == k) refl
            where
              by_test : (b : Bool) → (i == k) ≡ b → Agree core_store r (process_of next h) (process_of twin_next h)
              by_test true e =
                  let mine : slice_get next.regs k ≡ Some left.regs = subst (λ (n : ℕ). slice_get next.regs n ≡ Some left.regs) (eqb-true i k e) own_next in
                  let regs : left.regs ≡ h = cc in
                  subst (λ (x : RegsFields). Agree core_store r (process_of next x) (process_of twin_next x)) regs agree_own
              by_test false e = agree_other k h e at'

  -- what a ring can change depends only on the tables
  same_reach : (s t : All) → AreSound s → AreSound t → (k : ℕ) (g h : RegsFields) → slice_get s.regs k ≡ Some g → slice_get t.regs k ≡ Some h → (seg : ℕ) → InReach core_store (process_of t h) r seg → InReach core_store (process_of s g) r seg
  same_reach s t sound sound_t k g h at at_t seg reach =
      let own = base s sound k g at in
      let audit = audited.each k g.dbr own in
      let here = by_tables core g.dbr audit (process_of s g) (above_of s sound k g at).tables seg in
      let there = by_tables core g.dbr audit (process_of t h) (sound_t.each k h g.dbr at_t own).tables seg in
      record { sdw = reach.sdw; live = here ∙ sym there ∙ reach.live; opens = reach.opens; high = reach.high }

  unreached_on : (first : All) → AreSound first → (s : All) (sound : AreSound s) (i : ℕ) (g : RegsFields) (at : slice_get s.regs i ≡ Some g) → UnreachedAll first s → UnreachedAll first (processes_after core_store s i g)
  unreached_on first sound_first s sound i g at so_far k x h at_first at_next seg w none =
      let old = get_beside first.regs s.regs k x (sound.count ∙ sym sound_first.count) at_first in
      unreached_step s sound i g at k old.0 h old.1 at_next seg w (λ reach. none (same_reach first s sound_first sound k x old.0 at_first old.1 seg reach)) ∙ so_far k x old.0 at_first old.1 seg w none

  event_kept : (first : All) → AreSound first → (s : All) (sound : AreSound s) (i : ℕ) (g : RegsFields) (at : slice_get s.regs i ≡ Some g) → UnreachedAll first s → IsEventKept core_store (map (core_tables core) dbrs) r first (event core_store s i g)
  event_kept first sound_first s sound i g at so_far =
      record {
        unreached = unreached_on first sound_first s sound i g at so_far;
        tables = tables;
        falls = λ below h at_h. let same : g ≡ h = cc in subst (λ (x : RegsFields). IsGateCall core_store (process_of s x) r (record_of core_store (process_of s g))) same (falls_step s sound i g at below);
      }
    where
      tables : (k : ℕ) (h : RegsFields) (t : Tables) → slice_get (processes_after core_store s i g).regs k ≡ Some h → slice_get (map (core_tables core) dbrs) k ≡ Some t → core_tables (processes_after core_store s i g).store h.dbr ≡ t
      tables k h t at' there =
          let own = get_beside (processes_after core_store s i g).regs dbrs k h (sym (count_next s sound i g at)) at' in
          let its = get_map (core_tables core) dbrs k own.0 own.1 in
          let same : core_tables core own.0 ≡ t = cc in
          tables_next s sound i g at k h own.0 at' own.1 ∙ same

  -- what holds of the rest of two windows
  pub record AreKept (first second : All) (es fs : List (Event (List ℕ))) : Type 0 where
    pub processes : map (λ (e : Event (List ℕ)). e.process) es ≡ map (λ (e : Event (List ℕ)). e.process) fs
    pub told : map (λ (e : Event (List ℕ)). e.told) es ≡ map (λ (e : Event (List ℕ)). e.told) fs
    pub agree : EachTwo (λ (e f : Event (List ℕ)). AgreeAll core_store r e.after f.after) es fs
    pub kept : Each (IsEventKept core_store (map (core_tables core) dbrs) r first) es
    pub kept_other : Each (IsEventKept core_store (map (core_tables core) dbrs) r second) fs

  none_left : (first second : All) → AreKept first second [] []
  none_left first second =
      record { processes = refl; told = refl; agree = tt; kept = tt; kept_other = tt }

  -- the rest of the events, if the window continues
  rest_by : (first second : All) (goes high : Bool) (es fs : List (Event (List ℕ))) → (high ≡ true → AreKept first second (cut_events r es) (cut_events r fs)) → AreKept first second (only_if (goes && high) (cut_events r es)) (only_if (goes && high) (cut_events r fs))
  rest_by first second true true es fs h = h refl
  rest_by first second true false es fs h = none_left first second
  rest_by first second false high es fs h = none_left first second

  -- what holds of the windows of the rest of a schedule
  abbrev Rest : All → All → List ℕ → Type 0
  Rest first second schedule =
      (a b : All) → AreSound a → AgreeAll core_store r a b → UnreachedAll first a → UnreachedAll second b → AreKept first second (window_of core_store r schedule a) (window_of core_store r schedule b)

  windows_by : (first second : All) → AreSound first → AreSound second → (i : ℕ) (schedule : List ℕ) → Rest first second schedule → (s : All) (sound : AreSound s) (other : List ℕ) (agree : AgreeAll core_store r s (record { regs = s.regs; store = other })) → UnreachedAll first s → UnreachedAll second (record { regs = s.regs; store = other }) → (v : Option RegsFields) → slice_get s.regs i ≡ v → AreKept first second (cut_events r (events_by core_store s i v (events core_store schedule))) (cut_events r (events_by core_store (record { regs = s.regs; store = other }) i v (events core_store schedule)))
  unfolding cut_events
  windows_by first second sound_first sound_second i schedule rest s sound other agree so_far so_far_other None at =
      rest s (record { regs = s.regs; store = other }) sound agree so_far so_far_other
  windows_by first second sound_first sound_second i schedule rest s sound other agree so_far so_far_other (Some g) at =
      let twin : All = record { regs = s.regs; store = other } in
      let twin_is = sound_other s twin sound agree in
      let told = (alike_here s sound i g at other agree).told in
      let more = rest_by first second (is_next (record_of core_store (process_of s g)).outcome) (nat_le r (record_of core_store (process_of s g)).after.ppr.prr) (events core_store schedule (processes_after core_store s i g)) (events core_store schedule (processes_after core_store twin i g)) (λ high. rest (processes_after core_store s i g) (processes_after core_store twin i g) (sound_next s sound i g at high) (agree_next s sound i g at other agree) (unreached_on first sound_first s sound i g at so_far) (unreached_on second sound_second twin twin_is i g at so_far_other)) in
      let left = subst (λ (e : StepRecord). AreKept first second (only_if (is_next (record_of core_store (process_of s g)).outcome && nat_le r (record_of core_store (process_of s g)).after.ppr.prr) (cut_events r (events core_store schedule (processes_after core_store s i g)))) (only_if (is_next e.outcome && nat_le r e.after.ppr.prr) (cut_events r (events core_store schedule (processes_after core_store twin i g))))) told more in
      let processes = left.processes in
      let records = left.told in
      record {
        processes = λ k. i ∷ processes k;
        told = λ k. told k ∷ records k;
        agree = (agree_next s sound i g at other agree, left.agree);
        kept = (event_kept first sound_first s sound i g at so_far, left.kept);
        kept_other = (event_kept second sound_second twin twin_is i g at so_far_other, left.kept_other);
      }

  windows : (first second : All) → AreSound first → AreSound second → (schedule : List ℕ) → Rest first second schedule
  unfolding events cut_events
  windows first second sound_first sound_second [] a b sound agree so_far so_far_other = none_left first second
  windows first second sound_first sound_second (i ∷ schedule) a b sound agree so_far so_far_other =
      let regs = agree.regs in
      let joined : record { regs = a.regs; store = b.store } ≡ b = λ k. record { regs = regs k; store = b.store } in
      let here = windows_by first second sound_first sound_second i schedule (windows first second sound_first sound_second schedule) a sound b.store (subst (AgreeAll core_store r a) (sym joined) agree) so_far (subst (UnreachedAll second) (sym joined) so_far_other) (slice_get a.regs i) refl in
      subst (λ (x : All). AreKept first second (window_of core_store r (i ∷ schedule) a) (window_of core_store r (i ∷ schedule) x)) joined here

-- If the joint audit conditions hold, every schedule is isolated.
pub jointly_isolated : (core : List ℕ) (dbrs : List DbrFields) → IsJointlyAudited core dbrs → JointlyIsolated core_store (map (core_tables core) dbrs)
jointly_isolated core dbrs audited r some high a b above agree schedule =
    let sound : AreSound core dbrs audited r some a = record { count = above.count ∙ length-map dbrs (core_tables core); each = λ i g dbr at there. above.each i g (core_tables core dbr) at (get_map (core_tables core) dbrs i dbr there) } in
    let sound_b = sound_other core dbrs audited r some a b sound agree in
    let k = windows core dbrs audited r some a b sound sound_b schedule a b sound agree (λ i g h at at' seg w none. let same : g ≡ h = cc in ap (λ (x : RegsFields). content_in core_store a.store x.dbr seg w) (sym same)) (λ i g h at at' seg w none. let same : g ≡ h = cc in ap (λ (x : RegsFields). content_in core_store b.store x.dbr seg w) (sym same)) in
    record { processes = k.processes; told = k.told; agree = k.agree; kept = k.kept; kept_other = k.kept_other }
