-- The laws of one step, over any store that is as the laws require if its tables are T.
use Rattle.std.proofs.Common.{◌≡◌, refl, sym, ◌∙◌, ap, subst, inl, inr, ⊎_elim, arith}
use Rattle.std.specs.Prelude.{ℕ, ◌+◌, ◌*◌, ◌<◌, ◌≤◌, ◌⊎◌, true, [], Result, Ok, Err}
use Rattle.m36_desc.specs.Fields.{SdwFields, DbrFields}
use Rattle.m36_model.specs.Registers.{RegsFields}
use Rattle.m36_model.specs.Store.{Spot, Store, Tables, State, run}
use Rattle.m36_model.specs.Sight.{InSight, InReach, Unreached, content, content_in, tables_of}
use Rattle.m36_model.specs.Agree.{Agree}
use Rattle.m36_model.specs.Audit.{is_stack_of, IsGuarded}
use Rattle.m36_model.specs.Step.{program, record_of, state_after}
use Rattle.m36_model.specs.StoreLaw.{Each, Lawful}
use Rattle.m36_model.specs.Isolation.{IsGateCall, HasPointers}
use Rattle.m36_model.specs.Laws.{IsAbove, MayRefer, IsPermittedReference, SightLaw, DependsLaw, ReachLaw, FallLaw, MarksAlterNothing, MarksLaw, IsAlike, AgreeLaw, ExecutesLdbr}
use Rattle.m36_model.specs.declared.outcome.Refusal.{Refusal}
use Rattle.m36_model.specs.declared.place.Kind.{Kind}
use Rattle.m36_model.specs.declared.place.Kind.TheVariants as reference
use Rattle.m36_model.specs.declared.record.StepRecord.{StepRecord}
use Rattle.m36_isol.proofs.Alike.{Sees, Reaches, IsAllowed, IsAllowedReference, SeeEqual}
use Rattle.m36_isol.proofs.Spots.{each_map}
use Rattle.m36_isol.proofs.Programs.{IsGone}
use Rattle.m36_isol.proofs.Contents.{place_tables}
use Rattle.m36_isol.proofs.OneStep.{one_run, after_has, unreached, same_record, equal_stays, after_content, see_equal}

-- what is known of a store if its tables are T
pub record Backed {S : Type 0} (o : Store S) (T : Tables) (dbr : DbrFields) : Type 1 where
  pub Has : S → Type 0
  pub Lies : Spot → Type 0
  pub Near : S → S → Type 0
  pub law : Lawful o dbr Has Lies Near
  pub guarded : IsGuarded dbr law.sdws
  pub has : (s : S) → o.tables s dbr ≡ T → Has s
  pub tables : (s : S) → Has s → o.tables s dbr ≡ T

-- a segment is a stack of a ring
pub record IsStack (sdws : ℕ → Result SdwFields Refusal) (ring seg : ℕ) : Type 0 where
  pub sdw : SdwFields
  pub live : sdws seg ≡ Ok sdw
  pub is : is_stack_of ring (Ok sdw) ≡ true

stack_by : (sdws : ℕ → Result SdwFields Refusal) (ring seg : ℕ) (v : Result SdwFields Refusal) → sdws seg ≡ v → is_stack_of ring v ≡ true → IsStack sdws ring seg
stack_by sdws ring seg (Err e) live h = cc
stack_by sdws ring seg (Ok d) live h = record { sdw = d; live = live; is = h }

pub stack_parts : (sdws : ℕ → Result SdwFields Refusal) (ring seg : ℕ) → is_stack_of ring (sdws seg) ≡ true → IsStack sdws ring seg
stack_parts sdws ring seg h = stack_by sdws ring seg (sdws seg) refl h

module _ {S : Type 0} (o : Store S) (T : Tables) (g : RegsFields) (B : Backed o T g.dbr) (r : ℕ) (low : r ≤ g.ppr.prr) (store : S) (tables : o.tables store g.dbr ≡ T) where
  abbrev here : State S
  here = record { regs = g; store = store }

  has_here : B.Has store
  has_here = B.has store tables

  sees_of : (seg : ℕ) → InSight o here r seg → Sees B.law.sdws r seg
  sees_of seg k =
      record { sdw = k.sdw; live = sym (B.law.sdw_is store has_here seg) ∙ k.live; opens = k.opens; high = k.high }

  in_sight : (seg : ℕ) → Sees B.law.sdws r seg → InSight o here r seg
  in_sight seg k =
      record { sdw = k.sdw; live = B.law.sdw_is store has_here seg ∙ k.live; opens = k.opens; high = k.high }

  in_reach : (seg : ℕ) → Reaches B.law.sdws r seg → InReach o here r seg
  in_reach seg k =
      record { sdw = k.sdw; live = B.law.sdw_is store has_here seg ∙ k.live; opens = k.opens; high = k.high }

  allowed_within : (seg : ℕ) (kind : Kind) → IsAllowed B.law.sdws r seg kind → MayRefer o r here seg kind
  allowed_within seg reference.Fetch k = in_sight seg k
  allowed_within seg reference.Indirect k = in_sight seg k
  allowed_within seg reference.Read k = in_sight seg k
  allowed_within seg reference.Write k = in_reach seg k

  refs_within : Each (IsPermittedReference o r here) (record_of o here).refs.items
  unfolding record_of
  refs_within =
      let k = one_run o g B.Has B.Lies B.Near B.law B.guarded r low store has_here in
      each_map (IsAllowedReference B.law.sdws r) (IsPermittedReference o r here) (λ e h. allowed_within e.at.seg e.kind h) _ k.mid.allowed

  -- above ring 0 the DBR does not change
  pub dbr_stays : 1 ≤ r → (state_after o here).regs.dbr ≡ g.dbr
  unfolding state_after
  dbr_stays some =
      let k = one_run o g B.Has B.Lies B.Near B.law B.guarded r low store has_here in
      ⊎_elim (λ same. same) (λ loads. let zero_ring = loads.lowest in absurd (omega arith)) k.post.dbr

  -- the DBR does not change unless the step executes LDBR
  pub dbr_or : ((state_after o here).regs.dbr ≡ g.dbr) ⊎ ExecutesLdbr (record_of o here)
  unfolding state_after record_of
  dbr_or =
      let k = one_run o g B.Has B.Lies B.Near B.law B.guarded r low store has_here in
      ⊎_elim (λ same. inl same) (λ loads. inr (record { word = loads.word; fetched = loads.fetched; number = loads.number; does = loads.loads; next = loads.next })) k.post.dbr

  pub tables_by : (state_after o here).regs.dbr ≡ g.dbr → tables_of o (state_after o here) ≡ T
  unfolding state_after
  tables_by same =
      let k = after_has o g B.Has B.Lies B.Near B.law B.guarded r low store has_here in
      subst (λ (d : DbrFields). o.tables (state_after o here).store d ≡ T) (sym same) (B.tables (state_after o here).store k)

  has_after : B.Has (state_after o here).store
  unfolding state_after
  has_after = after_has o g B.Has B.Lies B.Near B.law B.guarded r low store has_here

  -- the segments that ring r can see after the step could be seen before it
  sees_after : 1 ≤ r → (seg : ℕ) → InSight o (state_after o here) r seg → Sees B.law.sdws r seg
  sees_after some seg k =
      let live = subst (λ (d : DbrFields). o.sdw (state_after o here).store d seg ≡ Ok k.sdw) (dbr_stays some) k.live in
      record { sdw = k.sdw; live = sym (B.law.sdw_is (state_after o here).store has_after seg) ∙ live; opens = k.opens; high = k.high }

  unreached_here : 1 ≤ r → Unreached o r here (state_after o here)
  unfolding state_after
  unreached_here some seg w none =
      ap (λ (d : DbrFields). content_in o (state_after o here).store d seg w) (dbr_stays some) ∙ unreached o g B.Has B.Lies B.Near B.law B.guarded r low store has_here seg w (λ k. none (in_reach seg k))

  -- a step ends below r only by a gate call
  gate_call : HasPointers g → (state_after o here).regs.ppr.prr < r → IsGateCall o here r (record_of o here)
  unfolding record_of state_after
  gate_call pointers below =
      let k = one_run o g B.Has B.Lies B.Near B.law B.guarded r low store has_here in
      ⊎_elim (λ above. absurd (omega arith)) (λ gone. call gone) k.post.ring
    where
      call : IsGone B.law.sdws r g (run o g (program g) (record { store = store; claims = []; refs = [] })).value → IsGateCall o here r (record_of o here)
      call k =
          let stack = stack_parts B.law.sdws k.sdw.r2 (8 * g.dbr.stack + k.sdw.r2) k.stack in
          record {
            executes = record { word = k.word; fetched = k.fetched; number = k.number; does = k.called; next = k.next };
            final = k.final;
            formed = k.formed;
            target = k.target;
            sdw = k.sdw;
            live = B.law.sdw_is store has_here k.final.at.seg ∙ k.live;
            gate = k.gate;
            below = k.below;
            callable = k.callable;
            entry = k.entry;
            new_ring = k.new_ring;
            stack = 8 * g.dbr.stack + k.sdw.r2;
            stack_pointer = k.pointer pointers;
            stack_sdw = stack.sdw;
            stack_live = B.law.sdw_is store has_here (8 * g.dbr.stack + k.sdw.r2) ∙ stack.live;
            stack_is = stack.is;
          }

  pub pointers_stay : HasPointers g → HasPointers (state_after o here).regs
  unfolding state_after
  pointers_stay h = (one_run o g B.Has B.Lies B.Near B.law B.guarded r low store has_here).post.pointers h

-- two states with the same registers that agree
module _ {S : Type 0} (o : Store S) (T : Tables) (g : RegsFields) (B : Backed o T g.dbr) (r : ℕ) (low : r ≤ g.ppr.prr) (store other : S) (tables : o.tables store g.dbr ≡ T) (same : o.tables other g.dbr ≡ T) (contents : (seg w : ℕ) → InSight o (record { regs = g; store = store }) r seg → content_in o store g.dbr seg w ≡ content_in o other g.dbr seg w) where
  abbrev one : State S
  one = record { regs = g; store = store }

  abbrev two : State S
  two = record { regs = g; store = other }

  equal_words : SeeEqual o B.law.sdws B.law.spots r store other
  equal_words =
      see_equal o g B.Has B.Lies B.Near B.law B.guarded r low store other (B.has store tables) (B.has other same) (λ seg w sees. contents seg w (in_sight o T g B r low store tables seg sees))

  pub told_alike : record_of o one ≡ record_of o two
  unfolding record_of
  told_alike =
      same_record o g B.Has B.Lies B.Near B.law B.guarded r low store other (B.has store tables) (B.has other same) equal_words

  regs_alike : (state_after o one).regs ≡ (state_after o two).regs
  unfolding state_after record_of
  regs_alike =
      ap (λ (e : StepRecord). e.after) (same_record o g B.Has B.Lies B.Near B.law B.guarded r low store other (B.has store tables) (B.has other same) equal_words)

  -- content after the step, by the DBR before it
  content_alike : (seg w : ℕ) → Sees B.law.sdws r seg → content_in o (state_after o one).store g.dbr seg w ≡ content_in o (state_after o two).store g.dbr seg w
  unfolding state_after
  content_alike seg w sees =
      after_content o g B.Has B.Lies B.Near B.law B.guarded r low store other (B.has store tables) (B.has other same) equal_words seg w sees

  words_alike : (seg w : ℕ) → content o one seg w ≡ content o two seg w → content_in o (state_after o one).store g.dbr seg w ≡ content_in o (state_after o two).store g.dbr seg w
  unfolding state_after
  words_alike seg w e =
      equal_stays o g B.Has B.Lies B.Near B.law B.guarded r low store other (B.has store tables) (B.has other same) equal_words seg w e

  pub marks_alike : MarksAlterNothing o one two
  marks_alike =
      record {
        descriptors = λ seg. B.law.sdw_is store (B.has store tables) seg ∙ sym (B.law.sdw_is other (B.has other same) seg);
        places = λ seg w. place_tables o g.dbr B.Has B.Lies B.Near B.law store (B.has store tables) seg w ∙ sym (place_tables o g.dbr B.Has B.Lies B.Near B.law other (B.has other same) seg w);
        told = told_alike;
      }

  -- they agree again after the step
  pub alike : 1 ≤ r → IsAlike o T r one two
  alike some =
      record {
        told = told_alike;
        agree = record {
          regs = regs_alike;
          tables = after_one ∙ sym after_two;
          contents = λ seg w sees. ap (λ (d : DbrFields). content_in o (state_after o one).store d seg w) stays_one ∙ content_alike seg w (sees_after o T g B r low store tables some seg sees) ∙ sym (ap (λ (d : DbrFields). content_in o (state_after o two).store d seg w) stays_two);
        };
        words = λ seg w e. ap (λ (d : DbrFields). content_in o (state_after o one).store d seg w) stays_one ∙ words_alike seg w e ∙ sym (ap (λ (d : DbrFields). content_in o (state_after o two).store d seg w) stays_two);
        tables = after_one;
      }
    where
      stays_one : (state_after o one).regs.dbr ≡ g.dbr
      stays_one = dbr_stays o T g B r low store tables some

      stays_two : (state_after o two).regs.dbr ≡ g.dbr
      stays_two = dbr_stays o T g B r low other same some

      after_one : tables_of o (state_after o one) ≡ T
      after_one = tables_by o T g B r low store tables stays_one

      after_two : tables_of o (state_after o two) ≡ T
      after_two = tables_by o T g B r low other same stays_two

-- The laws, for all states whose tables are T.
module _ {S : Type 0} (o : Store S) (T : Tables) (backs : (s : State S) → tables_of o s ≡ T → Backed o T s.regs.dbr) where
  pub sight_law : SightLaw o T
  sight_law r s above = refs_within o T s.regs (backs s above.tables) r above.low s.store above.tables

  pub reach_law : ReachLaw o T
  reach_law r s some above = unreached_here o T s.regs (backs s above.tables) r above.low s.store above.tables some

  pub fall_law : FallLaw o T
  fall_law r s some above below =
      gate_call o T s.regs (backs s above.tables) r above.low s.store above.tables above.pointers below

  -- the second state with the registers of the first
  twin : (a b : State S) → a.regs ≡ b.regs → record { regs = a.regs; store = b.store } ≡ b
  twin a b e = λ i. record { regs = e i; store = b.store }

  alike_twin : (r : ℕ) (a : State S) (other : S) → 1 ≤ r → IsAbove o T r a → Agree o r a (record { regs = a.regs; store = other }) → IsAlike o T r a (record { regs = a.regs; store = other })
  alike_twin r a other some above agree =
      alike o T a.regs (backs a above.tables) r above.low a.store other above.tables (sym agree.tables ∙ above.tables) agree.contents some

  pub agree_law : AgreeLaw o T
  agree_law r a b some above agree =
      let p = twin a b agree.regs in
      subst (λ (x : State S). IsAlike o T r a x) p (alike_twin r a b.store some above (subst (λ (x : State S). Agree o r a x) (sym p) agree))

  told_twin : (r : ℕ) (a : State S) (other : S) → IsAbove o T r a → Agree o r a (record { regs = a.regs; store = other }) → record_of o a ≡ record_of o (record { regs = a.regs; store = other })
  told_twin r a other above agree =
      told_alike o T a.regs (backs a above.tables) r above.low a.store other above.tables (sym agree.tables ∙ above.tables) agree.contents

  pub depends_law : DependsLaw o T
  depends_law r a b above agree =
      let p = twin a b agree.regs in
      subst (λ (x : State S). record_of o a ≡ record_of o x) p (told_twin r a b.store above (subst (λ (x : State S). Agree o r a x) (sym p) agree))

  marks_twin : (a : State S) (other : S) → tables_of o a ≡ T → o.tables other a.regs.dbr ≡ T → ((seg w : ℕ) → content o a seg w ≡ content_in o other a.regs.dbr seg w) → MarksAlterNothing o a (record { regs = a.regs; store = other })
  marks_twin a other tables same contents =
      marks_alike o T a.regs (backs a tables) 0 (omega arith) a.store other tables same (λ seg w sees. contents seg w)

  -- if registers, tables except for marks, and content are equal, nothing differs
  pub marks_law : MarksLaw o T
  marks_law a b regs tables same contents =
      let p = twin a b regs in
      subst (λ (x : State S). MarksAlterNothing o a x) p (marks_twin a b.store tables (subst (λ (x : State S). tables_of o x ≡ T) (sym p) same) (λ seg w. subst (λ (x : State S). content o a seg w ≡ content o x seg w) (sym p) (contents seg w)))
