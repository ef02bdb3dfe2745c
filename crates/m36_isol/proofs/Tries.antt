-- An instruction that is restarted after each page service: how far it gets.
use Rattle.std.proofs.Common.{◌≡◌, refl, sym, ap, subst, inl, inr, eqb-true}
use Rattle.std.specs.Prelude.{ℕ, zero, suc, ◌≢◌, ◌⊎◌, Bool, true, false, ◌==◌, List, Option, Result, Ok, Err}
use Rattle.std.proofs.lemmas.Bool.{eqb-false}
use Rattle.m36_model.specs.Fields.{AtFields}
use Rattle.m36_model.specs.Registers.{RegsFields}
use Rattle.m36_model.specs.Act.{Request, Answer, Act, done, ask}
use Rattle.m36_model.specs.Store.{Midstep, ServeResult, serve, run}
use Rattle.m36_model.specs.StoreLaw.{Each}
use Rattle.m36_model.specs.Core.{core_store}
use Rattle.m36_model.specs.declared.outcome.Fault.{Fault}
use Rattle.m36_model.specs.declared.place.Reference.{Reference}
use Rattle.m36_isol.proofs.Mirror.{Stops, Asks}
use Rattle.m36_isol.proofs.Plan.{fresh, last_by, InPage, Follows, Plan}
use Rattle.m36_isol.proofs.Pages.{IsReplied, is_refused, is_answered, serve_replied, On, EndsAt, ends_after, was_known}
use Rattle.m36_isol.proofs.Retry.{IsThere, IsOver, stops_over}

-- the number of new pages that are left
abbrev pub left : Bool → ℕ → ℕ
left true k = k
left false k = suc k

-- the run ends with this page fault
abbrev pub CutBy : Fault → Result Answer Fault → Type 0 → Type 0
CutBy f (Ok a) rest = rest
CutBy f (Err h) rest = (h ≡ f) × (h.number ≡ 17)

module _ {A : Type 0} (g : RegsFields) where
  -- the run makes this many references to new pages before it has a page fault or ends
  abbrev pub Reaches : ℕ → Option AtFields → Act A → Midstep (List ℕ) → Type 0
  Reaches zero last p m = Unit {0}
  Reaches (suc k) last (done a) m = Unit {0}
  Reaches (suc k) last (ask q next) m =
      IsThere (serve core_store g m q).reply × Reaches (left (fresh last q) k) (last_by q.kind q.at) (next (serve core_store g m q).reply) (serve core_store g m q).mid

  abbrev pub IsCut : Fault → Act A → Midstep (List ℕ) → Type 0
  IsCut f (done a) m = ⊥
  IsCut f (ask q next) m =
      CutBy f (serve core_store g m q).reply (IsCut f (next (serve core_store g m q).reply) (serve core_store g m q).mid)

  pub over_reaches : (k : ℕ) (last : Option AtFields) (p : Act A) (m : Midstep (List ℕ)) → IsOver p → Reaches k last p m
  over_reaches zero last p m h = tt
  over_reaches (suc k) last (done a) m h = tt
  over_reaches (suc k) last (ask q next) m h = absurd h

  pub over_not_cut : (f : Fault) (p : Act A) (m : Midstep (List ℕ)) → IsOver p → IsCut f p m → ⊥
  over_not_cut f (done a) m h c = c
  over_not_cut f (ask q next) m h c = h

  pub there_not_cut : (f : Fault) (next : Result Answer Fault → Act A) (m : Midstep (List ℕ)) (v : Result Answer Fault) → IsOver (next v) → IsThere v → CutBy f v (IsCut f (next v) m) → ⊥
  there_not_cut f next m (Ok a) over there c = over_not_cut f (next (Ok a)) m over c
  there_not_cut f next m (Err h) over there c = there c.1

  pub over_run : (p : Act A) (m : Midstep (List ℕ)) → IsOver p → (run core_store g p m).mid ≡ m
  unfolding run
  over_run (done a) m h = refl
  over_run (ask q next) m h = absurd h

  -- ---- a run ends as the program states, or with a page fault
  module _ (post : A → Type 0) (stop : Fault → A → Type 0) (R : A → A → Type 0) (present : (f : Fault) (a : A) → f.number ≢ 17 → stop f a → post a) where
    -- the run ended with a page fault, and its value is as the program states
    pub record EndsCut (p : Act A) (m : Midstep (List ℕ)) : Type 0 where
      pub fault : Fault
      pub is_cut : IsCut fault p m
      pub stops : stop fault (run core_store g p m).value

    stops_value : (f : Fault) (p : Act A) (m : Midstep (List ℕ)) → Stops stop f p → stop f (run core_store g p m).value
    unfolding run
    stops_value f (done a) m h = h
    stops_value f (ask q next) m h = absurd h

    abbrev Ends : Act A → Midstep (List ℕ) → Type 0
    Ends p m = post (run core_store g p m).value ⊎ EndsCut p m

    refused_ends : (q : Request) (next : Result Answer Fault → Act A) (m : Midstep (List ℕ)) (f : Fault) → (serve core_store g m q).reply ≡ Err f → Stops stop f (next (Err f)) → (b : Bool) → (f.number == 17) ≡ b → Ends (ask q next) m
    unfolding run
    refused_ends q next m f e stops true h =
        let t = serve core_store g m q in
        let value = stops_value f (next (Err f)) t.mid stops in
        inr (record {
          fault = f;
          is_cut = subst (λ (v : Result Answer Fault). CutBy f v (IsCut f (next v) t.mid)) (sym e) (refl, eqb-true f.number 17 h);
          stops = subst (λ (v : Result Answer Fault). stop f (run core_store g (next v) t.mid).value) (sym e) value;
        })
    refused_ends q next m f e stops false h =
        let t = serve core_store g m q in
        let value = stops_value f (next (Err f)) t.mid stops in
        inl (subst (λ (v : Result Answer Fault). post (run core_store g (next v) t.mid).value) (sym e) (present f _ (eqb-false f.number 17 h) value))

    more_ends : (q : Request) (next : Result Answer Fault → Act A) (m : Midstep (List ℕ)) (a : Answer) → (serve core_store g m q).reply ≡ Ok a → Ends (next (Ok a)) (serve core_store g m q).mid → Ends (ask q next) m
    unfolding run
    more_ends q next m a e (inl h) =
        let t = serve core_store g m q in
        inl (subst (λ (v : Result Answer Fault). post (run core_store g (next v) t.mid).value) (sym e) h)
    more_ends q next m a e (inr k) =
        let t = serve core_store g m q in
        inr (record {
          fault = k.fault;
          is_cut = subst (λ (v : Result Answer Fault). CutBy k.fault v (IsCut k.fault (next v) t.mid)) (sym e) k.is_cut;
          stops = subst (λ (v : Result Answer Fault). stop k.fault (run core_store g (next v) t.mid).value) (sym e) k.stops;
        })

    by_reply : (q : Request) (next : Result Answer Fault → Act A) (m : Midstep (List ℕ)) → Asks post stop R (ask q next) → ((a : Answer) → Ends (next (Ok a)) (serve core_store g m q).mid) → (v : Result Answer Fault) → (serve core_store g m q).reply ≡ v → Ends (ask q next) m
    by_reply q next m asks rest (Ok a) e = more_ends q next m a e (rest a)
    by_reply q next m asks rest (Err f) e = refused_ends q next m f e (asks.1 f) (f.number == 17) refl

    pub cut_or : (p : Act A) (m : Midstep (List ℕ)) → Asks post stop R p → Ends p m
    unfolding run
    cut_or (done a) m h = inl h
    cut_or (ask q next) m h =
        by_reply q next m h (λ a. cut_or (next (Ok a)) (serve core_store g m q).mid (h.2 a)) _ refl

    -- ---- the pages of recorded references
    module _ (K : ℕ → ℕ → Type 0) (plan_post : ℕ → ℕ → A → Type 0) where
      kept_served : (m : Midstep (List ℕ)) (q : Request) (last : Option AtFields) → Follows q.kind last q.at → EndsAt m.refs last → (t : ServeResult (List ℕ)) → IsReplied core_store g m q t → Each (On K) t.mid.refs → Each (On K) m.refs
      kept_served m q last follows ends t (is_refused why w e low high cause) h =
          subst (Each (On K)) (ap (λ (x : ServeResult (List ℕ)). x.mid.refs) e) h
      kept_served m q last follows ends t (is_answered a reply refs d live ordered spots found) h =
          (was_known K q.kind q m.refs last follows ends (subst (Each (On K)) refs h)).before

      ends_by : (m : Midstep (List ℕ)) (q : Request) (t : ServeResult (List ℕ)) → IsReplied core_store g m q t → (a : Answer) → t.reply ≡ Ok a → EndsAt t.mid.refs (last_by q.kind q.at)
      ends_by m q t (is_refused why w e low high cause) a h =
          absurd (not_answered t.reply _ a (ap (λ (x : ServeResult (List ℕ)). x.reply) e) h)
        where
          not_answered : (v : Result Answer Fault) (f : Fault) (a : Answer) → v ≡ Err f → v ≡ Ok a → ⊥
          not_answered v f a e h = cc
      ends_by m q t (is_answered b reply refs d live ordered spots found) a h =
          subst (λ (l : List Reference). EndsAt l (last_by q.kind q.at)) (sym refs) (ends_after q.kind q m.refs)

      pub ends_served : (m : Midstep (List ℕ)) (q : Request) → InPage q → (a : Answer) → (serve core_store g m q).reply ≡ Ok a → EndsAt (serve core_store g m q).mid.refs (last_by q.kind q.at)
      ends_served m q inside a h =
          ends_by m q (serve core_store g m q) (serve_replied core_store g m q inside.1) a h

      kept_reply : (q : Request) (next : Result Answer Fault → Act A) (m : Midstep (List ℕ)) → Asks post stop R (ask q next) → ((a : Answer) → (serve core_store g m q).reply ≡ Ok a → Each (On K) (run core_store g (next (Ok a)) (serve core_store g m q).mid).mid.refs → Each (On K) (serve core_store g m q).mid.refs) → (v : Result Answer Fault) → (serve core_store g m q).reply ≡ v → Each (On K) (run core_store g (next v) (serve core_store g m q).mid).mid.refs → Each (On K) (serve core_store g m q).mid.refs
      kept_reply q next m asks rest (Ok a) e h = rest a e h
      kept_reply q next m asks rest (Err f) e h =
          let t = serve core_store g m q in
          subst (λ (x : Midstep (List ℕ)). Each (On K) x.refs) (over_run (next (Err f)) t.mid (stops_over stop f (next (Err f)) (asks.1 f))) h

      -- what is known of all pages at the end was known before
      pub kept_back : (n k : ℕ) (last : Option AtFields) (p : Act A) (m : Midstep (List ℕ)) → Plan plan_post n k last p → Asks post stop R p → EndsAt m.refs last → Each (On K) (run core_store g p m).mid.refs → Each (On K) m.refs
      unfolding run
      kept_back n k last (done a) m plan asks ends h = h
      kept_back n k last (ask q next) m plan asks ends h =
          let t = serve core_store g m q in
          kept_served m q last plan.1 ends t (serve_replied core_store g m q plan.0.1) (kept_reply q next m asks (λ a e more. kept_back plan.2 plan.3 (last_by q.kind q.at) (next (Ok a)) t.mid (plan.6 (Ok a)) (asks.2 a) (ends_served m q plan.0 a e) more) t.reply refl h)
