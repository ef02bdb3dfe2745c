-- A step that reaches as many new pages as it references has no page fault. If it has one, and the
-- page is then in a frame with the pages that it has referenced, the next attempt reaches one new
-- page more.
use Rattle.std.proofs.Common.{◌≡◌, refl, sym, ◌∙◌, ap, subst, arith}
use Rattle.std.specs.Prelude.{ℕ, zero, suc, ◌/◌, ◌≤◌, ◌≢◌, Bool, true, false, List, Option, Result, Ok, Err}
use Rattle.m36_model.specs.Fields.{AtFields}
use Rattle.m36_model.specs.Registers.{RegsFields}
use Rattle.m36_model.specs.Act.{Request, Answer, Act, done, ask}
use Rattle.m36_model.specs.Store.{Midstep, ServeResult, touches, serve, run}
use Rattle.m36_model.specs.StoreLaw.{Each}
use Rattle.m36_model.specs.Core.{core_store}
use Rattle.m36_model.specs.Flat.{Flat, flat_store}
use Rattle.m36_model.specs.BootedCore.{booted_dbr, IsLaid}
use Rattle.m36_model.specs.declared.outcome.Fault.{Fault}
use Rattle.m36_isol.proofs.Mirror.{Asks}
use Rattle.m36_isol.proofs.Plan.{has_page, fresh, last_by, InPage, Follows, cost, Plan}
use Rattle.m36_isol.proofs.Pages.{IsReplied, is_refused, is_answered, serve_replied, cost_least, On, EndsAt, was_known, all_known}
use Rattle.m36_isol.proofs.Retry.{Holds, HoldsAt, HoldsLast, IsThere, last_holds, touched_page, page_target, Stand, IsCutHere, IsOn, goes_on, is_over, is_away, one_request, target_there, was_read, stale}
use Rattle.m36_isol.proofs.Tries.{left, CutBy, Reaches, IsCut, over_reaches, there_not_cut, over_run, ends_served, kept_back}

not_both : (v : Result Answer Fault) (f : Fault) → v ≡ Err f → f.number ≡ 17 → IsThere v → ⊥
not_both v f e number there = subst IsThere e there number

left_most : (b : Bool) (m k : ℕ) → cost b m ≤ suc k → m ≤ left b k
left_most true m k h = omega arith
left_most false m k h = h

one_answer : (v : Result Answer Fault) (a b : Answer) → v ≡ Ok a → v ≡ Ok b → a ≡ b
one_answer v a b e f = cc

module _ {A : Type 0} (g : RegsFields) (dbr : g.dbr ≡ booted_dbr) (start : Flat) (post : A → Type 0) (stop : Fault → A → Type 0) (R : A → A → Type 0) (present : (f : Fault) (a : A) → f.number ≢ 17 → stop f a → post a) (plan_post : ℕ → ℕ → A → Type 0) where
  abbrev AsksSo : Act A → Type 0
  AsksSo p = Asks post stop R p

  -- m new pages are reached after a request
  pub record ReachesOn (q : Request) (next : Result Answer Fault → Act A) (x : Midstep (List ℕ)) (m : ℕ) : Type 0 where
    pub most : ℕ
    pub enough : m ≤ most
    pub reaches : Reaches g most (last_by q.kind q.at) (next (serve core_store g x q).reply) (serve core_store g x q).mid

  reaches_on : (most m : ℕ) (last : Option AtFields) (q : Request) (next : Result Answer Fault → Act A) (x : Midstep (List ℕ)) → cost (fresh last q) m ≤ most → Reaches g most last (ask q next) x → ReachesOn q next x m
  reaches_on zero m last q next x h r =
      let least = cost_least (fresh last q) m zero h in
      record { most = zero; enough = least; reaches = tt }
  reaches_on (suc k) m last q next x h r =
      record { most = left (fresh last q) k; enough = left_most (fresh last q) m k h; reaches = r.1 }

  module _ (core : List ℕ) (frames : ℕ) (laid : IsLaid core frames) (kept : ℕ → ℕ → ℕ) where
    abbrev Stands : Midstep (List ℕ) → Midstep Flat → Type 0
    Stands x y = Stand core frames laid kept g dbr start x y

    abbrev Here : Request → Fault → Type 0
    Here q f = IsCutHere core frames laid kept g dbr start q f

    -- a page fault at a page that is not absent
    away : (most : ℕ) (b : Bool) (m : ℕ) (last : Option AtFields) (q : Request) (next : Result Answer Fault → Act A) (x : Midstep (List ℕ)) (y : Midstep Flat) → Stands x y → InPage q → fresh last q ≡ b → cost b m ≤ most → HoldsLast core last → Reaches g most last (ask q next) x → (f : Fault) → (serve core_store g x q).reply ≡ Err f → f.number ≡ 17 → Here q f → ⊥
    away zero true m last q next x y k inside b h holds r f e number here = omega arith
    away zero false m last q next x y k inside b h holds r f e number here =
        stale core frames laid kept g dbr start x y k q last inside b holds f e number here
    away (suc most) b m last q next x y k inside is h holds r f e number here =
        not_both (serve core_store g x q).reply f e number r.0

    -- ---- a run that reaches all its pages is not cut
    abbrev NoCut : Act A → Type 0
    NoCut p =
        (n j most : ℕ) (last : Option AtFields) (x : Midstep (List ℕ)) (y : Midstep Flat) (f : Fault) → Plan plan_post n j last p → AsksSo p → Stands x y → HoldsLast core last → n ≤ most → Reaches g most last p x → IsCut g f p x → ⊥

    no_cut_by : (q : Request) (next : Result Answer Fault → Act A) → ((a : Answer) → NoCut (next (Ok a))) → (n j most : ℕ) (last : Option AtFields) (x : Midstep (List ℕ)) (y : Midstep Flat) (f : Fault) → Plan plan_post n j last (ask q next) → AsksSo (ask q next) → Stands x y → HoldsLast core last → n ≤ most → Reaches g most last (ask q next) x → IsCut g f (ask q next) x → IsOn core frames laid kept g dbr start x y q next → ⊥
    no_cut_by q next rest n j most last x y f plan asks k holds le r c (goes_on a e other mids seen) =
        let t = serve core_store g x q in
        let more : cost (fresh last q) plan.2 ≤ most = let h = plan.4 in omega arith in
        let on = reaches_on most plan.2 last q next x more r in
        let read = was_read core frames laid kept g dbr start x y k q plan.0 a e in
        rest a plan.2 plan.3 on.most (last_by q.kind q.at) t.mid _ f (plan.6 (Ok a)) (asks.2 a) mids (last_holds core q.kind q.at read.holds) on.enough (subst (λ (v : Result Answer Fault). Reaches g on.most (last_by q.kind q.at) (next v) t.mid) e on.reaches) (subst (λ (v : Result Answer Fault). CutBy f v (IsCut g f (next v) t.mid)) e c)
    no_cut_by q next rest n j most last x y f plan asks k holds le r c (is_over v e over there) =
        let t = serve core_store g x q in
        there_not_cut g f next t.mid v over there (subst (λ (v : Result Answer Fault). CutBy f v (IsCut g f (next v) t.mid)) e c)
    no_cut_by q next rest n j most last x y f plan asks k holds le r c (is_away h e number over here) =
        let more : cost (fresh last q) plan.2 ≤ most = let h = plan.4 in omega arith in
        away most (fresh last q) plan.2 last q next x y k plan.0 refl more holds r h e number here

    pub no_cut : (p : Act A) → NoCut p
    no_cut (done a) n j most last x y f plan asks k holds le r c = c
    no_cut (ask q next) n j most last x y f plan asks k holds le r c =
        no_cut_by q next (λ a. no_cut (next (Ok a))) n j most last x y f plan asks k holds le r c (one_request core frames laid kept g dbr start post stop R x y q next asks plan.0 k)

    -- ---- the pages of completed references are in frames
    abbrev HeldRun : Act A → Type 0
    HeldRun p =
        (n j : ℕ) (last : Option AtFields) (x : Midstep (List ℕ)) (y : Midstep Flat) → Plan plan_post n j last p → AsksSo p → Stands x y → Each (On (Holds core)) x.refs → Each (On (Holds core)) (run core_store g p x).mid.refs

    held_served : (x : Midstep (List ℕ)) (y : Midstep Flat) (q : Request) (last : Option AtFields) → Stands x y → Follows q.kind last q.at → InPage q → IsReplied core_store g x q (serve core_store g x q) → Each (On (Holds core)) x.refs → Each (On (Holds core)) (serve core_store g x q).mid.refs
    held_served x y q last k follows inside (is_refused why w e low high cause) h =
        subst (λ (m : Midstep (List ℕ)). Each (On (Holds core)) m.refs) (sym (ap (λ (t : ServeResult (List ℕ)). t.mid) e)) h
    held_served x y q last k follows inside (is_answered a reply refs d live ordered spots found) h =
        let read = was_read core frames laid kept g dbr start x y k q inside a reply in
        subst (Each (On (Holds core))) (sym refs) (all_known (Holds core) q.kind q x.refs last follows (λ yes. read.holds (touched_page q.kind yes)) h)

    held_by : (q : Request) (next : Result Answer Fault → Act A) → ((a : Answer) → HeldRun (next (Ok a))) → (n j : ℕ) (last : Option AtFields) (x : Midstep (List ℕ)) (y : Midstep Flat) → Plan plan_post n j last (ask q next) → AsksSo (ask q next) → Stands x y → Each (On (Holds core)) (serve core_store g x q).mid.refs → IsOn core frames laid kept g dbr start x y q next → Each (On (Holds core)) (run core_store g (ask q next) x).mid.refs
    unfolding run
    held_by q next rest n j last x y plan asks k h (goes_on a e other mids seen) =
        let t = serve core_store g x q in
        subst (λ (v : Result Answer Fault). Each (On (Holds core)) (run core_store g (next v) t.mid).mid.refs) (sym e) (rest a plan.2 plan.3 (last_by q.kind q.at) t.mid _ (plan.6 (Ok a)) (asks.2 a) mids h)
    held_by q next rest n j last x y plan asks k h (is_over v e over there) =
        let t = serve core_store g x q in
        subst (λ (v : Result Answer Fault). Each (On (Holds core)) (run core_store g (next v) t.mid).mid.refs) (sym e) (subst (λ (m : Midstep (List ℕ)). Each (On (Holds core)) m.refs) (sym (over_run g (next v) t.mid over)) h)
    held_by q next rest n j last x y plan asks k h (is_away f e number over here) =
        let t = serve core_store g x q in
        subst (λ (v : Result Answer Fault). Each (On (Holds core)) (run core_store g (next v) t.mid).mid.refs) (sym e) (subst (λ (m : Midstep (List ℕ)). Each (On (Holds core)) m.refs) (sym (over_run g (next (Err f)) t.mid over)) h)

    pub held_run : (p : Act A) → HeldRun p
    unfolding run
    held_run (done a) n j last x y plan asks k h = h
    held_run (ask q next) n j last x y plan asks k h =
        let on = one_request core frames laid kept g dbr start post stop R x y q next asks plan.0 k in
        held_by q next (λ a. held_run (next (Ok a))) n j last x y plan asks k (held_served x y q last k plan.1 plan.0 (serve_replied core_store g x q plan.0.1) h) on

  -- ---- the next attempt
  module _ (frames : ℕ) (core : List ℕ) (laid : IsLaid core frames) (kept : ℕ → ℕ → ℕ) (now : List ℕ) (now_laid : IsLaid now frames) (now_kept : ℕ → ℕ → ℕ) where
    abbrev First : Midstep (List ℕ) → Midstep Flat → Type 0
    First x y = Stand core frames laid kept g dbr start x y

    abbrev Next : Midstep (List ℕ) → Midstep Flat → Type 0
    Next x y = Stand now frames now_laid now_kept g dbr start x y

    abbrev Gets : Act A → Type 0
    Gets p =
        (k n j : ℕ) (last : Option AtFields) (x z : Midstep (List ℕ)) (y : Midstep Flat) (f : Fault) → Plan plan_post n j last p → AsksSo p → First x y → Next z y → HoldsLast core last → EndsAt x.refs last → Reaches g k last p x → IsCut g f p x → Each (On (Holds now)) (run core_store g p x).mid.refs → HoldsAt now f.at → Reaches g (suc k) last p z

    -- counts of pages
    up_first : (b : Bool) (P : ℕ → Type 0) → P zero → P 1 → P (left b zero)
    up_first true P x y = x
    up_first false P x y = y

    up_more : (b : Bool) (k : ℕ) (P : ℕ → Type 0) → P (suc (left b k)) → P (left b (suc k))
    up_more true k P x = x
    up_more false k P x = x

    -- after an answer that is that of the first attempt
    behind : (q : Request) (next : Result Answer Fault → Act A) (a : Answer) → Gets (next (Ok a)) → (k n j : ℕ) (last : Option AtFields) (x z : Midstep (List ℕ)) (y : Midstep Flat) (f : Fault) → Plan plan_post n j last (ask q next) → AsksSo (ask q next) → First x y → (serve core_store g x q).reply ≡ Ok a → First (serve core_store g x q).mid (serve flat_store g y q).mid → Next (serve core_store g z q).mid (serve flat_store g y q).mid → Reaches g k last (ask q next) x → IsCut g f (next (Ok a)) (serve core_store g x q).mid → Each (On (Holds now)) (run core_store g (next (Ok a)) (serve core_store g x q).mid).mid.refs → HoldsAt now f.at → Reaches g (left (fresh last q) k) (last_by q.kind q.at) (next (Ok a)) (serve core_store g z q).mid
    behind q next a rest zero n j last x z y f plan asks k e mids others r c refs at =
        let t = serve core_store g x q in
        let u = serve core_store g z q in
        let read = was_read core frames laid kept g dbr start x y k q plan.0 a e in
        let more = rest zero plan.2 plan.3 (last_by q.kind q.at) t.mid u.mid _ f (plan.6 (Ok a)) (asks.2 a) mids others (last_holds core q.kind q.at read.holds) (ends_served g post stop R present (Holds now) plan_post x q plan.0 a e) tt c refs at in
        up_first (fresh last q) (λ (n : ℕ). Reaches g n (last_by q.kind q.at) (next (Ok a)) u.mid) tt more
    behind q next a rest (suc k) n j last x z y f plan asks stand e mids others r c refs at =
        let t = serve core_store g x q in
        let u = serve core_store g z q in
        let read = was_read core frames laid kept g dbr start x y stand q plan.0 a e in
        let before = subst (λ (v : Result Answer Fault). Reaches g (left (fresh last q) k) (last_by q.kind q.at) (next v) t.mid) e r.1 in
        let more = rest (left (fresh last q) k) plan.2 plan.3 (last_by q.kind q.at) t.mid u.mid _ f (plan.6 (Ok a)) (asks.2 a) mids others (last_holds core q.kind q.at read.holds) (ends_served g post stop R present (Holds now) plan_post x q plan.0 a e) before c refs at in
        up_more (fresh last q) k (λ (n : ℕ). Reaches g n (last_by q.kind q.at) (next (Ok a)) u.mid) more

    -- the request is answered in the next attempt: the page of a completed reference is in a frame
    not_away : (b : Bool) (q : Request) (next : Result Answer Fault → Act A) (a : Answer) (last : Option AtFields) (n j : ℕ) (x z : Midstep (List ℕ)) (y : Midstep Flat) → has_page q.kind ≡ b → Plan plan_post n j last (ask q next) → AsksSo (ask q next) → First x y → Next z y → EndsAt x.refs last → (serve core_store g x q).reply ≡ Ok a → (has_page q.kind ≡ true → touches q.kind ≡ true) → Each (On (Holds now)) (run core_store g (next (Ok a)) (serve core_store g x q).mid).mid.refs → (h : Fault) → (serve core_store g z q).reply ≡ Err h → h.number ≡ 17 → IsCutHere now frames now_laid now_kept g dbr start q h → ⊥
    not_away false q next a last n j x z y page plan asks k l ends e seen refs h eh number here =
        target_there now frames now_laid now_kept g dbr start z y l q plan.0 (page_target q.kind page) h eh number
    not_away true q next a last n j x z y page plan asks k l ends e seen refs h eh number here =
        let t = serve core_store g x q in
        let read = was_read core frames laid kept g dbr start x y k q plan.0 a e in
        let all = kept_back g post stop R present (Holds now) plan_post plan.2 plan.3 (last_by q.kind q.at) (next (Ok a)) t.mid (plan.6 (Ok a)) (asks.2 a) (ends_served g post stop R present (Holds now) plan_post x q plan.0 a e) refs in
        let known = was_known (Holds now) q.kind q x.refs last plan.1 ends (subst (Each (On (Holds now))) read.refs all) in
        known.here (seen page) here.absent.page_is here.absent.word

    from_answer : (q : Request) (next : Result Answer Fault → Act A) (a : Answer) → Gets (next (Ok a)) → (k n j : ℕ) (last : Option AtFields) (x z : Midstep (List ℕ)) (y : Midstep Flat) (f : Fault) → Plan plan_post n j last (ask q next) → AsksSo (ask q next) → First x y → Next z y → EndsAt x.refs last → (serve core_store g x q).reply ≡ Ok a → (serve flat_store g y q).reply ≡ Ok a → First (serve core_store g x q).mid (serve flat_store g y q).mid → (has_page q.kind ≡ true → touches q.kind ≡ true) → Reaches g k last (ask q next) x → IsCut g f (next (Ok a)) (serve core_store g x q).mid → Each (On (Holds now)) (run core_store g (next (Ok a)) (serve core_store g x q).mid).mid.refs → HoldsAt now f.at → IsOn now frames now_laid now_kept g dbr start z y q next → Reaches g (suc k) last (ask q next) z
    from_answer q next a rest k n j last x z y f plan asks s l ends e other mids seen r c refs at (goes_on b eb otherb midsb seenb) =
        let u = serve core_store g z q in
        let same = one_answer (serve flat_store g y q).reply a b other otherb in
        let reply : u.reply ≡ Ok a = eb ∙ ap (λ (x : Answer). Ok x) (sym same) in
        let more = behind q next a rest k n j last x z y f plan asks s e mids midsb r c refs at in
        (subst IsThere (sym reply) tt, subst (λ (v : Result Answer Fault). Reaches g (left (fresh last q) k) (last_by q.kind q.at) (next v) u.mid) (sym reply) more)
    from_answer q next a rest k n j last x z y f plan asks s l ends e other mids seen r c refs at (is_over v ev over there) =
        let u = serve core_store g z q in
        (subst IsThere (sym ev) there, subst (λ (v : Result Answer Fault). Reaches g (left (fresh last q) k) (last_by q.kind q.at) (next v) u.mid) (sym ev) (over_reaches g (left (fresh last q) k) (last_by q.kind q.at) (next v) u.mid over))
    from_answer q next a rest k n j last x z y f plan asks s l ends e other mids seen r c refs at (is_away h eh number over here) =
        absurd (not_away (has_page q.kind) q next a last n j x z y refl plan asks s l ends e seen refs h eh number here)

    -- the first attempt ended here with a page fault: the page was new, and it is in a frame now
    there_now : (q : Request) (next : Result Answer Fault → Act A) (f h : Fault) (z : Midstep (List ℕ)) (y : Midstep Flat) → Next z y → IsCutHere core frames laid kept g dbr start q h → h ≡ f → HoldsAt now f.at → IsOn now frames now_laid now_kept g dbr start z y q next → IsThere (serve core_store g z q).reply
    there_now q next f h z y l here same at (goes_on b eb other mids seen) = subst IsThere (sym eb) tt
    there_now q next f h z y l here same at (is_over v ev over there) = subst IsThere (sym ev) there
    there_now q next f h z y l here same at (is_away i ei number over there) =
        let seg : f.at.seg ≡ q.at.seg = ap (λ (x : Fault). x.at.seg) (sym same) ∙ here.seg in
        let page : f.at.word / 1024 ≡ q.at.word / 1024 = ap (λ (x : Fault). x.at.word / 1024) (sym same) ∙ here.page in
        let holds : HoldsAt now q.at = subst (λ (n : ℕ). Holds now n (q.at.word / 1024)) seg (subst (λ (n : ℕ). Holds now f.at.seg n) page at) in
        absurd (holds there.absent.page_is there.absent.word)

    from_cut : (k : ℕ) (b : Bool) (q : Request) (next : Result Answer Fault → Act A) (n j : ℕ) (last : Option AtFields) (x z : Midstep (List ℕ)) (y : Midstep Flat) (h : Fault) → fresh last q ≡ b → Plan plan_post n j last (ask q next) → First x y → HoldsLast core last → (serve core_store g x q).reply ≡ Err h → h.number ≡ 17 → IsCutHere core frames laid kept g dbr start q h → Reaches g k last (ask q next) x → Reaches g (left (fresh last q) k) (last_by q.kind q.at) (next (serve core_store g z q).reply) (serve core_store g z q).mid
    from_cut zero true q next n j last x z y h is plan s holds e number here r =
        subst (λ (b : Bool). Reaches g (left b zero) (last_by q.kind q.at) (next (serve core_store g z q).reply) (serve core_store g z q).mid) (sym is) tt
    from_cut zero false q next n j last x z y h is plan s holds e number here r =
        absurd (stale core frames laid kept g dbr start x y s q last plan.0 is holds h e number here)
    from_cut (suc k) b q next n j last x z y h is plan s holds e number here r =
        absurd (not_both (serve core_store g x q).reply h e number r.0)

    gets_by : (q : Request) (next : Result Answer Fault → Act A) → ((a : Answer) → Gets (next (Ok a))) → (k n j : ℕ) (last : Option AtFields) (x z : Midstep (List ℕ)) (y : Midstep Flat) (f : Fault) → Plan plan_post n j last (ask q next) → AsksSo (ask q next) → First x y → Next z y → HoldsLast core last → EndsAt x.refs last → Reaches g k last (ask q next) x → IsCut g f (ask q next) x → Each (On (Holds now)) (run core_store g (ask q next) x).mid.refs → HoldsAt now f.at → IsOn core frames laid kept g dbr start x y q next → IsOn now frames now_laid now_kept g dbr start z y q next → Reaches g (suc k) last (ask q next) z
    unfolding run
    gets_by q next rest k n j last x z y f plan asks s l holds ends r c refs at (goes_on a e other mids seen) on =
        let t = serve core_store g x q in
        from_answer q next a (rest a) k n j last x z y f plan asks s l ends e other mids seen r (subst (λ (v : Result Answer Fault). CutBy f v (IsCut g f (next v) t.mid)) e c) (subst (λ (v : Result Answer Fault). Each (On (Holds now)) (run core_store g (next v) t.mid).mid.refs) e refs) at on
    gets_by q next rest k n j last x z y f plan asks s l holds ends r c refs at (is_over v e over there) on =
        let t = serve core_store g x q in
        absurd (there_not_cut g f next t.mid v over there (subst (λ (v : Result Answer Fault). CutBy f v (IsCut g f (next v) t.mid)) e c))
    gets_by q next rest k n j last x z y f plan asks s l holds ends r c refs at (is_away h e number over here) on =
        let t = serve core_store g x q in
        let cut = subst (λ (v : Result Answer Fault). CutBy f v (IsCut g f (next v) t.mid)) e c in
        (there_now q next f h z y l here cut.0 at on, from_cut k (fresh last q) q next n j last x z y h refl plan s holds e number here r)

    -- The next attempt reaches one new page more.
    pub gets : (p : Act A) → Gets p
    gets (done a) k n j last x z y f plan asks s l holds ends r c refs at = tt
    gets (ask q next) k n j last x z y f plan asks s l holds ends r c refs at =
        gets_by q next (λ a. gets (next (Ok a))) k n j last x z y f plan asks s l holds ends r c refs at (one_request core frames laid kept g dbr start post stop R x y q next asks plan.0 s) (one_request now frames now_laid now_kept g dbr start post stop R z y q next asks plan.0 l)
