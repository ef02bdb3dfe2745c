-- The results of a request to a store, and the references that a run records.
use Rattle.std.proofs.Common.{◌≡◌, refl, sym, ◌∙◌, ap, subst, arith}
use Rattle.std.specs.Prelude.{ℕ, zero, suc, ◌+◌, ◌-◌, ◌/◌, ◌<◌, ◌≤◌, ◌≢◌, Bool, true, false, ◌==◌, List, [], ◌∷◌, ◌++◌, length, Option, Some, None, Result, Ok, Err}
use Rattle.m36_desc.specs.Fields.{SdwFields}
use Rattle.m36_desc.specs.Access.{has_ordered_brackets}
use Rattle.m36_model.specs.Fields.{AtFields}
use Rattle.m36_model.specs.Registers.{RegsFields}
use Rattle.m36_model.specs.Act.{RequestKind, Fetch, Indirect, Odd, Read, Write, Transfer, Call, Locate, Request, Answer, Act, done, ask}
use Rattle.m36_model.specs.Store.{Spot, Store, Midstep, ServeResult, violation, refused_reply, is_within_bound, spots_with, spots_from, spots_of, spots_of_request_by, spots_of_request, bound_only, is_target, touches, refusing_violation, serve, serve_sdw, serve_rights, serve_places, with_odd, with_reference, run}
use Rattle.m36_model.specs.StoreLaw.{Each}
use Rattle.m36_model.specs.Core.{core_store}
use Rattle.m36_model.specs.Step.{record_of, start_of_step, program}
use Rattle.m36_model.specs.declared.outcome.Refusal.{Refusal}
use Rattle.m36_model.specs.declared.place.Kind.TheVariants as reference
use Rattle.m36_model.specs.declared.place.Reference.{Reference}
use Rattle.m36_isol.proofs.Rights.{denied_order}
use Rattle.m36_isol.proofs.Spots.{each_append}
use Rattle.m36_isol.specs.References.{FewReferencesLaw}
use Rattle.m36_isol.proofs.Plan.{adds, cost, last_by, FollowsEven, Follows, Plan, program_plan}

-- ---- a request

module _ {S : Type 0} (o : Store S) (g : RegsFields) where
  -- why a request is refused
  pub data IsCause (m : Midstep S) (q : Request) (why : Refusal) (w : ℕ) : Type 0 where
    no_descriptor : o.sdw m.store g.dbr q.at.seg ≡ Err why → IsCause m q why w
    no_right : why.number ≡ 20 → IsCause m q why w
    no_place : (d : SdwFields) → spots_of_request o m.store g.dbr d q ≡ Err (w, why) → IsCause m q why w

  -- a request is refused at one of its words and changes nothing, or its words have spots
  pub data IsReplied (m : Midstep S) (q : Request) (t : ServeResult S) : Type 0 where
    is_refused : (why : Refusal) (w : ℕ) → t ≡ refused_reply m q w why → q.at.word ≤ w → w < q.at.word + q.count → IsCause m q why w → IsReplied m q t
    is_answered : (a : Answer) → t.reply ≡ Ok a → t.mid.refs ≡ with_reference q.kind q m.refs → (d : SdwFields) → o.sdw m.store g.dbr q.at.seg ≡ Ok d → has_ordered_brackets d ≡ true → (spots : List Spot) → spots_of_request o m.store g.dbr d q ≡ Ok spots → IsReplied m q t

  by_next : (r : Result (List Spot) (ℕ × Refusal)) (spot : Spot) (e : ℕ × Refusal) → spots_with r spot ≡ Err e → r ≡ Err e
  by_next (Ok spots) spot e h = cc
  by_next (Err f) spot e h = h

  err_first : (w : ℕ) (why : Refusal) (e : ℕ × Refusal) → (r : Result (List Spot) (ℕ × Refusal)) → r ≡ Err (w, why) → r ≡ Err e → w ≡ e.0
  err_first w why e r h f = let k : (w, why) ≡ e = cc in ap (λ (x : ℕ × Refusal). x.0) k

  by_one : (b : Bool) (w : ℕ) (x : Result Spot Refusal) (r : Result (List Spot) (ℕ × Refusal)) (e : ℕ × Refusal) (n : ℕ) → ((e : ℕ × Refusal) → r ≡ Err e → (w + 1 ≤ e.0) × (e.0 < w + 1 + n)) → spots_from b w x r ≡ Err e → (w ≤ e.0) × (e.0 < w + suc n)
  by_one false w x r e n rest h = let k = err_first w _ e _ refl h in (omega arith, omega arith)
  by_one true w (Err why) r e n rest h = let k = err_first w why e _ refl h in (omega arith, omega arith)
  by_one true w (Ok spot) r e n rest h =
      let k = rest e (by_next r spot e h) in
      let k0 = k.0 in
      let k1 = k.1 in
      (omega arith, omega arith)

  -- the word that is refused is one of the request
  spots_range : (s : S) (d : SdwFields) (seg w n : ℕ) (e : ℕ × Refusal) → spots_of o s g.dbr d seg w n ≡ Err e → (w ≤ e.0) × (e.0 < w + n)
  unfolding spots_of
  spots_range s d seg w zero e h = cc
  spots_range s d seg w (suc n) e h =
      by_one (is_within_bound d w) w (o.spot s g.dbr d seg w) (spots_of o s g.dbr d seg (w + 1) n) e n (λ e k. spots_range s d seg (w + 1) n e k) h

  bound_range : (b : Bool) (w n : ℕ) (e : ℕ × Refusal) → 1 ≤ n → bound_only b w ≡ Err e → (w ≤ e.0) × (e.0 < w + n)
  bound_range true w n e some h = cc
  bound_range false w n e some h = let k = err_first w _ e _ refl h in (omega arith, omega arith)

  parts_range : (b : Bool) (s : S) (d : SdwFields) (q : Request) (e : ℕ × Refusal) → 1 ≤ q.count → spots_of_request_by b (bound_only (is_within_bound d q.at.word) q.at.word) (spots_of o s g.dbr d q.at.seg q.at.word q.count) ≡ Err e → (q.at.word ≤ e.0) × (e.0 < q.at.word + q.count)
  parts_range true s d q e some h = bound_range (is_within_bound d q.at.word) q.at.word q.count e some h
  parts_range false s d q e some h = spots_range s d q.at.seg q.at.word q.count e h

  places_range : (s : S) (d : SdwFields) (q : Request) (e : ℕ × Refusal) → 1 ≤ q.count → spots_of_request o s g.dbr d q ≡ Err e → (q.at.word ≤ e.0) × (e.0 < q.at.word + q.count)
  unfolding spots_of_request
  places_range s d q e some h = parts_range (is_target q.kind) s d q e some h

  replied_places : (m : Midstep S) (q : Request) (d : SdwFields) → 1 ≤ q.count → o.sdw m.store g.dbr q.at.seg ≡ Ok d → has_ordered_brackets d ≡ true → (v : Result (List Spot) (ℕ × Refusal)) → spots_of_request o m.store g.dbr d q ≡ v → IsReplied m q (serve_places o g m q d v)
  replied_places m q d some live ordered (Err e) h =
      let k = places_range m.store d q e some h in
      is_refused e.1 e.0 refl k.0 k.1 (no_place d h)
  replied_places m q d some live ordered (Ok spots) h = is_answered _ refl refl d live ordered spots h

  replied_rights : (m : Midstep S) (q : Request) (d : SdwFields) → 1 ≤ q.count → o.sdw m.store g.dbr q.at.seg ≡ Ok d → (v : Option ℕ) → refusing_violation q.kind d q.at.ring g.ppr.prr (q.at.seg == g.ppr.psr) q.at.word ≡ v → IsReplied m q (serve_rights o g m q d v)
  replied_rights m q d some live (Some acv) h =
      is_refused (violation acv) q.at.word refl (omega arith) (omega arith) (no_right refl)
  replied_rights m q d some live None h =
      replied_places m q d some live (denied_order q.kind d q.at.ring g.ppr.prr (q.at.seg == g.ppr.psr) q.at.word h) _ refl

  replied_sdw : (m : Midstep S) (q : Request) → 1 ≤ q.count → (v : Result SdwFields Refusal) → o.sdw m.store g.dbr q.at.seg ≡ v → IsReplied m q (serve_sdw o g m q v)
  replied_sdw m q some (Err why) h =
      is_refused why q.at.word refl (omega arith) (omega arith) (no_descriptor h)
  replied_sdw m q some (Ok d) h = replied_rights m q d some h _ refl

  pub serve_replied : (m : Midstep S) (q : Request) → 1 ≤ q.count → IsReplied m q (serve o g m q)
  unfolding serve
  serve_replied m q some = replied_sdw m q some (o.sdw m.store g.dbr q.at.seg) refl

  -- the first word of an answered reference has a place
  pub record IsPlaced (s : S) (d : SdwFields) (seg w : ℕ) : Type 0 where
    pub inside : is_within_bound d w ≡ true
    pub spot : Spot
    pub found : o.spot s g.dbr d seg w ≡ Ok spot

  first_by : (s : S) (d : SdwFields) (seg w : ℕ) (b : Bool) (x : Result Spot Refusal) (r : Result (List Spot) (ℕ × Refusal)) (ps : List Spot) → is_within_bound d w ≡ b → o.spot s g.dbr d seg w ≡ x → spots_from b w x r ≡ Ok ps → IsPlaced s d seg w
  first_by s d seg w false x r ps i e h = cc
  first_by s d seg w true (Err why) r ps i e h = cc
  first_by s d seg w true (Ok spot) r ps i e h = record { inside = i; spot = spot; found = e }

  first_placed : (s : S) (d : SdwFields) (seg w n : ℕ) (ps : List Spot) → 1 ≤ n → spots_of o s g.dbr d seg w n ≡ Ok ps → IsPlaced s d seg w
  unfolding spots_of
  first_placed s d seg w zero ps some h = absurd (omega arith)
  first_placed s d seg w (suc n) ps some h = first_by s d seg w (is_within_bound d w) (o.spot s g.dbr d seg w) _ ps refl refl h

  parts_placed : (b : Bool) (s : S) (d : SdwFields) (q : Request) (ps : List Spot) → b ≡ false → 1 ≤ q.count → spots_of_request_by b (bound_only (is_within_bound d q.at.word) q.at.word) (spots_of o s g.dbr d q.at.seg q.at.word q.count) ≡ Ok ps → IsPlaced s d q.at.seg q.at.word
  parts_placed true s d q ps plain some h = cc
  parts_placed false s d q ps plain some h = first_placed s d q.at.seg q.at.word q.count ps some h

  pub places_placed : (s : S) (d : SdwFields) (q : Request) (ps : List Spot) → is_target q.kind ≡ false → 1 ≤ q.count → spots_of_request o s g.dbr d q ≡ Ok ps → IsPlaced s d q.at.seg q.at.word
  unfolding spots_of_request
  places_placed s d q ps plain some h = parts_placed (is_target q.kind) s d q ps plain some h

  -- the target of a transfer or call has no page fault
  bound_number : (b : Bool) (w x : ℕ) (why : Refusal) → bound_only b w ≡ Err (x, why) → why.number ≡ 20
  bound_number true w x why h = cc
  bound_number false w x why h =
      let k : (w, violation 15) ≡ (x, why) = cc in
      sym (ap (λ (e : ℕ × Refusal). e.1.number) k)

  parts_number : (b : Bool) (s : S) (d : SdwFields) (q : Request) (x : ℕ) (why : Refusal) → b ≡ true → spots_of_request_by b (bound_only (is_within_bound d q.at.word) q.at.word) (spots_of o s g.dbr d q.at.seg q.at.word q.count) ≡ Err (x, why) → why.number ≡ 20
  parts_number true s d q x why target h = bound_number (is_within_bound d q.at.word) q.at.word x why h
  parts_number false s d q x why target h = cc

  places_number : (s : S) (d : SdwFields) (q : Request) (x : ℕ) (why : Refusal) → is_target q.kind ≡ true → spots_of_request o s g.dbr d q ≡ Err (x, why) → why.number ≡ 20
  unfolding spots_of_request
  places_number s d q x why target h = parts_number (is_target q.kind) s d q x why target h

  other_number : (n : ℕ) → n ≡ 20 → n ≢ 17
  other_number n e h = omega arith

  pub target_number : (m : Midstep S) (q : Request) (why : Refusal) (w : ℕ) → ((why : Refusal) → o.sdw m.store g.dbr q.at.seg ≡ Err why → why.number ≢ 17) → is_target q.kind ≡ true → IsCause m q why w → why.number ≢ 17
  target_number m q why w dead target (no_descriptor e) = dead why e
  target_number m q why w dead target (no_right e) = other_number why.number e
  target_number m q why w dead target (no_place d e) =
      other_number why.number (places_number m.store d q w why target e)

-- ---- the references that are recorded

-- the reference to the even word, for a reference to the odd one
abbrev pub even_reference : Request → Reference
even_reference q =
    record { kind = reference.Indirect; at = record { seg = q.at.seg; word = q.at.word - 1; ring = q.at.ring }; count = 2 }

pub odd_last : (q : Request) (more : List Reference) (e : Reference) → with_odd q (more ++ e ∷ []) ≡ more ++ even_reference q ∷ []
odd_last q [] e = refl
odd_last q (x ∷ []) e = refl
odd_last q (x ∷ y ∷ more) e = ap (λ (l : List Reference). x ∷ l) (odd_last q (y ∷ more) e)

odd_length : (q : Request) (refs : List Reference) → length (with_odd q refs) ≡ length refs
odd_length q [] = refl
odd_length q (e ∷ []) = refl
odd_length q (e ∷ f ∷ refs) = ap suc (odd_length q (f ∷ refs))

one_longer : (refs : List Reference) (e : Reference) → length (refs ++ e ∷ []) ≡ suc (length refs)
one_longer [] e = refl
one_longer (x ∷ refs) e = ap suc (one_longer refs e)

count_after : (kind : RequestKind) (q : Request) (refs : List Reference) (j k : ℕ) → cost (adds kind) j ≤ k → length (with_reference kind q refs) + j ≤ length refs + k
count_after Fetch q refs j k h = let e = one_longer refs (record { kind = reference.Fetch; at = q.at; count = q.count }) in omega arith
count_after Indirect q refs j k h = let e = one_longer refs (record { kind = reference.Indirect; at = q.at; count = q.count }) in omega arith
count_after Odd q refs j k h = let e = odd_length q refs in omega arith
count_after Read q refs j k h = let e = one_longer refs (record { kind = reference.Read; at = q.at; count = q.count }) in omega arith
count_after Write q refs j k h = let e = one_longer refs (record { kind = reference.Write; at = q.at; count = q.count }) in omega arith
count_after Transfer q refs j k h = omega arith
count_after Call q refs j k h = omega arith
count_after Locate q refs j k h = omega arith

pub cost_least : (b : Bool) (j k : ℕ) → cost b j ≤ k → j ≤ k
cost_least true j k h = omega arith
cost_least false j k h = h

module _ {A S : Type 0} (o : Store S) (g : RegsFields) (post : ℕ → ℕ → A → Type 0) where
  served_count : (m : Midstep S) (q : Request) (j k : ℕ) → cost (adds q.kind) j ≤ k → (t : ServeResult S) → IsReplied o g m q t → length t.mid.refs + j ≤ length m.refs + k
  served_count m q j k h t (is_refused why w e low high cause) =
      let same : length t.mid.refs ≡ length m.refs = ap (λ (x : ServeResult S). length x.mid.refs) e in
      let least = cost_least (adds q.kind) j k h in
      omega arith
  served_count m q j k h t (is_answered a reply refs d live ordered spots found) =
      let same = ap (λ (l : List Reference). length l) refs in
      let most = count_after q.kind q m.refs j k h in
      omega arith

  -- a program that records at most k references records no more
  pub references_few : (n k : ℕ) (last : Option AtFields) (p : Act A) (m : Midstep S) → Plan post n k last p → length (run o g p m).mid.refs ≤ length m.refs + k
  unfolding run
  references_few n k last (done a) m h = omega arith
  references_few n k last (ask q next) m h =
      let t = serve o g m q in
      let here = served_count m q h.3 k h.5 t (serve_replied o g m q h.0.1) in
      let rest = references_few h.2 h.3 (last_by q.kind q.at) (next t.reply) t.mid (h.6 t.reply) in
      omega arith

pub few_references : FewReferencesLaw
unfolding record_of
few_references s =
    references_few core_store s.regs (λ n k a. Unit {0}) 18 20 None (program s.regs) (start_of_step s) (program_plan s.regs)

-- ---- the pages of references

-- K holds of the page of a reference
abbrev pub On : (ℕ → ℕ → Type 0) → Reference → Type 0
On K e = K e.at.seg (e.at.word / 1024)

-- the last reference is the one before the request
pub record EndsWith (refs : List Reference) (at : AtFields) : Type 0 where
  pub more : List Reference
  pub reference : Reference
  pub is : refs ≡ more ++ reference ∷ []
  pub seg : reference.at.seg ≡ at.seg
  pub word : reference.at.word ≡ at.word

abbrev pub EndsAt : List Reference → Option AtFields → Type 0
EndsAt refs None = Unit {0}
EndsAt refs (Some at) = EndsWith refs at

ends_with : (refs : List Reference) (e : Reference) (at : AtFields) → e.at ≡ at → EndsWith (refs ++ e ∷ []) at
ends_with refs e at same =
    record { more = refs; reference = e; is = refl; seg = ap (λ (x : AtFields). x.seg) same; word = ap (λ (x : AtFields). x.word) same }

pub ends_after : (kind : RequestKind) (q : Request) (refs : List Reference) → EndsAt (with_reference kind q refs) (last_by kind q.at)
ends_after Fetch q refs = ends_with refs _ q.at refl
ends_after Indirect q refs = ends_with refs _ q.at refl
ends_after Odd q refs = tt
ends_after Read q refs = ends_with refs _ q.at refl
ends_after Write q refs = ends_with refs _ q.at refl
ends_after Transfer q refs = tt
ends_after Call q refs = tt
ends_after Locate q refs = tt

each_front : {A : Type 0} (P : A → Type 0) (xs : List A) (x : A) → Each P (xs ++ x ∷ []) → Each P xs × P x
each_front P [] x h = (tt, h.0)
each_front P (y ∷ xs) x h = let k = each_front P xs x h.1 in ((h.0, k.0), k.1)

-- the even word and the odd word are on the same page
even_page : (last : Option AtFields) (at : AtFields) → FollowsEven last at → (at.word - 1) / 1024 ≡ at.word / 1024
even_page (Some last) at h =
    let next = h.1 in
    let even = h.2 in
    omega arith
even_page None at h = absurd h

module _ (K : ℕ → ℕ → Type 0) where
  -- what is known of the pages of references after a request was known before it, and of its page
  pub record WasKnown (kind : RequestKind) (q : Request) (refs : List Reference) : Type 0 where
    pub before : Each (On K) refs
    pub here : touches kind ≡ true → K q.at.seg (q.at.word / 1024)

  appended : (kind : RequestKind) (q : Request) (refs : List Reference) (e : Reference) → e.at ≡ q.at → Each (On K) (refs ++ e ∷ []) → WasKnown kind q refs
  appended kind q refs e same h =
      let k = each_front (On K) refs e h in
      record { before = k.0; here = λ yes. subst (λ (x : AtFields). K x.seg (x.word / 1024)) same k.1 }

  odd_known : (q : Request) (refs : List Reference) (last : Option AtFields) → FollowsEven last q.at → EndsAt refs last → Each (On K) (with_odd q refs) → WasKnown Odd q refs
  odd_known q refs None follows ends h = absurd follows
  odd_known q refs (Some last) follows ends h =
      let list : with_odd q refs ≡ ends.more ++ even_reference q ∷ [] = ap (with_odd q) ends.is ∙ odd_last q ends.more ends.reference in
      let k = each_front (On K) ends.more (even_reference q) (subst (Each (On K)) list h) in
      let here : K q.at.seg (q.at.word / 1024) = subst (K q.at.seg) (even_page (Some last) q.at follows) k.1 in
      let seg : q.at.seg ≡ ends.reference.at.seg = sym follows.0 ∙ sym ends.seg in
      let next = follows.1 in
      let even = follows.2 in
      let word = ends.word in
      let page : q.at.word / 1024 ≡ ends.reference.at.word / 1024 = omega arith in
      let there : On K ends.reference = subst (λ (n : ℕ). K n (ends.reference.at.word / 1024)) seg (subst (K q.at.seg) page here) in
      record { before = subst (Each (On K)) (sym ends.is) (each_append (On K) ends.more (ends.reference ∷ []) k.0 (there, tt)); here = λ yes. here }

  pub was_known : (kind : RequestKind) (q : Request) (refs : List Reference) (last : Option AtFields) → Follows kind last q.at → EndsAt refs last → Each (On K) (with_reference kind q refs) → WasKnown kind q refs
  was_known Fetch q refs last follows ends h = appended Fetch q refs _ refl h
  was_known Indirect q refs last follows ends h = appended Indirect q refs _ refl h
  was_known Odd q refs last follows ends h = odd_known q refs last follows ends h
  was_known Read q refs last follows ends h = appended Read q refs _ refl h
  was_known Write q refs last follows ends h = appended Write q refs _ refl h
  was_known Transfer q refs last follows ends h = record { before = h; here = λ yes. cc }
  was_known Call q refs last follows ends h = record { before = h; here = λ yes. cc }
  was_known Locate q refs last follows ends h = record { before = h; here = λ yes. cc }

  -- the same with the page of a request
  odd_all : (q : Request) (refs : List Reference) → K q.at.seg ((q.at.word - 1) / 1024) → Each (On K) refs → Each (On K) (with_odd q refs)
  odd_all q [] here h = tt
  odd_all q (e ∷ []) here h = (here, tt)
  odd_all q (e ∷ f ∷ refs) here h = (h.0, odd_all q (f ∷ refs) here h.1)

  pub all_known : (kind : RequestKind) (q : Request) (refs : List Reference) (last : Option AtFields) → Follows kind last q.at → (touches kind ≡ true → K q.at.seg (q.at.word / 1024)) → Each (On K) refs → Each (On K) (with_reference kind q refs)
  all_known Fetch q refs last follows here h = each_append (On K) refs _ h (here refl, tt)
  all_known Indirect q refs last follows here h = each_append (On K) refs _ h (here refl, tt)
  all_known Odd q refs last follows here h =
      odd_all q refs (subst (K q.at.seg) (sym (even_page last q.at follows)) (here refl)) h
  all_known Read q refs last follows here h = each_append (On K) refs _ h (here refl, tt)
  all_known Write q refs last follows here h = each_append (On K) refs _ h (here refl, tt)
  all_known Transfer q refs last follows here h = h
  all_known Call q refs last follows here h = h
  all_known Locate q refs last follows here h = h

module _ {A S : Type 0} (o : Store S) (g : RegsFields) (post : ℕ → ℕ → A → Type 0) (K : ℕ → ℕ → Type 0) where
  known_served : (m : Midstep S) (q : Request) (last : Option AtFields) → Follows q.kind last q.at → EndsAt m.refs last → (t : ServeResult S) → IsReplied o g m q t → Each (On K) t.mid.refs → Each (On K) m.refs
  known_served m q last follows ends t (is_refused why w e low high cause) h =
      subst (Each (On K)) (ap (λ (x : ServeResult S). x.mid.refs) e) h
  known_served m q last follows ends t (is_answered a reply refs d live ordered spots found) h =
      (was_known K q.kind q m.refs last follows ends (subst (Each (On K)) refs h)).before

  -- a program that is done, or one that begins where its last reference was
  abbrev pub Begins : Act A → Midstep S → Option AtFields → Type 0
  Begins (done a) m last = Unit {0}
  Begins (ask q next) m last = EndsAt m.refs last
