-- A step over the core of a booted image, which has a page fault or none.
use Rattle.std.proofs.Common.{◌≡◌, refl, sym, ◌∙◌, ap, subst, inl, inr, ⊎_elim, arith, eqb-true}
use Rattle.std.specs.Prelude.{ℕ, ◌/◌, ◌≤◌, ◌≢◌, ◌⊎◌, Bool, true, false, ◌&&◌, ◌==◌, List, Option, Some, None, Result, Ok, Err}
use Rattle.std.proofs.lemmas.Bool.{and_parts, not-false}
use Rattle.m36_desc.specs.Fields.{SdwFields, DbrFields}
use Rattle.m36_desc.specs.Access.{has_ordered_brackets}
use Rattle.m36_model.specs.Fields.{AtFields}
use Rattle.m36_model.specs.Registers.{RegsFields}
use Rattle.m36_model.specs.Act.{RequestKind, Fetch, Indirect, Odd, Read, Write, Transfer, Call, Locate, Request, Answer, Act, done, ask}
use Rattle.m36_model.specs.Store.{Spot, Midstep, ServeResult, violation, fault_by, is_within_bound, place, place_by, place_within, when_ordered, spots_of_request, is_target, touches, with_reference, serve}
use Rattle.m36_model.specs.Core.{core_store}
use Rattle.m36_model.specs.Place.{core_sdw, core_spot}
use Rattle.m36_model.specs.Flat.{Flat, flat_store}
use Rattle.m36_model.specs.BootedCore.{booted_dbr, absent_ptw, IsPage, page_word, IsLaid}
use Rattle.m36_model.specs.Residence.{absence, PageIsAbsent}
use Rattle.m36_model.specs.declared.outcome.Fault.{Fault}
use Rattle.m36_model.specs.declared.outcome.Refusal.{Refusal}
use Rattle.m36_isol.proofs.CoreTables.{same_sdw, same_spot_of}
use Rattle.m36_isol.proofs.Laid.{page_of_word, absent_spot, resident_spot}
use Rattle.m36_isol.proofs.Booted.{StandsFor, IsPair, booted_mirrors}
use Rattle.m36_isol.proofs.Mirror.{Mirrors, AreMids, IsPageFaultServed, alike, cut, told_place, serve_mirrors, Stops, EndTwo, Asks}
use Rattle.m36_isol.proofs.Plan.{has_page, same_page, fresh_by, fresh, last_by, InPage}
use Rattle.m36_isol.proofs.Pages.{IsReplied, is_refused, is_answered, serve_replied, places_placed, target_number}

-- a page that begins within the bound of a segment is in a frame
abbrev pub Holds : List ℕ → ℕ → ℕ → Type 0
Holds core seg page = IsPage core seg page → page_word core seg page ≡ absent_ptw → ⊥

-- it is in no frame
pub record IsAbsent (core : List ℕ) (seg page : ℕ) : Type 0 where
  pub page_is : IsPage core seg page
  pub word : page_word core seg page ≡ absent_ptw

-- the page of a reference
abbrev pub HoldsAt : List ℕ → AtFields → Type 0
HoldsAt core at = Holds core at.seg (at.word / 1024)

-- the page of the reference before
abbrev pub HoldsLast : List ℕ → Option AtFields → Type 0
HoldsLast core None = Unit {0}
HoldsLast core (Some at) = HoldsAt core at

-- a reply that is no page fault
abbrev pub IsThere : Result Answer Fault → Type 0
IsThere (Ok a) = Unit {0}
IsThere (Err f) = f.number ≢ 17

-- a program that is done
abbrev pub IsOver : {A : Type 0} → Act A → Type 0
IsOver (done a) = Unit {0}
IsOver (ask q next) = ⊥

pub stops_over : {A : Type 0} (stop : Fault → A → Type 0) (f : Fault) (m : Act A) → Stops stop f m → IsOver m
stops_over stop f (done a) h = tt
stops_over stop f (ask q next) h = h

two_over : {A : Type 0} (R : A → A → Type 0) (m : Act A) → EndTwo R m m → IsOver m
two_over R (done a) h = tt
two_over R (ask q next) h = h

-- kinds that reference pages
pub page_target : (kind : RequestKind) → has_page kind ≡ false → is_target kind ≡ true
page_target Fetch h = cc
page_target Indirect h = cc
page_target Odd h = cc
page_target Read h = cc
page_target Write h = cc
page_target Transfer h = refl
page_target Call h = refl
page_target Locate h = cc

target_page : (kind : RequestKind) → has_page kind ≡ true → is_target kind ≡ false
target_page Fetch h = refl
target_page Indirect h = refl
target_page Odd h = refl
target_page Read h = refl
target_page Write h = refl
target_page Transfer h = cc
target_page Call h = cc
target_page Locate h = refl

pub touched_page : (kind : RequestKind) → touches kind ≡ true → has_page kind ≡ true
touched_page Fetch h = refl
touched_page Indirect h = refl
touched_page Odd h = refl
touched_page Read h = refl
touched_page Write h = refl
touched_page Transfer h = cc
touched_page Call h = cc
touched_page Locate h = cc

seen_or_located : (kind : RequestKind) → (has_page kind ≡ true → touches kind ≡ true) ⊎ (kind ≡ Locate)
seen_or_located Fetch = inl (λ h. refl)
seen_or_located Indirect = inl (λ h. refl)
seen_or_located Odd = inl (λ h. refl)
seen_or_located Read = inl (λ h. refl)
seen_or_located Write = inl (λ h. refl)
seen_or_located Transfer = inl (λ h. cc)
seen_or_located Call = inl (λ h. cc)
seen_or_located Locate = inr refl

-- the place of the reference before is that of the request, if there is one
pub last_holds : (core : List ℕ) (kind : RequestKind) (at : AtFields) → (has_page kind ≡ true → HoldsAt core at) → HoldsLast core (last_by kind at)
last_holds core Fetch at h = h refl
last_holds core Indirect at h = h refl
last_holds core Odd at h = tt
last_holds core Read at h = h refl
last_holds core Write at h = h refl
last_holds core Transfer at h = tt
last_holds core Call at h = tt
last_holds core Locate at h = tt

-- fault numbers of refusals
violation_number : (n : ℕ) → n ≡ 20 → n ≡ 17 → ⊥
violation_number n e h = omega arith

violation_apart : (acv : ℕ) (v : Result Spot Refusal) → v ≡ Err (violation acv) → v ≡ Err absence → ⊥
violation_apart acv v e f =
    let k : violation acv ≡ absence = cc in
    violation_number (violation acv).number refl (ap (λ (r : Refusal). r.number) k)

not_lacking : (v : Result Spot Refusal) (spot : Spot) → v ≡ Ok spot → v ≡ Err absence → ⊥
not_lacking v spot e f = cc

module _ (core : List ℕ) (frames : ℕ) (laid : IsLaid core frames) where
  by_tests : (seg w : ℕ) (d : SdwFields) → core_sdw core booted_dbr seg ≡ Ok d → (a b : Bool) → is_within_bound d w ≡ b → when_ordered a (place_within b (core_spot core booted_dbr d seg w)) ≡ Err absence → IsAbsent core seg (w / 1024)
  by_tests seg w d live true true inside h =
      let p = page_of_word core frames laid seg w d live inside in
      ⊎_elim (λ e. record { page_is = p; word = e }) (λ k. absurd (not_lacking _ _ (resident_spot core frames laid seg w k.0 d live inside k.1) h)) (laid.pages seg (w / 1024) p)
  by_tests seg w d live true false inside h = absurd (violation_apart 15 _ refl h)
  by_tests seg w d live false b inside h = absurd (violation_apart 0 _ refl h)

  lacks_by : (seg w : ℕ) (v : Result SdwFields Refusal) → core_sdw core booted_dbr seg ≡ v → place_by v (λ d. core_spot core booted_dbr d seg w) w ≡ Err absence → IsAbsent core seg (w / 1024)
  lacks_by seg w (Err why) live h =
      let k : why ≡ absence = cc in
      absurd (laid.dead seg why live (ap (λ (r : Refusal). r.number) k))
  lacks_by seg w (Ok d) live h = by_tests seg w d live (has_ordered_brackets d) (is_within_bound d w) refl h

  -- a word without a place is of a page that is in no frame
  pub lacks_page : (seg w : ℕ) → PageIsAbsent core seg w → IsAbsent core seg (w / 1024)
  unfolding place
  lacks_page seg w h = lacks_by seg w (core_sdw core booted_dbr seg) refl h

  module _ (kept : ℕ → ℕ → ℕ) (g : RegsFields) (dbr : g.dbr ≡ booted_dbr) (start : Flat) where
    abbrev M : List ℕ → Flat → Type 0
    M now f = StandsFor core frames laid kept now f

    abbrev Pair : Spot → Spot → Type 0
    Pair p q = IsPair core frames laid kept p q

    abbrev pub Stand : Midstep (List ℕ) → Midstep Flat → Type 0
    Stand x y = AreMids M Pair start x y

    mirrors : Mirrors core_store flat_store g.dbr M Pair (PageIsAbsent core)
    mirrors =
        subst (λ (d : DbrFields). Mirrors core_store flat_store d M Pair (PageIsAbsent core)) (sym dbr) (booted_mirrors core frames laid kept)

    -- the page of an answered reference is in a frame
    answered_holds : (x : Midstep (List ℕ)) (y : Midstep Flat) → Stand x y → (q : Request) → is_target q.kind ≡ false → 1 ≤ q.count → (d : SdwFields) → core_sdw x.store g.dbr q.at.seg ≡ Ok d → (spots : List Spot) → spots_of_request core_store x.store g.dbr d q ≡ Ok spots → HoldsAt core q.at
    answered_holds x y k q plain some d live spots found page absent =
        let p = places_placed core_store g x.store d q spots plain some found in
        let matching = k.mirrors.matching in
        let here : core_sdw x.store booted_dbr q.at.seg ≡ Ok d = subst (λ (b : DbrFields). core_sdw x.store b q.at.seg ≡ Ok d) dbr live in
        let first : core_sdw core booted_dbr q.at.seg ≡ Ok d = sym (same_sdw core booted_dbr x.store matching q.at.seg) ∙ here in
        let same = same_spot_of core booted_dbr x.store matching q.at.seg q.at.word d first p.inside in
        let none = absent_spot core frames laid q.at.seg q.at.word d first p.inside absent in
        let there : core_spot x.store booted_dbr d q.at.seg q.at.word ≡ Ok p.spot = subst (λ (b : DbrFields). core_spot x.store b d q.at.seg q.at.word ≡ Ok p.spot) dbr p.found in
        not_lacking _ p.spot there (same ∙ none)

    -- the request is refused with a page fault
    pub record IsCutHere (q : Request) (f : Fault) : Type 0 where
      pub absent : IsAbsent core q.at.seg (q.at.word / 1024)
      pub seg : f.at.seg ≡ q.at.seg
      pub page : f.at.word / 1024 ≡ q.at.word / 1024

    fault_place : (x : Midstep (List ℕ)) (q : Request) → InPage q → (t : ServeResult (List ℕ)) → IsReplied core_store g x q t → (f : Fault) → t.reply ≡ Err f → (f.at.seg ≡ q.at.seg) × (f.at.word / 1024 ≡ q.at.word / 1024)
    fault_place x q inside t (is_refused why w e low high cause) f h =
        let reply : t.reply ≡ Err (fault_by why (record { seg = q.at.seg; word = w; ring = q.at.ring })) = ap (λ (s : ServeResult (List ℕ)). s.reply) e in
        let same : fault_by why (record { seg = q.at.seg; word = w; ring = q.at.ring }) ≡ f = cc in
        let word : w ≡ f.at.word = ap (λ (x : Fault). x.at.word) same in
        let fits = inside.0 in
        (sym (ap (λ (x : Fault). x.at.seg) same), omega arith)
    fault_place x q inside t (is_answered a reply refs d live ordered spots found) f h = cc

    cut_here : (x : Midstep (List ℕ)) (q : Request) → InPage q → (f : Fault) → (serve core_store g x q).reply ≡ Err f → PageIsAbsent core f.at.seg f.at.word → IsCutHere q f
    cut_here x q inside f h lacks =
        let at = fault_place x q inside (serve core_store g x q) (serve_replied core_store g x q inside.1) f h in
        let seg = at.0 in
        let page = at.1 in
        let absent = lacks_page f.at.seg f.at.word lacks in
        record {
          absent = subst (λ (n : ℕ). IsAbsent core n (q.at.word / 1024)) seg (subst (λ (n : ℕ). IsAbsent core f.at.seg n) page absent);
          seg = seg;
          page = page;
        }

    -- a request of a step
    pub data IsOn {A : Type 0} (x : Midstep (List ℕ)) (y : Midstep Flat) (q : Request) (next : Result Answer Fault → Act A) : Type 0 where
      goes_on : (a : Answer) → (serve core_store g x q).reply ≡ Ok a → (serve flat_store g y q).reply ≡ Ok a → Stand (serve core_store g x q).mid (serve flat_store g y q).mid → (has_page q.kind ≡ true → touches q.kind ≡ true) → IsOn x y q next
      is_over : (v : Result Answer Fault) → (serve core_store g x q).reply ≡ v → IsOver (next v) → IsThere v → IsOn x y q next
      is_away : (f : Fault) → (serve core_store g x q).reply ≡ Err f → f.number ≡ 17 → IsOver (next (Err f)) → IsCutHere q f → IsOn x y q next

    on_reply : {A : Type 0} (post : A → Type 0) (stop : Fault → A → Type 0) (R : A → A → Type 0) (x : Midstep (List ℕ)) (y : Midstep Flat) (q : Request) (next : Result Answer Fault → Act A) → Asks post stop R (ask q next) → (serve core_store g x q).reply ≡ (serve flat_store g y q).reply → Stand (serve core_store g x q).mid (serve flat_store g y q).mid → ((f : Fault) → (serve core_store g x q).reply ≡ Err f → f.number ≢ 17) → (v : Result Answer Fault) → (serve core_store g x q).reply ≡ v → IsOn x y q next
    on_reply post stop R x y q next asks both mids others (Ok a) e =
        ⊎_elim (λ seen. goes_on a e (sym both ∙ e) mids seen) (λ located. is_over (Ok a) e (two_over R (next (Ok a)) (asks.3 located a a (record { sdw = refl; words = refl; first = refl }))) tt) (seen_or_located q.kind)
    on_reply post stop R x y q next asks both mids others (Err f) e =
        is_over (Err f) e (stops_over stop f (next (Err f)) (asks.1 f)) (others f e)

    on_served : {A : Type 0} (post : A → Type 0) (stop : Fault → A → Type 0) (R : A → A → Type 0) (x : Midstep (List ℕ)) (y : Midstep Flat) (q : Request) (next : Result Answer Fault → Act A) → Asks post stop R (ask q next) → InPage q → IsPageFaultServed M Pair (PageIsAbsent core) start q.kind x (serve core_store g x q) (serve flat_store g y q) → IsOn x y q next
    on_served post stop R x y q next asks inside (alike e mids others) =
        on_reply post stop R x y q next asks e mids others _ refl
    on_served post stop R x y q next asks inside (cut f e is lacks mid) =
        is_away f e is (stops_over stop f (next (Err f)) (asks.1 f)) (cut_here x q inside f e lacks)
    on_served post stop R x y q next asks inside (told_place located a b e f near mids) =
        is_over (Ok a) e (two_over R (next (Ok a)) (asks.3 located a a (record { sdw = refl; words = refl; first = refl }))) tt

    pub one_request : {A : Type 0} (post : A → Type 0) (stop : Fault → A → Type 0) (R : A → A → Type 0) (x : Midstep (List ℕ)) (y : Midstep Flat) (q : Request) (next : Result Answer Fault → Act A) → Asks post stop R (ask q next) → InPage q → Stand x y → IsOn x y q next
    one_request post stop R x y q next asks inside k =
        on_served post stop R x y q next asks inside (serve_mirrors core_store flat_store g M Pair (PageIsAbsent core) mirrors start x y k q inside.1)

    -- a target has no page
    target_by : (x : Midstep (List ℕ)) (y : Midstep Flat) → Stand x y → (q : Request) → is_target q.kind ≡ true → (t : ServeResult (List ℕ)) → IsReplied core_store g x q t → (f : Fault) → t.reply ≡ Err f → f.number ≢ 17
    target_by x y k q target t (is_refused why w e low high cause) f h number =
        let reply : t.reply ≡ Err (fault_by why (record { seg = q.at.seg; word = w; ring = q.at.ring })) = ap (λ (s : ServeResult (List ℕ)). s.reply) e in
        let same : fault_by why (record { seg = q.at.seg; word = w; ring = q.at.ring }) ≡ f = cc in
        target_number core_store g x q why w (λ other live. mirrors.dead x.store y.store k.mirrors q.at.seg other live) target cause (ap (λ (x : Fault). x.number) same ∙ number)
    target_by x y k q target t (is_answered a reply refs d live ordered spots found) f h number = cc

    pub target_there : (x : Midstep (List ℕ)) (y : Midstep Flat) → Stand x y → (q : Request) → InPage q → is_target q.kind ≡ true → (f : Fault) → (serve core_store g x q).reply ≡ Err f → f.number ≢ 17
    target_there x y k q inside target f h =
        target_by x y k q target (serve core_store g x q) (serve_replied core_store g x q inside.1) f h

    -- the reference that an answered request records, and its page
    pub record IsRead (x : Midstep (List ℕ)) (q : Request) : Type 0 where
      pub refs : (serve core_store g x q).mid.refs ≡ with_reference q.kind q x.refs
      pub holds : has_page q.kind ≡ true → HoldsAt core q.at

    read_by : (x : Midstep (List ℕ)) (y : Midstep Flat) → Stand x y → (q : Request) → InPage q → IsReplied core_store g x q (serve core_store g x q) → (a : Answer) → (serve core_store g x q).reply ≡ Ok a → IsRead x q
    read_by x y k q inside (is_refused why w e low high cause) a h =
        let reply = ap (λ (s : ServeResult (List ℕ)). s.reply) e in
        absurd (not_answered _ _ a reply h)
      where
        not_answered : (v : Result Answer Fault) (f : Fault) (a : Answer) → v ≡ Err f → v ≡ Ok a → ⊥
        not_answered v f a e h = cc
    read_by x y k q inside (is_answered b reply refs d live ordered spots found) a h =
        record { refs = refs; holds = λ page. answered_holds x y k q (target_page q.kind page) inside.1 d live spots found }

    pub was_read : (x : Midstep (List ℕ)) (y : Midstep Flat) → Stand x y → (q : Request) → InPage q → (a : Answer) → (serve core_store g x q).reply ≡ Ok a → IsRead x q
    was_read x y k q inside a h = read_by x y k q inside (serve_replied core_store g x q inside.1) a h

    -- a reference to the page of the reference before
    and_false : (a b : Bool) → a ≡ true → (a && b) ≡ false → b ≡ false
    and_false true b e h = h
    and_false false b e h = cc

    stale_by : (last : Option AtFields) (at : AtFields) → fresh_by last at ≡ false → HoldsLast core last → HoldsAt core at
    stale_by None at h holds = cc
    stale_by (Some last) at h holds =
        let same = and_parts (last.seg == at.seg) (last.word / 1024 == at.word / 1024) (not-false (same_page last at) h) in
        subst (λ (n : ℕ). Holds core n (at.word / 1024)) (eqb-true last.seg at.seg same.0) (subst (λ (n : ℕ). Holds core last.seg n) (eqb-true (last.word / 1024) (at.word / 1024) same.1) holds)

    stale_page : (b : Bool) (x : Midstep (List ℕ)) (y : Midstep Flat) → Stand x y → (q : Request) (last : Option AtFields) → InPage q → has_page q.kind ≡ b → fresh last q ≡ false → HoldsLast core last → (f : Fault) → (serve core_store g x q).reply ≡ Err f → f.number ≡ 17 → IsCutHere q f → ⊥
    stale_page true x y k q last inside page h holds f e number here =
        stale_by last q.at (and_false (has_page q.kind) (fresh_by last q.at) page h) holds here.absent.page_is here.absent.word
    stale_page false x y k q last inside page h holds f e number here =
        target_there x y k q inside (page_target q.kind page) f e number

    pub stale : (x : Midstep (List ℕ)) (y : Midstep Flat) → Stand x y → (q : Request) (last : Option AtFields) → InPage q → fresh last q ≡ false → HoldsLast core last → (f : Fault) → (serve core_store g x q).reply ≡ Err f → f.number ≡ 17 → IsCutHere q f → ⊥
    stale x y k q last inside h holds f e number here =
        stale_page (has_page q.kind) x y k q last inside refl h holds f e number here
