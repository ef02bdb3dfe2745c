-- What a page in front answers, and that these answers are right.
use Rattle.std.proofs.Common.{ℕ, ◌≡◌, ◌+◌, ◌-◌, ◌/◌, ◌%◌, ◌<◌, ◌≤◌, ◌^◌, Bool, true, false, not, ◌==◌, nat_lt, List, [], ◌∷◌, length, None, Ok, refl, sym, ap, subst, ◌∙◌, arith, eq-eqb}
use Rattle.std.proofs.lemmas.Bool.{le-ltb}
use Rattle.m36_desc.specs.Fields.{SdwFields, DbrFields}
use Rattle.m36_desc.specs.Access.{first_violation, has_ordered_brackets, read_rows, write_rows, fetch_rows}
use Rattle.m36_model.specs.Place.{wrapped_address}
use Rattle.m36_associative.specs.Right.{MayRead, MayWrite, MayFetch, MayTransferTo, DescribesPage, IsFetching, Answers}
use Rattle.m36_associative.specs.declared.front.Page.{Page}
use Rattle.m36_associative.specs.declared.front.Fetching.{Fetching}
use Rattle.m36_associative.proofs.Found.{marks_of}

pub may_read : (d : SdwFields) (ring : ℕ) (same : Bool) → has_ordered_brackets d ≡ true → d.readable ≡ true → ring < d.r2 + 1 → first_violation (read_rows d ring same) ≡ None
may_read d ring same o r h =
    let low : nat_lt d.r2 ring ≡ false = le-ltb d.r2 ring (omega arith) in
    rw (o, low, r) refl

pub may_write : (d : SdwFields) (ring : ℕ) → has_ordered_brackets d ≡ true → d.writable ≡ true → ring < d.r1 + 1 → first_violation (write_rows d ring) ≡ None
may_write d ring o r h =
    let low : nat_lt d.r1 ring ≡ false = le-ltb d.r1 ring (omega arith) in
    rw (o, low, r) refl

pub may_fetch : (d : SdwFields) (ring : ℕ) → has_ordered_brackets d ≡ true → d.executable ≡ true → d.r1 ≤ ring → ring < d.r2 + 1 → first_violation (fetch_rows d ring) ≡ None
may_fetch d ring o r k h =
    let above : nat_lt ring d.r1 ≡ false = le-ltb ring d.r1 k in
    let low : nat_lt d.r2 ring ≡ false = le-ltb d.r2 ring (omega arith) in
    rw (o, above, low, r) refl

-- a ring that may fetch from a segment may transfer there from the same ring
go_by : (o a b e s : Bool) → s ≡ true → first_violation ((not o, 0) ∷ ((a, 1) ∷ ((b, 1) ∷ ((not e, 2) ∷ [])))) ≡ None → first_violation ((not o, 0) ∷ ((a, 1) ∷ ((b, 1) ∷ ((not e, 2) ∷ ((not s, 12) ∷ []))))) ≡ None
go_by o a b e false k h = absurd (cc)
go_by false a b e true k h = absurd (cc)
go_by true true b e true k h = absurd (cc)
go_by true false true e true k h = absurd (cc)
go_by true false false false true k h = absurd (cc)
go_by true false false true true k h = refl

pub may_go : (d : SdwFields) (ring : ℕ) → MayFetch ring d → MayTransferTo ring d
may_go d ring h = go_by (has_ordered_brackets d) (nat_lt ring d.r1) (nat_lt d.r2 ring) d.executable (ring == ring) (eq-eqb ring ring refl) h

module _ (core : List ℕ) (dbr : DbrFields) (words tables : List ℕ) (p : Page) (seg word : ℕ) where
  -- a page in front answers
  answers : (Rights : SdwFields → Type 0) (write : Bool) (count : ℕ) (k : DescribesPage core dbr words tables p seg (word / 1024)) → (write ≡ true → 0 < p.write_below) → 1 ≤ count → word % 1024 + count ≤ p.end → Rights k.sdw → Answers core dbr Rights write seg word count (p.base + word % 1024)
  answers Rights write count k m s e r =
      let small : length core ≤ 2 ^ 24 = k.page_rights.small in
      let inside : p.base + p.end ≤ length core = k.page_rights.inside (omega arith) in
      let same : wrapped_address (p.base + word % 1024) ≡ p.base + word % 1024 = omega arith in
      record {
        sdw = k.sdw;
        found = k.found;
        rights = r;
        bound = k.page_rights.bound word refl (omega arith);
        at = k.place word refl ∙ ap Ok same;
        small = small;
        inside = omega arith;
        marked = marks_of core dbr words tables p seg word write m k;
      }

  pub answers_read : (ring count : ℕ) → DescribesPage core dbr words tables p seg (word / 1024) → 1 ≤ count → word % 1024 + count ≤ p.end → ring < p.read_below → Answers core dbr (λ d. MayRead ring d × (p.r1 ≡ d.r1)) false seg word count (p.base + word % 1024)
  answers_read ring count k s e r = answers (λ d. MayRead ring d × (p.r1 ≡ d.r1)) false count k (λ w. absurd (cc)) s e (k.page_rights.reads ring r, k.page_rights.ring)

  pub answers_read_alone : (ring count : ℕ) → DescribesPage core dbr words tables p seg (word / 1024) → 1 ≤ count → word % 1024 + count ≤ p.end → ring < p.read_below → Answers core dbr (MayRead ring) false seg word count (p.base + word % 1024)
  answers_read_alone ring count k s e r = answers (MayRead ring) false count k (λ w. absurd (cc)) s e (k.page_rights.reads ring r)

  pub answers_write : (ring count : ℕ) → DescribesPage core dbr words tables p seg (word / 1024) → 1 ≤ count → word % 1024 + count ≤ p.end → ring < p.write_below → Answers core dbr (MayWrite ring) true seg word count (p.base + word % 1024)
  answers_write ring count k s e r = answers (MayWrite ring) true count k (λ w. omega arith) s e (k.page_rights.writes ring r)

  pub answers_fetch : (ring count : ℕ) → DescribesPage core dbr words tables p seg (word / 1024) → 1 ≤ count → word % 1024 + count ≤ p.end → p.r1 ≤ ring → ring < p.fetch_below → Answers core dbr (λ d. MayFetch ring d × (p.privileged ≡ d.privileged)) false seg word count (p.base + word % 1024)
  answers_fetch ring count k s e a r = answers (λ d. MayFetch ring d × (p.privileged ≡ d.privileged)) false count k (λ w. absurd (cc)) s e (k.page_rights.fetches ring a r, k.page_rights.privileged)

  pub answers_go : (ring count : ℕ) → DescribesPage core dbr words tables p seg (word / 1024) → 1 ≤ count → word % 1024 + count ≤ p.end → p.r1 ≤ ring → ring < p.fetch_below → Answers core dbr (MayTransferTo ring) false seg word count (p.base + word % 1024)
  answers_go ring count k s e a r = answers (MayTransferTo ring) false count k (λ w. absurd (cc)) s e (may_go k.sdw ring (k.page_rights.fetches ring a r))

-- the page that is fetched from answers a fetch, and a transfer
module _ (core : List ℕ) (dbr : DbrFields) (words tables : List ℕ) (f : Fetching) (k : IsFetching core dbr words tables f) (word : ℕ) where
  fetched_page : f.first ≤ word → word < f.first + f.len → DescribesPage core dbr words tables k.page f.seg (word / 1024)
  fetched_page a b =
      let most : k.page.end ≤ 1024 = k.is.page_rights.most in
      let len : f.len ≤ k.page.end = k.len in
      let whole : f.first % 1024 ≡ 0 = k.first in
      let same : f.first / 1024 ≡ word / 1024 = omega arith in
      subst (λ (n : ℕ). DescribesPage core dbr words tables k.page f.seg n) same k.is

  pub answers_fetched : f.first ≤ word → word < f.first + f.len → Answers core dbr (λ d. MayFetch f.ring d × (f.privileged ≡ d.privileged)) false f.seg word 1 (f.base + (word - f.first))
  answers_fetched a b =
      let most : k.page.end ≤ 1024 = k.is.page_rights.most in
      let len : f.len ≤ k.page.end = k.len in
      let whole : f.first % 1024 ≡ 0 = k.first in
      let offset : word % 1024 ≡ word - f.first = omega arith in
      let place : k.page.base + word % 1024 ≡ f.base + (word - f.first) = rw (offset, k.base) refl in
      let is : Answers core dbr (λ d. MayFetch f.ring d × (k.page.privileged ≡ d.privileged)) false f.seg word 1 (k.page.base + word % 1024) = answers_fetch core dbr words tables k.page f.seg word f.ring 1 (fetched_page a b) (omega arith) (omega arith) k.above k.below in
      subst (λ (a : ℕ). Answers core dbr (λ d. MayFetch f.ring d × (f.privileged ≡ d.privileged)) false f.seg word 1 a) place
      (subst (λ (b : Bool). Answers core dbr (λ d. MayFetch f.ring d × (b ≡ d.privileged)) false f.seg word 1 (k.page.base + word % 1024)) (sym k.privileged) is)

-- a fetch that is answered answers a transfer from the same ring
pub fetch_goes : (core : List ℕ) (dbr : DbrFields) (ring seg word count place : ℕ) (b : Bool) → Answers core dbr (λ d. MayFetch ring d × (b ≡ d.privileged)) false seg word count place → Answers core dbr (MayTransferTo ring) false seg word count place
fetch_goes core dbr ring seg word count place b h =
    record { sdw = h.sdw; found = h.found; rights = may_go h.sdw ring h.rights.0; bound = h.bound; at = h.at; small = h.small; inside = h.inside; marked = h.marked }
