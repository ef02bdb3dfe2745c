-- What is kept is still right when the memories change and core does not.
use Rattle.std.proofs.Common.{ℕ, zero, suc, ◌≡◌, ◌+◌, ◌*◌, ◌/◌, ◌<◌, ◌⊎◌, true, List, [], ◌∷◌, length, Contains, refl, sym, ap, ◌∙◌, subst, inl, inr, arith, set, get_or}
use Rattle.m36_desc.specs.Fields.{SdwFields, PtwFields, DbrFields}
use Rattle.m36_associative.specs.Watched.{is_watched}
use Rattle.m36_associative.specs.Right.{IsWatched, IsKeptDescriptor, IsKeptTableWord, DescribesPage, IsPageInFront, IsFetching, AreCoherent}
use Rattle.m36_associative.specs.declared.front.Fetching.{Fetching}
use Rattle.m36_associative.specs.declared.front.Page.{Page}
use Rattle.m36_associative.specs.declared.kept.SdwEntry.{SdwEntry}
use Rattle.m36_associative.specs.declared.kept.PtwEntry.{PtwEntry}
use Rattle.m36_associative.specs.declared.memories.Memories.{Memories}

-- more addresses are watched
abbrev pub WatchesMore : List ℕ → List ℕ → Type 0
WatchesMore old new = (b : ℕ) → is_watched old b ≡ true → is_watched new b ≡ true

module _ (core : List ℕ) (dbr : DbrFields) (words tables words' tables' : List ℕ) (w : WatchesMore words words') (t : WatchesMore tables tables') where
  pub watches_on : (seg : ℕ) → IsWatched core dbr words tables seg → IsWatched core dbr words' tables' seg
  watches_on seg h = record { even = λ a e. w a (h.even a e); odd = λ a e. w _ (h.odd a e); directory = λ e. t _ (h.directory e) }

  descriptor_on : (seg : ℕ) (d : SdwFields) → IsKeptDescriptor core dbr words tables seg d → IsKeptDescriptor core dbr words' tables' seg d
  descriptor_on seg d h = record { found = h.found; watches = watches_on seg h.watches }

  table_word_on : (a : ℕ) (p : PtwFields) → IsKeptTableWord core dbr words tables a p → IsKeptTableWord core dbr words' tables' a p
  table_word_on a p h = record { inside = h.inside; finds = h.finds; watches = t a h.watches }

  page_on : (p : Page) (seg page : ℕ) → DescribesPage core dbr words tables p seg page → DescribesPage core dbr words' tables' p seg page
  page_on p seg page k =
      record { sdw = k.sdw; found = k.found; watches = watches_on seg k.watches; table = λ u. t _ (k.table u); low = k.low; place = k.place; passed = k.passed; used = k.used; modified = k.modified; page_rights = k.page_rights }

  fetching_on : (f : Fetching) → IsFetching core dbr words tables f → IsFetching core dbr words' tables' f
  fetching_on f k =
      record { page = k.page; is = page_on k.page f.seg (f.first / 1024) k.is; first = k.first; low = k.low; base = k.base; len = k.len; above = k.above; below = k.below; privileged = k.privileged }

-- each entry was kept before, or is right
pub kept_on : (core : List ℕ) (dbr : DbrFields) (m m' : Memories) → AreCoherent core dbr m → WatchesMore m.words m'.words → WatchesMore m.tables m'.tables
    → ((e : SdwEntry) → Contains m'.sdws e → Contains m.sdws e ⊎ ((seg : ℕ) → e.key ≡ seg + 1 → IsKeptDescriptor core dbr m'.words m'.tables seg e.sdw))
    → ((e : PtwEntry) → Contains m'.ptws e → Contains m.ptws e ⊎ ((a : ℕ) → e.key ≡ a + 1 → IsKeptTableWord core dbr m'.words m'.tables a e.ptw))
    → ((p : Page) → Contains m'.pages p → Contains m.pages p ⊎ IsPageInFront core dbr m'.words m'.tables p)
    → (0 < m'.fetching.len → IsFetching core dbr m.words m.tables m'.fetching)
    → AreCoherent core dbr m'
kept_on core dbr m m' h w t s q f z =
    record {
      descriptors = λ e seg c n. elim (s e c) [ inl k ↦ descriptor_on core dbr m.words m.tables m'.words m'.tables w t seg e.sdw (h.descriptors e seg k n) | inr k ↦ k seg n ];
      table_words = λ e a c n. elim (q e c) [ inl k ↦ table_word_on core dbr m.words m.tables m'.words m'.tables w t a e.ptw (h.table_words e a k n) | inr k ↦ k a n ];
      pages = λ p c. elim (f p c) [ inl k ↦ (λ seg page b e. page_on core dbr m.words m.tables m'.words m'.tables w t p seg page (h.pages p k seg page b e)) | inr k ↦ k ];
      fetching = λ n. fetching_on core dbr m.words m.tables m'.words m'.tables w t m'.fetching (z n);
    }

-- the page that is fetched from is the same
same_fetching : (core : List ℕ) (dbr : DbrFields) (m m' : Memories) → AreCoherent core dbr m → m'.fetching ≡ m.fetching → 0 < m'.fetching.len → IsFetching core dbr m.words m.tables m'.fetching
same_fetching core dbr m m' h e = subst (λ (f : Fetching). 0 < f.len → IsFetching core dbr m.words m.tables f) (sym e) h.fetching

-- no page is fetched from
pub no_fetching : (core : List ℕ) (dbr : DbrFields) (words tables : List ℕ) (f : Fetching) → f.len ≡ 0 → 0 < f.len → IsFetching core dbr words tables f
no_fetching core dbr words tables f e n = absurd (omega arith)

-- the same, with other pages in front
pub with_pages : (core : List ℕ) (dbr : DbrFields) (m m' : Memories) → AreCoherent core dbr m → m'.words ≡ m.words → m'.tables ≡ m.tables → m'.sdws ≡ m.sdws → m'.ptws ≡ m.ptws
    → ((p : Page) → Contains m'.pages p → Contains m.pages p ⊎ IsPageInFront core dbr m.words m.tables p)
    → (0 < m'.fetching.len → IsFetching core dbr m.words m.tables m'.fetching)
    → AreCoherent core dbr m'
with_pages core dbr m m' h e f g i k z =
    kept_on core dbr m m' h (λ b c. rw e c) (λ b c. rw f c)
    (λ s c. inl (subst (λ (x : List SdwEntry). Contains x s) g c))
    (λ a c. inl (subst (λ (x : List PtwEntry). Contains x a) i c))
    (λ p c. elim (k p c) [ inl j ↦ inl j | inr j ↦ inr (rw (e, f) j) ])
    z

-- the same, with another page to fetch from
pub with_fetching : (core : List ℕ) (dbr : DbrFields) (m m' : Memories) → AreCoherent core dbr m → m'.words ≡ m.words → m'.tables ≡ m.tables → m'.sdws ≡ m.sdws → m'.ptws ≡ m.ptws → m'.pages ≡ m.pages → (0 < m'.fetching.len → IsFetching core dbr m.words m.tables m'.fetching) → AreCoherent core dbr m'
with_fetching core dbr m m' h e f g i j z = with_pages core dbr m m' h e f g i (λ p c. inl (subst (λ (x : List Page). Contains x p) j c)) z

-- key 0 is that of no page
pub no_key : (core : List ℕ) (dbr : DbrFields) (words tables : List ℕ) (p : Page) → p.key ≡ 0 → IsPageInFront core dbr words tables p
no_key core dbr words tables p e seg page b k = absurd (omega arith)

-- nothing is kept
pub nothing_kept : (core : List ℕ) (dbr : DbrFields) (m : Memories) → ((e : SdwEntry) → Contains m.sdws e → e.key ≡ 0) → ((e : PtwEntry) → Contains m.ptws e → e.key ≡ 0) → ((p : Page) → Contains m.pages p → p.key ≡ 0) → m.fetching.len ≡ 0 → AreCoherent core dbr m
nothing_kept core dbr m s t g z =
    record {
      descriptors = λ e seg c n. absurd (let none = s e c in omega arith);
      table_words = λ e a c n. absurd (let none = t e c in omega arith);
      pages = λ p c. no_key core dbr m.words m.tables p (g p c);
      fetching = no_fetching core dbr m.words m.tables m.fetching z;
    }

-- the kept entries, one after another
same_item : {X : Type 0} (xs : List X) (k : ℕ) (d e : X) → k < length xs → get_or xs k d ≡ get_or xs k e
same_item [] k d e b = absurd (omega arith)
same_item (x ∷ xs) zero d e b = refl
same_item (x ∷ xs) (suc k) d e b = same_item xs k d e (omega arith)

pub is_item : {X : Type 0} (xs : List X) (k : ℕ) (e x : X) → k < length xs → x ≡ get_or xs k x → get_or xs k e ≡ e → e ≡ x
is_item xs k e x b i j = sym j ∙ same_item xs k e x b ∙ sym i

pub kept_item : {X : Type 0} (xs : List X) (k : ℕ) (x : X) → k < length xs → Contains xs (get_or xs k x)
kept_item xs k x b = (k, b, same_item xs k (get_or xs k x) x b)

pub before_or_here : (k i : ℕ) → k < i + 1 → (k < i) ⊎ (k ≡ i)
before_or_here zero zero b = inr refl
before_or_here zero (suc i) b = inl (omega arith)
before_or_here (suc k) zero b = absurd (omega arith)
before_or_here (suc k) (suc i) b = elim (before_or_here k i (omega arith)) [ inl l ↦ inl (omega arith) | inr e ↦ inr (ap suc e) ]

-- everything that is kept is watched again, and no page is in front
pub watched_anew : (core : List ℕ) (dbr : DbrFields) (m : Memories) (words tables : List ℕ) → AreCoherent core dbr m → ((p : Page) → Contains m.pages p → p.key ≡ 0) → m.fetching.len ≡ 0
    → ((e : SdwEntry) (seg : ℕ) → Contains m.sdws e → e.key ≡ seg + 1 → IsWatched core dbr words tables seg) → ((e : PtwEntry) (a : ℕ) → Contains m.ptws e → e.key ≡ a + 1 → is_watched tables a ≡ true)
    → AreCoherent core dbr (record m { words = words; tables = tables })
watched_anew core dbr m words tables h none z s t =
    record {
      descriptors = λ e seg c n. record { found = (h.descriptors e seg c n).found; watches = s e seg c n };
      table_words = λ e a c n. record { inside = (h.table_words e a c n).inside; finds = (h.table_words e a c n).finds; watches = t e a c n };
      pages = λ p c. no_key core dbr words tables p (none p c);
      fetching = no_fetching core dbr words tables m.fetching z;
    }

-- more addresses are watched
pub with_watches : (core : List ℕ) (dbr : DbrFields) (m m' : Memories) → AreCoherent core dbr m → WatchesMore m.words m'.words → WatchesMore m.tables m'.tables → m'.sdws ≡ m.sdws → m'.ptws ≡ m.ptws → m'.pages ≡ m.pages → m'.fetching ≡ m.fetching → AreCoherent core dbr m'
with_watches core dbr m m' h w t g i j z =
    kept_on core dbr m m' h w t
    (λ s c. inl (subst (λ (x : List SdwEntry). Contains x s) g c))
    (λ a c. inl (subst (λ (x : List PtwEntry). Contains x a) i c))
    (λ p c. inl (subst (λ (x : List Page). Contains x p) j c))
    (same_fetching core dbr m m' h z)

-- an element of a list after one was set
module _ {X : Type 0} where
  contains_at : (xs : List X) (i : ℕ) (y p : X) (k : ℕ) → k < length (set xs i y) → get_or (set xs i y) k p ≡ p → Contains xs p ⊎ (p ≡ y)
  contains_at [] i y p k b e = inl (k, b, e)
  contains_at (x ∷ xs) zero y p zero b e = inr (sym e)
  contains_at (x ∷ xs) zero y p (suc k) b e = inl (suc k, b, e)
  contains_at (x ∷ xs) (suc i) y p zero b e = inl (0, omega arith, e)
  contains_at (x ∷ xs) (suc i) y p (suc k) b e = elim (contains_at xs i y p k (omega arith) e) [ inl c ↦ inl (suc c.0, (let within = c.1 in omega arith), c.2) | inr s ↦ inr s ]

  contains_set : (xs : List X) (i : ℕ) (y p : X) → Contains (set xs i y) p → Contains xs p ⊎ (p ≡ y)
  contains_set xs i y p c = contains_at xs i y p c.0 c.1 c.2

-- a page is put in front
pub with_page : (core : List ℕ) (dbr : DbrFields) (m m' : Memories) (i : ℕ) (y : Page) → AreCoherent core dbr m → IsPageInFront core dbr m.words m.tables y → m'.pages ≡ set m.pages i y → m'.words ≡ m.words → m'.tables ≡ m.tables → m'.sdws ≡ m.sdws → m'.ptws ≡ m.ptws → m'.fetching.len ≡ 0 → AreCoherent core dbr m'
with_page core dbr m m' i y h r j e f g k z =
    with_pages core dbr m m' h e f g k
    (λ p c. elim (contains_set m.pages i y p (subst (λ (x : List Page). Contains x p) j c)) [ inl d ↦ inl d | inr s ↦ inr (subst (λ (q : Page). IsPageInFront core dbr m.words m.tables q) (sym s) r) ])
    (no_fetching core dbr m.words m.tables m'.fetching z)

-- a descriptor is kept
pub with_descriptor : (core : List ℕ) (dbr : DbrFields) (m m' : Memories) (i seg : ℕ) (y : SdwEntry) → AreCoherent core dbr m → y.key ≡ seg + 1 → IsKeptDescriptor core dbr m.words m.tables seg y.sdw → m'.sdws ≡ set m.sdws i y → m'.words ≡ m.words → m'.tables ≡ m.tables → m'.ptws ≡ m.ptws → m'.pages ≡ m.pages → m'.fetching ≡ m.fetching → AreCoherent core dbr m'
with_descriptor core dbr m m' i seg y h n r g e f k j z =
    let r' : IsKeptDescriptor core dbr m'.words m'.tables seg y.sdw = rw (e, f) r in
    kept_on core dbr m m' h (λ b c. rw e c) (λ b c. rw f c)
    (λ s c. elim (contains_set m.sdws i y s (subst (λ (x : List SdwEntry). Contains x s) g c)) [
      | inl d ↦ inl d
      | inr same ↦ inr (λ q l. subst (λ (v : SdwEntry). v.key ≡ q + 1 → IsKeptDescriptor core dbr m'.words m'.tables q v.sdw) (sym same) (λ o. let there : seg ≡ q = omega arith in subst (λ (u : ℕ). IsKeptDescriptor core dbr m'.words m'.tables u y.sdw) there r') l)
    ])
    (λ a c. inl (subst (λ (x : List PtwEntry). Contains x a) k c))
    (λ p c. inl (subst (λ (x : List Page). Contains x p) j c))
    (same_fetching core dbr m m' h z)

-- a PTW is kept
pub with_table_word : (core : List ℕ) (dbr : DbrFields) (m m' : Memories) (i a : ℕ) (y : PtwEntry) → AreCoherent core dbr m → y.key ≡ a + 1 → IsKeptTableWord core dbr m.words m.tables a y.ptw → m'.ptws ≡ set m.ptws i y → m'.words ≡ m.words → m'.tables ≡ m.tables → m'.sdws ≡ m.sdws → m'.pages ≡ m.pages → m'.fetching ≡ m.fetching → AreCoherent core dbr m'
with_table_word core dbr m m' i a y h n r g e f k j z =
    let r' : IsKeptTableWord core dbr m'.words m'.tables a y.ptw = rw (e, f) r in
    kept_on core dbr m m' h (λ b c. rw e c) (λ b c. rw f c)
    (λ s c. inl (subst (λ (x : List SdwEntry). Contains x s) k c))
    (λ s c. elim (contains_set m.ptws i y s (subst (λ (x : List PtwEntry). Contains x s) g c)) [
      | inl d ↦ inl d
      | inr same ↦ inr (λ q l. subst (λ (v : PtwEntry). v.key ≡ q + 1 → IsKeptTableWord core dbr m'.words m'.tables q v.ptw) (sym same) (λ o. let there : a ≡ q = omega arith in subst (λ (u : ℕ). IsKeptTableWord core dbr m'.words m'.tables u y.ptw) there r') l)
    ])
    (λ p c. inl (subst (λ (x : List Page). Contains x p) j c))
    (same_fetching core dbr m m' h z)

-- a key belongs to only one page
pub only_page : (core : List ℕ) (dbr : DbrFields) (words tables : List ℕ) (p : Page) (seg page : ℕ) → page < 256 → p.key ≡ seg * 256 + page + 1 → DescribesPage core dbr words tables p seg page → IsPageInFront core dbr words tables p
only_page core dbr words tables p seg page b e h s q c f =
    let same_seg : seg ≡ s = omega arith in
    let same_page : page ≡ q = omega arith in
    subst (λ (x : ℕ). DescribesPage core dbr words tables p s x) same_page (subst (λ (x : ℕ). DescribesPage core dbr words tables p x page) same_seg h)
