-- Two stores, of which the first may lack words that the second has. A request, or a run, has the
-- same result over both, or the first store lacks a word, or both report a core address.
use Rattle.std.proofs.Common.{◌≡◌, refl, sym, ◌∙◌, ap, subst, arith}
use Rattle.std.specs.Prelude.{ℕ, zero, suc, ◌+◌, ◌≢◌, ◌≤◌, Bool, true, false, ◌==◌, List, [], ◌∷◌, ◌++◌, map, length, slice_get, Option, Some, None, Result, Ok, Err}
use Rattle.m36_desc.specs.Fields.{SdwFields, DbrFields}
use Rattle.m36_desc.specs.Access.{has_ordered_brackets}
use Rattle.m36_model.specs.Fields.{AtFields}
use Rattle.m36_model.specs.Registers.{RegsFields}
use Rattle.m36_model.specs.Act.{RequestKind, Fetch, Indirect, Odd, Read, Write, Transfer, Call, Locate, Put, Request, Answer, Act, done, ask, and_then}
use Rattle.m36_model.specs.Store.{Spot, Change, Store, Midstep, ServeResult, ProgramResult, violation, fault_by, is_within_bound, spots_with, spots_from, spots_of, spots_of_request, bound_only, changes, change_of, refusing_violation, serve, serve_sdw, serve_rights, serve_places, with_reference, located_address, run}
use Rattle.m36_model.specs.Isolation.{EachTwo}
use Rattle.m36_model.specs.Residence.{absence}
use Rattle.m36_model.specs.declared.outcome.Fault.{Fault}
use Rattle.m36_model.specs.declared.outcome.Refusal.{Refusal}
use Rattle.m36_model.specs.declared.place.Reference.{Reference}
use Rattle.m36_isol.proofs.Rights.{denied_order}

-- a word of a segment: both stores have it, or the first lacks it
pub data IsSpotted (Pair : Spot → Spot → Type 0) (PageIsAbsent : ℕ → ℕ → Type 0) (seg w : ℕ) (r r' : Result Spot Refusal) : Type 0 where
  both : (p p' : Spot) → r ≡ Ok p → r' ≡ Ok p' → Pair p p' → IsSpotted Pair PageIsAbsent seg w r r'
  lacking : r ≡ Err absence → PageIsAbsent seg w → IsSpotted Pair PageIsAbsent seg w r r'

-- one change of two stores
pub record ArePaired (Pair : Spot → Spot → Type 0) (c d : Change) : Type 0 where
  pub spot : Pair c.spot d.spot
  pub part : c.part ≡ d.part
  pub value : c.value ≡ d.value

-- What holds of two stores, of which the second has no marks. M says which stores are related, and
-- Pair which spots are those of one word.
pub record Mirrors {S F : Type 0} (o : Store S) (o' : Store F) (dbr : DbrFields) (M : S → F → Type 0) (Pair : Spot → Spot → Type 0) (PageIsAbsent : ℕ → ℕ → Type 0) : Type 0 where
  pub sdw : (s : S) (f : F) → M s f → (seg : ℕ) → o.sdw s dbr seg ≡ o'.sdw f dbr seg
  pub dead : (s : S) (f : F) → M s f → (seg : ℕ) (why : Refusal) → o.sdw s dbr seg ≡ Err why → why.number ≢ 17
  pub spot : (s : S) (f : F) → M s f → (seg w : ℕ) (d : SdwFields) → o.sdw s dbr seg ≡ Ok d → has_ordered_brackets d ≡ true → is_within_bound d w ≡ true → IsSpotted Pair PageIsAbsent seg w (o.spot s dbr d seg w) (o'.spot f dbr d seg w)
  pub word : (s : S) (f : F) → M s f → (p p' : Spot) → Pair p p' → o.word s p ≡ o'.word f p'
  pub put : (s : S) (f : F) → M s f → (c d : List Change) → EachTwo (ArePaired Pair) c d → M (o.put s c) (o'.put f d)
  pub marked : (s : S) (f : F) → M s f → (kind : RequestKind) (seg w : ℕ) (d : SdwFields) → o.sdw s dbr seg ≡ Ok d → is_within_bound d w ≡ true → M (o.marked s dbr kind seg w) (o'.marked f dbr kind seg w)
  pub quiet : (f : F) (kind : RequestKind) (seg w : ℕ) → o'.marked f dbr kind seg w ≡ f

-- other fault numbers than that of a page fault
other_number : (n : ℕ) → n ≡ 20 → n ≢ 17
other_number n e h = omega arith

-- two lists, element by element
pub two_append : {A B : Type 0} (P : A → B → Type 0) (xs more : List A) (ys rest : List B) → EachTwo P xs ys → EachTwo P more rest → EachTwo P (xs ++ more) (ys ++ rest)
two_append P [] more [] rest h k = k
two_append P [] more (y ∷ ys) rest h k = absurd h
two_append P (x ∷ xs) more [] rest h k = absurd h
two_append P (x ∷ xs) more (y ∷ ys) rest h k = (h.0, two_append P xs more ys rest h.1 k)

pub two_lengths : {A B : Type 0} (P : A → B → Type 0) (xs : List A) (ys : List B) → EachTwo P xs ys → length xs ≡ length ys
two_lengths P [] [] h = refl
two_lengths P [] (y ∷ ys) h = absurd h
two_lengths P (x ∷ xs) [] h = absurd h
two_lengths P (x ∷ xs) (y ∷ ys) h = ap suc (two_lengths P xs ys h.1)

pub data AreAt {A B : Type 0} (P : A → B → Type 0) (x : Option A) (y : Option B) : Type 0 where
  neither : x ≡ None → y ≡ None → AreAt P x y
  two_at : (a : A) (b : B) → x ≡ Some a → y ≡ Some b → P a b → AreAt P x y

get_two : {A B : Type 0} (P : A → B → Type 0) (xs : List A) (ys : List B) (k : ℕ) → EachTwo P xs ys → AreAt P (slice_get xs k) (slice_get ys k)
get_two P [] [] k h = neither refl refl
get_two P [] (y ∷ ys) k h = absurd h
get_two P (x ∷ xs) [] k h = absurd h
get_two P (x ∷ xs) (y ∷ ys) zero h = two_at x y refl refl h.0
get_two P (x ∷ xs) (y ∷ ys) (suc k) h = get_two P xs ys k h.1

-- puts for related claims are related changes
change_by : (Pair : Spot → Spot → Type 0) (p : Put) (x y : Option Spot) (c d : List Change) → AreAt Pair x y → EachTwo (ArePaired Pair) c d → EachTwo (ArePaired Pair) (change_of p x c) (change_of p y d)
change_by Pair p x y c d (neither e f) h = rw (e, f) h
change_by Pair p x y c d (two_at a b e f pair) h =
    rw (e, f) (record { spot = pair; part = refl; value = refl }, h)

pub paired_changes : (Pair : Spot → Spot → Type 0) (claims others : List Spot) → EachTwo Pair claims others → (puts : List Put) → EachTwo (ArePaired Pair) (changes claims puts) (changes others puts)
unfolding changes
paired_changes Pair claims others h [] = tt
paired_changes Pair claims others h (p ∷ puts) =
    change_by Pair p (slice_get claims p.claim) (slice_get others p.claim) (changes claims puts) (changes others puts) (get_two Pair claims others p.claim h) (paired_changes Pair claims others h puts)

-- the spots of several words
pub data AreSpotted (Pair : Spot → Spot → Type 0) (PageIsAbsent : ℕ → ℕ → Type 0) (seg : ℕ) (r r' : Result (List Spot) (ℕ × Refusal)) : Type 0 where
  all_found : (ps qs : List Spot) → r ≡ Ok ps → r' ≡ Ok qs → EachTwo Pair ps qs → AreSpotted Pair PageIsAbsent seg r r'
  refused_alike : (w : ℕ) (why : Refusal) → r ≡ Err (w, why) → r' ≡ Err (w, why) → why.number ≢ 17 → AreSpotted Pair PageIsAbsent seg r r'
  one_lacking : (w : ℕ) → r ≡ Err (w, absence) → PageIsAbsent seg w → AreSpotted Pair PageIsAbsent seg r r'

next_found : (Pair : Spot → Spot → Type 0) (PageIsAbsent : ℕ → ℕ → Type 0) (seg : ℕ) (p p' : Spot) → Pair p p' → (rest rest' : Result (List Spot) (ℕ × Refusal)) → AreSpotted Pair PageIsAbsent seg rest rest' → AreSpotted Pair PageIsAbsent seg (spots_with rest p) (spots_with rest' p')
next_found Pair PageIsAbsent seg p p' pair rest rest' (all_found ps qs e f each) =
    all_found (p ∷ ps) (p' ∷ qs) (ap (λ (r : Result (List Spot) (ℕ × Refusal)). spots_with r p) e) (ap (λ (r : Result (List Spot) (ℕ × Refusal)). spots_with r p') f) (pair, each)
next_found Pair PageIsAbsent seg p p' pair rest rest' (refused_alike w why e f other) =
    refused_alike w why (ap (λ (r : Result (List Spot) (ℕ × Refusal)). spots_with r p) e) (ap (λ (r : Result (List Spot) (ℕ × Refusal)). spots_with r p') f) other
next_found Pair PageIsAbsent seg p p' pair rest rest' (one_lacking w e lacks) =
    one_lacking w (ap (λ (r : Result (List Spot) (ℕ × Refusal)). spots_with r p) e) lacks

one_spotted : (Pair : Spot → Spot → Type 0) (PageIsAbsent : ℕ → ℕ → Type 0) (seg w : ℕ) (x x' : Result Spot Refusal) (rest rest' : Result (List Spot) (ℕ × Refusal)) → IsSpotted Pair PageIsAbsent seg w x x' → AreSpotted Pair PageIsAbsent seg rest rest' → AreSpotted Pair PageIsAbsent seg (spots_from true w x rest) (spots_from true w x' rest')
one_spotted Pair PageIsAbsent seg w x x' rest rest' (both p p' e f pair) h =
    rw (e, f) (next_found Pair PageIsAbsent seg p p' pair rest rest' h)
one_spotted Pair PageIsAbsent seg w x x' rest rest' (lacking e lacks) h =
    one_lacking w (ap (λ (r : Result Spot Refusal). spots_from true w r rest) e) lacks

by_bound : (Pair : Spot → Spot → Type 0) (PageIsAbsent : ℕ → ℕ → Type 0) (seg w : ℕ) (b : Bool) (x x' : Result Spot Refusal) (rest rest' : Result (List Spot) (ℕ × Refusal)) → (b ≡ true → IsSpotted Pair PageIsAbsent seg w x x') → AreSpotted Pair PageIsAbsent seg rest rest' → AreSpotted Pair PageIsAbsent seg (spots_from b w x rest) (spots_from b w x' rest')
by_bound Pair PageIsAbsent seg w false x x' rest rest' one h =
    refused_alike w (violation 15) refl refl (other_number 20 refl)
by_bound Pair PageIsAbsent seg w true x x' rest rest' one h = one_spotted Pair PageIsAbsent seg w x x' rest rest' (one refl) h

-- answers that differ at most in the core address
pub record SameButPlace (a b : Answer) : Type 0 where
  pub sdw : a.sdw ≡ b.sdw
  pub words : a.words ≡ b.words
  pub first : a.first ≡ b.first

-- two steps in related states; the second store has not changed
pub record AreMids {S F : Type 0} (M : S → F → Type 0) (Pair : Spot → Spot → Type 0) (start : F) (x : Midstep S) (y : Midstep F) : Type 0 where
  pub mirrors : M x.store y.store
  pub still : y.store ≡ start
  pub claims : EachTwo Pair x.claims y.claims
  pub refs : x.refs ≡ y.refs

-- one request to both
pub data IsPageFaultServed {S F : Type 0} (M : S → F → Type 0) (Pair : Spot → Spot → Type 0) (PageIsAbsent : ℕ → ℕ → Type 0) (start : F) (kind : RequestKind) (x : Midstep S) (t : ServeResult S) (u : ServeResult F) : Type 0 where
  alike : t.reply ≡ u.reply → AreMids M Pair start t.mid u.mid → ((f : Fault) → t.reply ≡ Err f → f.number ≢ 17) → IsPageFaultServed M Pair PageIsAbsent start kind x t u
  cut : (f : Fault) → t.reply ≡ Err f → f.number ≡ 17 → PageIsAbsent f.at.seg f.at.word → t.mid ≡ x → IsPageFaultServed M Pair PageIsAbsent start kind x t u
  told_place : kind ≡ Locate → (a b : Answer) → t.reply ≡ Ok a → u.reply ≡ Ok b → SameButPlace a b → AreMids M Pair start t.mid u.mid → IsPageFaultServed M Pair PageIsAbsent start kind x t u

-- a request from its parts
abbrev pub asked : RequestKind → AtFields → ℕ → List Put → Request
asked kind at count pending = record { kind = kind; at = at; count = count; pending = pending }

-- the replies to a kind that reads, to a Write, and to a kind that leaves the store unchanged
abbrev read_answer : {S : Type 0} → Store S → RegsFields → RequestKind → AtFields → List Put → SdwFields → Midstep S → List Spot → List Reference → ServeResult S
read_answer o g kind at pending d m list refs =
    record {
      reply = Ok (record {
        sdw = d;
        first = length m.claims;
        place = 0;
        words = map (o.word (o.put (o.marked m.store g.dbr kind at.seg at.word) (changes m.claims pending))) list;
      });
      mid = record { store = o.marked m.store g.dbr kind at.seg at.word; claims = m.claims; refs = refs };
    }

abbrev write_answer : {S : Type 0} → Store S → RegsFields → AtFields → SdwFields → Midstep S → List Spot → List Reference → ServeResult S
write_answer o g at d m list refs =
    record {
      reply = Ok (record { sdw = d; first = length m.claims; place = 0; words = [] });
      mid = record { store = o.marked m.store g.dbr Write at.seg at.word; claims = m.claims ++ list; refs = refs };
    }

abbrev plain_answer : {S : Type 0} → SdwFields → ℕ → Midstep S → ServeResult S
plain_answer d place m =
    record { reply = Ok (record { sdw = d; first = length m.claims; place = place; words = [] }); mid = m }

-- the references after one more, or after the last one was made a pair
abbrev pub one_more : RequestKind → AtFields → ℕ → List Put → List Reference → List Reference
one_more kind at count pending refs = with_reference kind (asked kind at count pending) refs

module _ {S F : Type 0} (o : Store S) (o' : Store F) (g : RegsFields) (M : S → F → Type 0) (Pair : Spot → Spot → Type 0) (PageIsAbsent : ℕ → ℕ → Type 0) (L : Mirrors o o' g.dbr M Pair PageIsAbsent) (start : F) where
  abbrev Stand : Midstep S → Midstep F → Type 0
  Stand x y = AreMids M Pair start x y

  abbrev Serves : RequestKind → Midstep S → ServeResult S → ServeResult F → Type 0
  Serves kind x t u = IsPageFaultServed M Pair PageIsAbsent start kind x t u

  -- the words at paired spots are equal
  words_alike : (s : S) (f : F) → M s f → (ps qs : List Spot) → EachTwo Pair ps qs → map (o.word s) ps ≡ map (o'.word f) qs
  words_alike s f h [] [] k = refl
  words_alike s f h [] (q ∷ qs) k = absurd k
  words_alike s f h (p ∷ ps) [] k = absurd k
  words_alike s f h (p ∷ ps) (q ∷ qs) k =
      let here = L.word s f h p q k.0 in
      let more = words_alike s f h ps qs k.1 in
      λ i. here i ∷ more i

  -- a refusal that is no page fault
  refused_both : (kind : RequestKind) (f : Fault) (x : Midstep S) (y : Midstep F) → Stand x y → f.number ≢ 17 → Serves kind x (record { reply = Err f; mid = x }) (record { reply = Err f; mid = y })
  refused_both kind f x y k other =
      alike refl k (λ e h. let same : f ≡ e = cc in subst (λ (z : Fault). z.number ≢ 17) same other)

  served_reading : (kind : RequestKind) (at : AtFields) (pending : List Put) (d : SdwFields) (x : Midstep S) (y : Midstep F) → Stand x y → o.sdw x.store g.dbr at.seg ≡ Ok d → is_within_bound d at.word ≡ true → (ps qs : List Spot) → EachTwo Pair ps qs → (refs more : List Reference) → refs ≡ more → Serves kind x (read_answer o g kind at pending d x ps refs) (read_answer o' g kind at pending d y qs more)
  served_reading kind at pending d x y k live inside ps qs pairs refs more same =
      let s = o.marked x.store g.dbr kind at.seg at.word in
      let f = o'.marked y.store g.dbr kind at.seg at.word in
      let m = L.marked x.store y.store k.mirrors kind at.seg at.word d live inside in
      let changed = L.put s f m (changes x.claims pending) (changes y.claims pending) (paired_changes Pair x.claims y.claims k.claims pending) in
      let read = words_alike _ _ changed ps qs pairs in
      let number = two_lengths Pair x.claims y.claims k.claims in
      alike (λ i. Ok (record { sdw = d; words = read i; first = number i; place = 0 })) (record { mirrors = m; still = L.quiet y.store kind at.seg at.word ∙ k.still; claims = k.claims; refs = same }) (λ e h. cc)

  served_writing : (at : AtFields) (d : SdwFields) (x : Midstep S) (y : Midstep F) → Stand x y → o.sdw x.store g.dbr at.seg ≡ Ok d → is_within_bound d at.word ≡ true → (ps qs : List Spot) → EachTwo Pair ps qs → (refs more : List Reference) → refs ≡ more → Serves Write x (write_answer o g at d x ps refs) (write_answer o' g at d y qs more)
  served_writing at d x y k live inside ps qs pairs refs more same =
      let m = L.marked x.store y.store k.mirrors Write at.seg at.word d live inside in
      let number = two_lengths Pair x.claims y.claims k.claims in
      alike (λ i. Ok (record { sdw = d; words = []; first = number i; place = 0 })) (record { mirrors = m; still = L.quiet y.store Write at.seg at.word ∙ k.still; claims = two_append Pair x.claims ps y.claims qs k.claims pairs; refs = same }) (λ e h. cc)

  served_plain : (kind : RequestKind) (d : SdwFields) (place : ℕ) (x : Midstep S) (y : Midstep F) → Stand x y → Serves kind x (plain_answer d place x) (plain_answer d place y)
  served_plain kind d place x y k =
      let number = two_lengths Pair x.claims y.claims k.claims in
      alike (λ i. Ok (record { sdw = d; words = []; first = number i; place = place })) k (λ e h. cc)

  served_place : (d : SdwFields) (x : Midstep S) (y : Midstep F) → Stand x y → (a b : ℕ) → Serves Locate x (plain_answer d a x) (plain_answer d b y)
  served_place d x y k a b =
      told_place refl _ _ refl refl (record { sdw = refl; words = refl; first = two_lengths Pair x.claims y.claims k.claims }) k

  -- the spots of words
  spots_mirror : (s : S) (f : F) → M s f → (d : SdwFields) (seg : ℕ) → o.sdw s g.dbr seg ≡ Ok d → has_ordered_brackets d ≡ true → (w n : ℕ) → AreSpotted Pair PageIsAbsent seg (spots_of o s g.dbr d seg w n) (spots_of o' f g.dbr d seg w n)
  unfolding spots_of
  spots_mirror s f h d seg live ordered w zero = all_found [] [] refl refl tt
  spots_mirror s f h d seg live ordered w (suc n) =
      by_bound Pair PageIsAbsent seg w (is_within_bound d w) _ _ _ _ (λ inside. L.spot s f h seg w d live ordered inside) (spots_mirror s f h d seg live ordered (w + 1) n)

  -- the first of some words is within the bound
  first_within : (s : S) (d : SdwFields) (seg w n : ℕ) → 1 ≤ n → (ps : List Spot) → spots_of o s g.dbr d seg w n ≡ Ok ps → is_within_bound d w ≡ true
  unfolding spots_of
  first_within s d seg w zero some ps h = absurd (omega arith)
  first_within s d seg w (suc n) some ps h = by_test (is_within_bound d w) _ _ ps h
    where
      by_test : (b : Bool) (x : Result Spot Refusal) (rest : Result (List Spot) (ℕ × Refusal)) (qs : List Spot) → spots_from b w x rest ≡ Ok qs → b ≡ true
      by_test true x rest qs e = refl
      by_test false x rest qs e = cc

  -- all words are found, or the first that is not is reported
  abbrev serves_list : RequestKind → AtFields → ℕ → List Put → SdwFields → Midstep S → Midstep F → Result (List Spot) (ℕ × Refusal) → Result (List Spot) (ℕ × Refusal) → Type 0
  serves_list kind at count pending d x y v v' =
      Serves kind x (serve_places o g x (asked kind at count pending) d v) (serve_places o' g y (asked kind at count pending) d v')

  lists_found : (kind : RequestKind) (at : AtFields) (count : ℕ) (pending : List Put) (d : SdwFields) (x : Midstep S) (y : Midstep F) → Stand x y → o.sdw x.store g.dbr at.seg ≡ Ok d → is_within_bound d at.word ≡ true → (ps qs : List Spot) → EachTwo Pair ps qs → serves_list kind at count pending d x y (Ok ps) (Ok qs)
  lists_found Fetch at count pending d x y k live inside ps qs pairs =
      served_reading Fetch at pending d x y k live inside ps qs pairs _ _ (ap (one_more Fetch at count pending) k.refs)
  lists_found Indirect at count pending d x y k live inside ps qs pairs =
      served_reading Indirect at pending d x y k live inside ps qs pairs _ _ (ap (one_more Indirect at count pending) k.refs)
  lists_found Odd at count pending d x y k live inside ps qs pairs =
      served_reading Odd at pending d x y k live inside ps qs pairs _ _ (ap (one_more Odd at count pending) k.refs)
  lists_found Read at count pending d x y k live inside ps qs pairs =
      served_reading Read at pending d x y k live inside ps qs pairs _ _ (ap (one_more Read at count pending) k.refs)
  lists_found Write at count pending d x y k live inside ps qs pairs =
      served_writing at d x y k live inside ps qs pairs _ _ (ap (one_more Write at count pending) k.refs)
  lists_found Transfer at count pending d x y k live inside ps qs pairs = served_plain Transfer d 0 x y k
  lists_found Call at count pending d x y k live inside ps qs pairs = served_plain Call d 0 x y k
  lists_found Locate at count pending d x y k live inside ps qs pairs =
      served_place d x y k (located_address Locate ps) (located_address Locate qs)

  by_spots : (kind : RequestKind) (at : AtFields) (count : ℕ) (pending : List Put) (d : SdwFields) (x : Midstep S) (y : Midstep F) → Stand x y → o.sdw x.store g.dbr at.seg ≡ Ok d → (v v' : Result (List Spot) (ℕ × Refusal)) → ((ps : List Spot) → v ≡ Ok ps → is_within_bound d at.word ≡ true) → AreSpotted Pair PageIsAbsent at.seg v v' → serves_list kind at count pending d x y v v'
  by_spots kind at count pending d x y k live v v' inside (all_found ps qs e f pairs) =
      rw (e, f) (lists_found kind at count pending d x y k live (inside ps e) ps qs pairs)
  by_spots kind at count pending d x y k live v v' inside (refused_alike w why e f other) =
      rw (e, f) (refused_both kind (fault_by why (record { seg = at.seg; word = w; ring = at.ring })) x y k other)
  by_spots kind at count pending d x y k live v v' inside (one_lacking w e lacks) =
      rw e (cut (fault_by absence (record { seg = at.seg; word = w; ring = at.ring })) refl refl lacks refl)

  by_target : (kind : RequestKind) (at : AtFields) (count : ℕ) (pending : List Put) (d : SdwFields) (x : Midstep S) (y : Midstep F) → Stand x y → (b : Bool) → ((place : ℕ) → serves_list kind at count pending d x y (Ok []) (Ok [])) → serves_list kind at count pending d x y (bound_only b at.word) (bound_only b at.word)
  by_target kind at count pending d x y k true found = found 0
  by_target kind at count pending d x y k false found =
      refused_both kind (fault_by (violation 15) at) x y k (other_number 20 refl)

  by_places : (kind : RequestKind) (at : AtFields) (count : ℕ) (pending : List Put) → 1 ≤ count → (d : SdwFields) (x : Midstep S) (y : Midstep F) → Stand x y → o.sdw x.store g.dbr at.seg ≡ Ok d → has_ordered_brackets d ≡ true → serves_list kind at count pending d x y (spots_of_request o x.store g.dbr d (asked kind at count pending)) (spots_of_request o' y.store g.dbr d (asked kind at count pending))
  unfolding spots_of_request
  by_places Transfer at count pending some d x y k live ordered =
      by_target Transfer at count pending d x y k (is_within_bound d at.word) (λ place. served_plain Transfer d 0 x y k)
  by_places Call at count pending some d x y k live ordered =
      by_target Call at count pending d x y k (is_within_bound d at.word) (λ place. served_plain Call d 0 x y k)
  by_places kind at count pending some d x y k live ordered =
      by_spots kind at count pending d x y k live _ _ (λ ps e. first_within x.store d at.seg at.word count some ps e) (spots_mirror x.store y.store k.mirrors d at.seg live ordered at.word count)

  by_rights : (kind : RequestKind) (at : AtFields) (count : ℕ) (pending : List Put) → 1 ≤ count → (d : SdwFields) (x : Midstep S) (y : Midstep F) → Stand x y → o.sdw x.store g.dbr at.seg ≡ Ok d → (v : Option ℕ) → refusing_violation kind d at.ring g.ppr.prr (at.seg == g.ppr.psr) at.word ≡ v → Serves kind x (serve_rights o g x (asked kind at count pending) d v) (serve_rights o' g y (asked kind at count pending) d v)
  by_rights kind at count pending some d x y k live (Some acv) e =
      refused_both kind (fault_by (violation acv) at) x y k (other_number 20 refl)
  by_rights kind at count pending some d x y k live None e =
      by_places kind at count pending some d x y k live (denied_order kind d at.ring g.ppr.prr (at.seg == g.ppr.psr) at.word e)

  by_sdw : (kind : RequestKind) (at : AtFields) (count : ℕ) (pending : List Put) → 1 ≤ count → (x : Midstep S) (y : Midstep F) → Stand x y → (v : Result SdwFields Refusal) → o.sdw x.store g.dbr at.seg ≡ v → Serves kind x (serve_sdw o g x (asked kind at count pending) v) (serve_sdw o' g y (asked kind at count pending) v)
  by_sdw kind at count pending some x y k (Err why) e =
      refused_both kind (fault_by why at) x y k (L.dead x.store y.store k.mirrors at.seg why e)
  by_sdw kind at count pending some x y k (Ok d) e = by_rights kind at count pending some d x y k e _ refl

  -- One request has the same result over both stores, or the first store lacks a word, or both
  -- report a core address.
  pub serve_mirrors : (x : Midstep S) (y : Midstep F) → Stand x y → (q : Request) → 1 ≤ q.count → Serves q.kind x (serve o g x q) (serve o' g y q)
  unfolding serve
  serve_mirrors x y k q some =
      let there = L.sdw x.store y.store k.mirrors q.at.seg in
      subst (λ (v : Result SdwFields Refusal). Serves q.kind x (serve_sdw o g x q (o.sdw x.store g.dbr q.at.seg)) (serve_sdw o' g y q v)) there (by_sdw q.kind q.at q.count q.pending some x y k (o.sdw x.store g.dbr q.at.seg) refl)

-- A program that is done after a refusal, with a value as `stop` says.
abbrev pub Stops : {A : Type 0} → (Fault → A → Type 0) → Fault → Act A → Type 0
Stops stop f (done a) = stop f a
Stops stop f (ask q next) = ⊥

-- two programs that are done, with related values
abbrev pub EndTwo : {A : Type 0} → (A → A → Type 0) → Act A → Act A → Type 0
EndTwo R (done a) (done b) = R a b
EndTwo R (done a) (ask q next) = ⊥
EndTwo R (ask q next) m = ⊥

-- A program is done after each refusal. Its value is as `post` says. If it asks for a core address,
-- it is done then, and two addresses give related values.
abbrev pub Asks : {A : Type 0} → (A → Type 0) → (Fault → A → Type 0) → (A → A → Type 0) → Act A → Type 0
Asks post stop R (done a) = post a
Asks post stop R (ask q next) =
    (1 ≤ q.count) × ((f : Fault) → Stops stop f (next (Err f))) × ((a : Answer) → Asks post stop R (next (Ok a))) × (q.kind ≡ Locate → (a b : Answer) → SameButPlace a b → EndTwo R (next (Ok a)) (next (Ok b)))

-- one program after another
stops_then : {A B : Type 0} (stop : Fault → A → Type 0) (stop' : Fault → B → Type 0) (f : Fault) (m : Act A) (k : A → Act B) → Stops stop f m → ((a : A) → stop f a → Stops stop' f (k a)) → Stops stop' f (and_then m k)
unfolding and_then
stops_then stop stop' f (done a) k h next = next a h
stops_then stop stop' f (ask q n) k h next = absurd h

ends_then : {A B : Type 0} (R : A → A → Type 0) (R' : B → B → Type 0) (m n : Act A) (k : A → Act B) → EndTwo R m n → ((a b : A) → R a b → EndTwo R' (k a) (k b)) → EndTwo R' (and_then m k) (and_then n k)
unfolding and_then
ends_then R R' (done a) (done b) k h next = next a b h
ends_then R R' (done a) (ask q n) k h next = absurd h
ends_then R R' (ask q n) m k h next = absurd h

pub asks_then : {A B : Type 0} (post : A → Type 0) (stop : Fault → A → Type 0) (R : A → A → Type 0) (post' : B → Type 0) (stop' : Fault → B → Type 0) (R' : B → B → Type 0) (m : Act A) (k : A → Act B) → Asks post stop R m → ((a : A) → post a → Asks post' stop' R' (k a)) → ((f : Fault) (a : A) → stop f a → Stops stop' f (k a)) → ((a b : A) → R a b → EndTwo R' (k a) (k b)) → Asks post' stop' R' (and_then m k)
unfolding and_then
asks_then post stop R post' stop' R' (done a) k h next stops ends = next a h
asks_then post stop R post' stop' R' (ask q n) k h next stops ends =
    (h.0, (λ f. stops_then stop stop' f (n (Err f)) k (h.1 f) (stops f)), (λ a. asks_then post stop R post' stop' R' (n (Ok a)) k (h.2 a) next stops ends), (λ kind a b same. ends_then R R' (n (Ok a)) (n (Ok b)) k (h.3 kind a b same) ends))

-- two runs of one program
pub data AreRun {A S F : Type 0} (M : S → F → Type 0) (Pair : Spot → Spot → Type 0) (PageIsAbsent : ℕ → ℕ → Type 0) (start : F) (post : A → Type 0) (stop : Fault → A → Type 0) (R : A → A → Type 0) (x : ProgramResult A S) (y : ProgramResult A F) : Type 0 where
  same : x.value ≡ y.value → AreMids M Pair start x.mid y.mid → post x.value → AreRun M Pair PageIsAbsent start post stop R x y
  lacked : (f : Fault) → f.number ≡ 17 → PageIsAbsent f.at.seg f.at.word → stop f x.value → M x.mid.store start → AreRun M Pair PageIsAbsent start post stop R x y
  placed_apart : R x.value y.value → AreMids M Pair start x.mid y.mid → AreRun M Pair PageIsAbsent start post stop R x y

module _ {A S F : Type 0} (o : Store S) (o' : Store F) (g : RegsFields) (M : S → F → Type 0) (Pair : Spot → Spot → Type 0) (PageIsAbsent : ℕ → ℕ → Type 0) (L : Mirrors o o' g.dbr M Pair PageIsAbsent) (start : F) (post : A → Type 0) (stop : Fault → A → Type 0) (R : A → A → Type 0) (present : (f : Fault) (a : A) → f.number ≢ 17 → stop f a → post a) where
  abbrev Ends : ProgramResult A S → ProgramResult A F → Type 0
  Ends x y = AreRun M Pair PageIsAbsent start post stop R x y

  stopped : (m : Act A) (f : Fault) → Stops stop f m → f.number ≢ 17 → Asks post stop R m
  stopped (done a) f h other = present f a other h
  stopped (ask q next) f h other = absurd h

  asks_reply : (q : Request) (next : Result Answer Fault → Act A) → Asks post stop R (ask q next) → (reply : Result Answer Fault) → ((f : Fault) → reply ≡ Err f → f.number ≢ 17) → Asks post stop R (next reply)
  asks_reply q next h (Ok a) others = h.2 a
  asks_reply q next h (Err f) others = stopped (next (Err f)) f (h.1 f) (others f refl)

  cut_run : (m : Act A) (f : Fault) → Stops stop f m → f.number ≡ 17 → PageIsAbsent f.at.seg f.at.word → (x : Midstep S) (y : ProgramResult A F) → M x.store start → Ends (run o g m x) y
  unfolding run
  cut_run (done a) f h is lacks x y mirrors = lacked f is lacks h mirrors
  cut_run (ask q next) f h is lacks x y mirrors = absurd h

  two_run : (m n : Act A) → EndTwo R m n → (x : Midstep S) (y : Midstep F) → AreMids M Pair start x y → Ends (run o g m x) (run o' g n y)
  unfolding run
  two_run (done a) (done b) h x y k = placed_apart h k
  two_run (done a) (ask q next) h x y k = absurd h
  two_run (ask q next) n h x y k = absurd h

  by_served : (q : Request) (next : Result Answer Fault → Act A) → Asks post stop R (ask q next) → (x : Midstep S) → M x.store start → (t : ServeResult S) (u : ServeResult F) → IsPageFaultServed M Pair PageIsAbsent start q.kind x t u → ((reply : Result Answer Fault) (a : Midstep S) (b : Midstep F) → Asks post stop R (next reply) → AreMids M Pair start a b → Ends (run o g (next reply) a) (run o' g (next reply) b)) → Ends (run o g (next t.reply) t.mid) (run o' g (next u.reply) u.mid)
  by_served q next h x mirrors t u (alike e mids others) rest =
      subst (λ (r : Result Answer Fault). Ends (run o g (next t.reply) t.mid) (run o' g (next r) u.mid)) e (rest t.reply t.mid u.mid (asks_reply q next h t.reply others) mids)
  by_served q next h x mirrors t u (cut f e is lacks mid) rest =
      subst (λ (r : Result Answer Fault). Ends (run o g (next r) t.mid) (run o' g (next u.reply) u.mid)) (sym e) (cut_run (next (Err f)) f (h.1 f) is lacks t.mid _ (subst (λ (m : Midstep S). M m.store start) (sym mid) mirrors))
  by_served q next h x mirrors t u (told_place kind a b e f near mids) rest =
      rw (e, f) (two_run (next (Ok a)) (next (Ok b)) (h.3 kind a b near) t.mid u.mid mids)

  -- A run has the same result over both stores, or ends at a word that the first lacks, or reports
  -- a core address.
  pub run_mirrors : (m : Act A) (x : Midstep S) (y : Midstep F) → Asks post stop R m → AreMids M Pair start x y → Ends (run o g m x) (run o' g m y)
  unfolding run
  run_mirrors (done a) x y h k = same refl k h
  run_mirrors (ask q next) x y h k =
      by_served q next h x (subst (M x.store) k.still k.mirrors) (serve o g x q) (serve o' g y q) (serve_mirrors o o' g M Pair PageIsAbsent L start x y k q h.0) (λ reply a b asks mids. run_mirrors (next reply) a b asks mids)
