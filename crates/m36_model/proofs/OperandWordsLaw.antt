-- The words of an operand are those at consecutive word numbers.
use Rattle.std.proofs.Common.{ℕ, zero, suc, ◌≡◌, ◌+◌, ◌<◌, refl, sym, ap, subst, ◌∙◌, ◌==◌, Option, Some, None, Bool, true, false, List, [], ◌∷◌, map, length, slice_get, if◌then◌else◌, Result, Ok, Err, arith}
use Rattle.m36_desc.specs.Fields.{SdwFields, DbrFields}
use Rattle.m36_model.specs.Registers.{RegsFields}
use Rattle.m36_model.specs.Act.{RequestKind, Read, Write, Request, Answer}
use Rattle.m36_model.specs.Store.{Spot, Store, Midstep, ServeResult, serve, serve_sdw, serve_rights, serve_places, refusing_violation, spots_of_request, spots_from, spots_of, changes, is_within_bound, reads, after_marks, located_address, with_claims, spots_of_request_by, bound_only, is_target}
use Rattle.m36_model.specs.Core.{core_store}
use Rattle.m36_model.specs.OperandWords.{ArePlaces, AreReadWords, AreWrittenWords, ReadsWordsInOrder, WritesWordsInOrder}
use Rattle.m36_model.specs.declared.outcome.Refusal.{Refusal}

record IsOne (w : Bool) (sp : Result Spot Refusal) (rest : Result (List Spot) (ℕ × Refusal)) (spots : List Spot) : Type 0 where
  spot : Spot
  more : List Spot
  inside : w ≡ true
  here_is : sp ≡ Ok spot
  rest_is : rest ≡ Ok more
  all : spots ≡ spot ∷ more

is_one : (word : ℕ) (w : Bool) (sp : Result Spot Refusal) (rest : Result (List Spot) (ℕ × Refusal)) (spots : List Spot) → spots_from w word sp rest ≡ Ok spots → IsOne w sp rest spots
is_one word false sp rest spots e = cc
is_one word true (Err x) rest spots e = cc
is_one word true (Ok p) (Err x) spots e = cc
is_one word true (Ok p) (Ok ps) spots e =
    record { spot = p; more = ps; inside = refl; here_is = refl; rest_is = refl; all = cc }

-- the spots of n words from a word on
record AreSpots {S : Type 0} (o : Store S) (s : S) (dbr : DbrFields) (d : SdwFields) (seg word n : ℕ) (spots : List Spot) : Type 0 where
  count : length spots ≡ n
  inside : (k : ℕ) → k < n → is_within_bound d (word + k) ≡ true
  each : (k : ℕ) (spot : Spot) → slice_get spots k ≡ Some spot → o.spot s dbr d seg (word + k) ≡ Ok spot

module _ {S : Type 0} (o : Store S) (s : S) (dbr : DbrFields) (d : SdwFields) (seg : ℕ) where
  at_zero : (word : ℕ) (P : ℕ → Type 0) → P word → P (word + 0)
  at_zero word P p = let e : word + 0 ≡ word = omega arith in subst P (sym e) p

  at_next : (word k : ℕ) (P : ℕ → Type 0) → P (word + 1 + k) → P (word + suc k)
  at_next word k P p = let e : word + 1 + k ≡ word + suc k = omega arith in subst P e p

  inside_more : (word n : ℕ) → is_within_bound d word ≡ true → ((k : ℕ) → k < n → is_within_bound d (word + 1 + k) ≡ true) → (k : ℕ) → k < suc n → is_within_bound d (word + k) ≡ true
  inside_more word n a b zero h = at_zero word (λ w. is_within_bound d w ≡ true) a
  inside_more word n a b (suc k) h = at_next word k (λ w. is_within_bound d w ≡ true) (b k (omega arith))

  each_more : (word : ℕ) (p : Spot) (ps : List Spot) → o.spot s dbr d seg word ≡ Ok p → ((k : ℕ) (spot : Spot) → slice_get ps k ≡ Some spot → o.spot s dbr d seg (word + 1 + k) ≡ Ok spot) → (k : ℕ) (spot : Spot) → slice_get (p ∷ ps) k ≡ Some spot → o.spot s dbr d seg (word + k) ≡ Ok spot
  each_more word p ps a b zero spot e = let same : p ≡ spot = cc in at_zero word (λ w. o.spot s dbr d seg w ≡ Ok spot) cc
  each_more word p ps a b (suc k) spot e = at_next word k (λ w. o.spot s dbr d seg w ≡ Ok spot) (b k spot e)

  are_spots : (n word : ℕ) (spots : List Spot) → spots_of o s dbr d seg word n ≡ Ok spots → AreSpots o s dbr d seg word n spots
  unfolding spots_of
  are_spots zero word spots e =
      let nothing : spots ≡ [] = cc in
      record {
        count = ap length nothing;
        inside = λ k h. absurd (omega arith);
        each = λ k spot h. let g : slice_get [] k ≡ Some spot = subst (λ (xs : List Spot). slice_get xs k ≡ Some spot) nothing h in cc;
      }
  are_spots (suc n) word spots e =
      let u = is_one word (is_within_bound d word) (o.spot s dbr d seg word) (spots_of o s dbr d seg (word + 1) n) spots e in
      let v = are_spots n (word + 1) u.more u.rest_is in
      record {
        count = ap length u.all ∙ ap suc v.count;
        inside = inside_more word n u.inside v.inside;
        each = λ k spot h. each_more word u.spot u.more u.here_is v.each k spot (subst (λ (xs : List Spot). slice_get xs k ≡ Some spot) u.all h);
      }

-- an answered request
pub record IsAnswered {S : Type 0} (o : Store S) (g : RegsFields) (m : Midstep S) (q : Request) (a : Answer) (after : Midstep S) : Type 0 where
  pub spots : List Spot
  pub found : o.sdw m.store g.dbr q.at.seg ≡ Ok a.sdw
  pub placed : spots_of_request o m.store g.dbr a.sdw q ≡ Ok spots
  pub words : a.words ≡ (if reads q.kind then map (o.word (o.put after.store (changes m.claims q.pending))) spots else [])
  pub first : a.first ≡ length m.claims
  pub claims : after.claims ≡ with_claims q.kind spots m.claims

module _ {S : Type 0} (o : Store S) (g : RegsFields) (m : Midstep S) (q : Request) (a : Answer) (after : Midstep S) where
  by_places : (d : SdwFields) (r : Result (List Spot) (ℕ × Refusal)) → o.sdw m.store g.dbr q.at.seg ≡ Ok d → spots_of_request o m.store g.dbr d q ≡ r → serve_places o g m q d r ≡ record { reply = Ok a; mid = after } → IsAnswered o g m q a after
  by_places d (Err x) e p h = let no_reply = ap (λ (t : ServeResult S). t.reply) h in cc
  by_places d (Ok spots) e p h =
      let reply = ap (λ (t : ServeResult S). t.reply) h in
      let mid = ap (λ (t : ServeResult S). t.mid) h in
      let s = after_marks o m.store g.dbr q in
      let given : Answer =
      record {
        sdw = d;
        words = if reads q.kind then map (o.word (o.put s (changes m.claims q.pending))) spots else [];
        first = length m.claims;
        place = located_address q.kind spots;
      } in
      let same : given ≡ a = cc in
      let sdw_is : d ≡ a.sdw = ap (λ (x : Answer). x.sdw) same in
      let store_is : s ≡ after.store = ap (λ (x : Midstep S). x.store) mid in
      record {
        spots = spots;
        found = rw (← sdw_is) e;
        placed = rw (← sdw_is) p;
        words = rw (← store_is) (sym (ap (λ (x : Answer). x.words) same));
        first = sym (ap (λ (x : Answer). x.first) same);
        claims = sym (ap (λ (x : Midstep S). x.claims) mid);
      }

  by_rights : (d : SdwFields) (r : Option ℕ) → o.sdw m.store g.dbr q.at.seg ≡ Ok d → serve_rights o g m q d r ≡ record { reply = Ok a; mid = after } → IsAnswered o g m q a after
  by_rights d (Some acv) e h = let no_reply = ap (λ (t : ServeResult S). t.reply) h in cc
  by_rights d None e h = by_places d (spots_of_request o m.store g.dbr d q) e refl h

  by_sdw : (r : Result SdwFields Refusal) → o.sdw m.store g.dbr q.at.seg ≡ r → serve_sdw o g m q r ≡ record { reply = Ok a; mid = after } → IsAnswered o g m q a after
  by_sdw (Err why) e h = let no_reply = ap (λ (t : ServeResult S). t.reply) h in cc
  by_sdw (Ok d) e h =
      by_rights d (refusing_violation q.kind d q.at.ring g.ppr.prr (q.at.seg == g.ppr.psr) q.at.word) e h

  pub is_answered : serve o g m q ≡ record { reply = Ok a; mid = after } → IsAnswered o g m q a after
  unfolding serve
  is_answered h = by_sdw (o.sdw m.store g.dbr q.at.seg) refl h

module _ {S : Type 0} (o : Store S) (s : S) (dbr : DbrFields) (d : SdwFields) (q : Request) (spots : List Spot) where
  spots_by : (t : Bool) → t ≡ false → spots_of_request_by t (bound_only (is_within_bound d q.at.word) q.at.word) (spots_of o s dbr d q.at.seg q.at.word q.count) ≡ Ok spots → spots_of o s dbr d q.at.seg q.at.word q.count ≡ Ok spots
  spots_by true e h = cc
  spots_by false e h = h

  -- every word has a place, except for targets of transfers and calls
  placed_words : is_target q.kind ≡ false → spots_of_request o s dbr d q ≡ Ok spots → spots_of o s dbr d q.at.seg q.at.word q.count ≡ Ok spots
  unfolding spots_of_request
  placed_words e h = spots_by (is_target q.kind) e h

are_places : {S : Type 0} (o : Store S) (s : S) (g : RegsFields) (q : Request) (d : SdwFields) (spots : List Spot) → is_target q.kind ≡ false → spots_of_request o s g.dbr d q ≡ Ok spots → ArePlaces o s g q d spots
are_places o s g q d spots e h =
    let u = are_spots o s g.dbr d q.at.seg q.count q.at.word spots (placed_words o s g.dbr d q spots e h) in
    record { count = u.count; inside = u.inside; each = u.each }

pub read_words : {S : Type 0} (o : Store S) (g : RegsFields) (m after : Midstep S) (q : Request) (a : Answer) → q.kind ≡ Read → serve o g m q ≡ record { reply = Ok a; mid = after } → AreReadWords o g m q a after
read_words o g m after q a e h =
    let u = is_answered o g m q a after h in
    record {
      spots = u.spots;
      found = u.found;
      places = are_places o m.store g q a.sdw u.spots (rw e refl) u.placed;
      words = subst (λ (k : RequestKind). a.words ≡ (if reads k then map (o.word (o.put after.store (changes m.claims q.pending))) u.spots else [])) e u.words;
    }

pub written_words : {S : Type 0} (o : Store S) (g : RegsFields) (m after : Midstep S) (q : Request) (a : Answer) → q.kind ≡ Write → serve o g m q ≡ record { reply = Ok a; mid = after } → AreWrittenWords o g m q a after
written_words o g m after q a e h =
    let u = is_answered o g m q a after h in
    record {
      spots = u.spots;
      found = u.found;
      places = are_places o m.store g q a.sdw u.spots (rw e refl) u.placed;
      claims = subst (λ (k : RequestKind). after.claims ≡ with_claims k u.spots m.claims) e u.claims;
      first = u.first;
    }

pub reads_words_in_order : ReadsWordsInOrder
reads_words_in_order g m after q a e h = read_words core_store g m after q a e h

pub writes_words_in_order : WritesWordsInOrder
writes_words_in_order g m after q a e h = written_words core_store g m after q a e h
