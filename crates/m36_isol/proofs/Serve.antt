-- One request to two stores in which the same words can be seen: the replies are equal, and so are
-- these words after it.
use Rattle.std.proofs.Common.{◌≡◌, refl, sym, ◌∙◌, ap, subst, ⊎_elim}
use Rattle.std.proofs.Math.Nat.{le_trans}
use Rattle.std.specs.Prelude.{ℕ, ◌+◌, ◌≤◌, true, ◌==◌, List, [], ◌∷◌, ◌++◌, map, length, Option, Some, None, Result, Ok, Err}
use Rattle.std.proofs.lemmas.Bool.{eqb-true, or_left, or_right}
use Rattle.m36_desc.specs.Fields.{SdwFields}
use Rattle.m36_desc.specs.Access.{has_ordered_brackets}
use Rattle.m36_model.specs.Fields.{AtFields}
use Rattle.m36_model.specs.Registers.{RegsFields}
use Rattle.m36_model.specs.Act.{RequestKind, Fetch, Indirect, Odd, Read, Write, Transfer, Call, Locate, Put, Request, Answer}
use Rattle.m36_model.specs.Store.{Spot, Change, Store, Midstep, ServeResult, spots_of, spots_of_request, changes, refusing_violation, serve, serve_sdw, serve_rights, serve_places, with_odd, located_address}
use Rattle.m36_model.specs.StoreLaw.{Each, IsPlacedWord, IsSegmentChange, Lawful, overlay}
use Rattle.m36_model.specs.declared.outcome.Fault.{Fault}
use Rattle.m36_model.specs.declared.outcome.Refusal.{Refusal}
use Rattle.m36_model.specs.declared.place.Reference.{Reference}
use Rattle.m36_isol.proofs.Mirror.{asked, one_more}
use Rattle.m36_isol.proofs.Program.{ArePageFaultsServed}
use Rattle.m36_isol.proofs.Rights.{denied_order, fetch_rights, read_rights, indirect_rights, odd_rights, write_rights}
use Rattle.m36_isol.specs.Rights.{MayRead, MayFetch}
use Rattle.m36_isol.proofs.Alike.{Sees, Reaches, IsReached, IsAllowedReference, May, MayRing, Known, IsKept, Alike, SeeEqual}
use Rattle.m36_isol.proofs.Spots.{AreWords, same_spots, are_words, begins, each_append, each_change, each_map}

module _ {S : Type 0} (o : Store S) (g : RegsFields) (Has : S → Type 0) (Lies : Spot → Type 0) (Near : S → S → Type 0) (L : Lawful o g.dbr Has Lies Near) (r : ℕ) (low : r ≤ g.ppr.prr) (first other : S) (equal : SeeEqual o L.sdws L.spots r first other) where
  abbrev Stand : Midstep S → Midstep S → Type 0
  Stand = Alike o Has Lies Near L.sdws L.spots r first other

  abbrev Serves : Request → ServeResult S → ServeResult S → Type 0
  Serves q t u = ArePageFaultsServed Stand (Known L.sdws g q) t u

  -- marks preserve what is known of a store
  after_mark : (start now : S) → IsKept o Has Lies Near start now → (kind : RequestKind) (seg w : ℕ) (p : Spot) → IsPlacedWord L.sdws L.spots seg w p → IsKept o Has Lies Near start (o.marked now g.dbr kind seg w)
  after_mark start now k kind seg w p word =
      record {
        has = L.marks_tables now k.has kind seg w p word;
        words = λ p' lies. L.marks_word now k.has kind seg w p p' word lies ∙ k.words p' lies;
        near = L.near_then start now _ k.near (L.marks_near now k.has kind seg w p word);
      }

  -- the words of a segment that ring r can see are read with equal values, also with pending writes
  one_read : (s t : S) → IsKept o Has Lies Near first s → IsKept o Has Lies Near other t → (puts : List Change) → Each (IsSegmentChange L.sdws L.spots) puts → (seg w : ℕ) (p : Spot) → Sees L.sdws r seg → IsPlacedWord L.sdws L.spots seg w p → o.word (o.put s puts) p ≡ o.word (o.put t puts) p
  one_read s t k l puts spots seg w p sees word =
      let lies = L.lies seg w p word in
      let here = k.words p lies ∙ equal seg w p sees word ∙ sym (l.words p lies) in
      L.put_word s k.has puts spots p lies ∙ ap (overlay puts p) here ∙ sym (L.put_word t l.has puts spots p lies)

  words_read : (s t : S) → IsKept o Has Lies Near first s → IsKept o Has Lies Near other t → (puts : List Change) → Each (IsSegmentChange L.sdws L.spots) puts → (seg w : ℕ) → Sees L.sdws r seg → (list : List Spot) → AreWords L.sdws L.spots seg w list → map (o.word (o.put s puts)) list ≡ map (o.word (o.put t puts)) list
  words_read s t k l puts spots seg w sees [] h = refl
  words_read s t k l puts spots seg w sees (p ∷ list) h =
      let here = one_read s t k l puts spots seg w p sees h.0 in
      let more = words_read s t k l puts spots seg (w + 1) sees list h.1 in
      cc

  -- the spots of a Write are in reach
  all_reached : (seg w : ℕ) → Reaches L.sdws r seg → (list : List Spot) → AreWords L.sdws L.spots seg w list → Each (IsReached L.sdws L.spots r) list
  all_reached seg w reaches [] h = tt
  all_reached seg w reaches (p ∷ list) h =
      (record { seg = seg; w = w; word = h.0; reaches = reaches }, all_reached seg (w + 1) reaches list h.1)

  spot_of_reached : (p : Change) → IsReached L.sdws L.spots r p.spot → IsSegmentChange L.sdws L.spots p
  spot_of_reached p h = record { seg = h.seg; w = h.w; word = h.word }

  -- ring r can see what may be read
  reader : (seg ring : ℕ) (d : SdwFields) → L.sdws seg ≡ Ok d → MayRead d ring (seg == g.ppr.psr) → r ≤ ring → Sees L.sdws r g.ppr.psr → Sees L.sdws r seg
  reader seg ring d live m high executes =
      ⊎_elim
      (λ readable. record { sdw = d; live = live; opens = or_left d.readable d.executable readable; high = le_trans high m.high })
      (λ same. subst (λ (s : ℕ). Sees L.sdws r s) (sym (eqb-true seg g.ppr.psr same)) executes)
      m.opens

  fetcher : (seg : ℕ) (d : SdwFields) → L.sdws seg ≡ Ok d → MayFetch d g.ppr.prr → Sees L.sdws r seg
  fetcher seg d live m =
      record { sdw = d; live = live; opens = or_right d.readable d.executable m.executable; high = le_trans low m.high }

  abbrev Allows : RequestKind → AtFields → SdwFields → Type 0
  Allows kind at d = refusing_violation kind d at.ring g.ppr.prr (at.seg == g.ppr.psr) at.word ≡ None

  -- the replies to a kind that reads, to a Write, and to a kind that leaves the store unchanged
  abbrev read_answer : RequestKind → AtFields → List Put → SdwFields → Midstep S → List Spot → List Reference → ServeResult S
  read_answer kind at pending d m list refs =
      record {
        reply = Ok (record {
          sdw = d;
          first = length m.claims;
          place = 0;
          words = map (o.word (o.put (o.marked m.store g.dbr kind at.seg at.word) (changes m.claims pending))) list;
        });
        mid = record { store = o.marked m.store g.dbr kind at.seg at.word; claims = m.claims; refs = refs };
      }

  known_answer : (q : Request) (b : Answer) → L.sdws q.at.seg ≡ Ok b.sdw → Allows q.kind q.at b.sdw → (reply : Result Answer Fault) → reply ≡ Ok b → (a : Answer) → reply ≡ Ok a → Known L.sdws g q a
  known_answer q b live allowed reply is a e =
      let same : b ≡ a = cc in
      subst (λ (c : Answer). Known L.sdws g q c) same (record { live = live; allowed = allowed })

  served_reading : (kind : RequestKind) (at : AtFields) (count : ℕ) (pending : List Put) (d : SdwFields) → L.sdws at.seg ≡ Ok d → Allows kind at d → Sees L.sdws r at.seg → (x y : Midstep S) → Stand x y → (list : List Spot) (p : Spot) → IsPlacedWord L.sdws L.spots at.seg at.word p → AreWords L.sdws L.spots at.seg at.word list → (refs more : List Reference) → refs ≡ more → Each (IsAllowedReference L.sdws r) refs → Serves (asked kind at count pending) (read_answer kind at pending d x list refs) (read_answer kind at pending d y list more)
  served_reading kind at count pending d live allowed sees x y k list p word words refs more same each =
      let s = o.marked x.store g.dbr kind at.seg at.word in
      let t = o.marked y.store g.dbr kind at.seg at.word in
      let kept = after_mark first x.store k.kept kind at.seg at.word p word in
      let kept_other = after_mark other y.store k.kept_other kind at.seg at.word p word in
      let puts = each_map _ (IsSegmentChange L.sdws L.spots) spot_of_reached (changes x.claims pending) (each_change (IsReached L.sdws L.spots r) x.claims k.claimed pending) in
      let here = words_read s t kept kept_other (changes x.claims pending) puts at.seg at.word sees list words in
      let read : map (o.word (o.put s (changes x.claims pending))) list ≡ map (o.word (o.put t (changes y.claims pending))) list = here ∙ ap (λ (c : List Spot). map (o.word (o.put t (changes c pending))) list) k.claims in
      let number : length x.claims ≡ length y.claims = ap length k.claims in
      record {
        reply = λ i. Ok (record { sdw = d; words = read i; first = number i; place = 0 });
        mid = record { kept = kept; kept_other = kept_other; claims = k.claims; refs = same; claimed = k.claimed; allowed = each };
        known = known_answer _ _ live allowed _ refl;
      }

  abbrev write_answer : AtFields → SdwFields → Midstep S → List Spot → List Reference → ServeResult S
  write_answer at d m list refs =
      record {
        reply = Ok (record { sdw = d; first = length m.claims; place = 0; words = [] });
        mid = record { store = o.marked m.store g.dbr Write at.seg at.word; claims = m.claims ++ list; refs = refs };
      }

  served_writing : (at : AtFields) (count : ℕ) (pending : List Put) (d : SdwFields) → L.sdws at.seg ≡ Ok d → Allows Write at d → Reaches L.sdws r at.seg → (x y : Midstep S) → Stand x y → (list : List Spot) (p : Spot) → IsPlacedWord L.sdws L.spots at.seg at.word p → AreWords L.sdws L.spots at.seg at.word list → (refs more : List Reference) → refs ≡ more → Each (IsAllowedReference L.sdws r) refs → Serves (asked Write at count pending) (write_answer at d x list refs) (write_answer at d y list more)
  served_writing at count pending d live allowed reaches x y k list p word words refs more same each =
      let number : length x.claims ≡ length y.claims = ap length k.claims in
      record {
        reply = λ i. Ok (record { sdw = d; words = []; first = number i; place = 0 });
        mid = record {
          kept = after_mark first x.store k.kept Write at.seg at.word p word;
          kept_other = after_mark other y.store k.kept_other Write at.seg at.word p word;
          claims = ap (λ (c : List Spot). c ++ list) k.claims;
          refs = same;
          claimed = each_append (IsReached L.sdws L.spots r) x.claims list k.claimed (all_reached at.seg at.word reaches list words);
          allowed = each;
        };
        known = known_answer _ _ live allowed _ refl;
      }

  abbrev plain_answer : SdwFields → ℕ → Midstep S → ServeResult S
  plain_answer d place m =
      record { reply = Ok (record { sdw = d; first = length m.claims; place = place; words = [] }); mid = m }

  served_plain : (q : Request) (d : SdwFields) (place : ℕ) → L.sdws q.at.seg ≡ Ok d → Allows q.kind q.at d → (x y : Midstep S) → Stand x y → Serves q (plain_answer d place x) (plain_answer d place y)
  served_plain q d place live allowed x y k =
      let number : length x.claims ≡ length y.claims = ap length k.claims in
      record {
        reply = λ i. Ok (record { sdw = d; words = []; first = number i; place = place });
        mid = k;
        known = known_answer _ _ live allowed _ refl;
      }

  -- a refusal changes nothing
  served_refused : (q : Request) (f : Fault) (x y : Midstep S) → Stand x y → Serves q (record { reply = Err f; mid = x }) (record { reply = Err f; mid = y })
  served_refused q f x y k = record { reply = refl; mid = k; known = λ a e. cc }

  each_odd : (q : Request) → Sees L.sdws r q.at.seg → (refs : List Reference) → Each (IsAllowedReference L.sdws r) refs → Each (IsAllowedReference L.sdws r) (with_odd q refs)
  each_odd q sees [] h = tt
  each_odd q sees (e ∷ []) h = (sees, tt)
  each_odd q sees (e ∷ f ∷ refs) h = (h.0, each_odd q sees (f ∷ refs) h.1)

  found_reading : (kind : RequestKind) (at : AtFields) (count : ℕ) (pending : List Put) → 1 ≤ count → (d : SdwFields) → L.sdws at.seg ≡ Ok d → Allows kind at d → Sees L.sdws r at.seg → (x y : Midstep S) → Stand x y → (list : List Spot) → spots_of o x.store g.dbr d at.seg at.word count ≡ Ok list → (refs more : List Reference) → refs ≡ more → Each (IsAllowedReference L.sdws r) refs → Serves (asked kind at count pending) (read_answer kind at pending d x list refs) (read_answer kind at pending d y list more)
  found_reading kind at count pending some d live allowed sees x y k list found refs more same each =
      let ordered = denied_order kind d at.ring g.ppr.prr (at.seg == g.ppr.psr) at.word allowed in
      let b = begins o g.dbr Has Lies Near L at.seg d live ordered x.store k.kept.has at.word count list some found in
      let words = are_words o g.dbr Has Lies Near L at.seg d live ordered x.store k.kept.has at.word count list found in
      served_reading kind at count pending d live allowed sees x y k list b.spot b.word words refs more same each

  -- after the places were found
  by_list : (kind : RequestKind) (at : AtFields) (count : ℕ) (pending : List Put) → 1 ≤ count → MayRing L.sdws r g kind at.ring → (d : SdwFields) → L.sdws at.seg ≡ Ok d → Allows kind at d → (x y : Midstep S) → Stand x y → (v : Result (List Spot) (ℕ × Refusal)) → spots_of_request o x.store g.dbr d (asked kind at count pending) ≡ v → Serves (asked kind at count pending) (serve_places o g x (asked kind at count pending) d v) (serve_places o g y (asked kind at count pending) d v)
  unfolding spots_of_request
  by_list kind at count pending some ring d live allowed x y k (Err e) found = served_refused _ _ x y k
  by_list Transfer at count pending some ring d live allowed x y k (Ok list) found = served_plain (asked Transfer at count pending) d 0 live allowed x y k
  by_list Call at count pending some ring d live allowed x y k (Ok list) found = served_plain (asked Call at count pending) d 0 live allowed x y k
  by_list Locate at count pending some ring d live allowed x y k (Ok list) found = served_plain (asked Locate at count pending) d (located_address Locate list) live allowed x y k
  by_list Fetch at count pending some ring d live allowed x y k (Ok list) found =
      let sees = fetcher at.seg d live (fetch_rights d at.ring g.ppr.prr (at.seg == g.ppr.psr) at.word allowed) in
      found_reading Fetch at count pending some d live allowed sees x y k list found _ _ (ap (one_more Fetch at count pending) k.refs) (each_append (IsAllowedReference L.sdws r) x.refs _ k.allowed (sees, tt))
  by_list Indirect at count pending some ring d live allowed x y k (Ok list) found =
      let sees = reader at.seg at.ring d live (indirect_rights d at.ring g.ppr.prr (at.seg == g.ppr.psr) at.word allowed) ring.0 ring.1 in
      found_reading Indirect at count pending some d live allowed sees x y k list found _ _ (ap (one_more Indirect at count pending) k.refs) (each_append (IsAllowedReference L.sdws r) x.refs _ k.allowed (sees, tt))
  by_list Odd at count pending some ring d live allowed x y k (Ok list) found =
      let sees = reader at.seg at.ring d live (odd_rights d at.ring g.ppr.prr (at.seg == g.ppr.psr) at.word allowed) ring.0 ring.1 in
      found_reading Odd at count pending some d live allowed sees x y k list found _ _ (ap (one_more Odd at count pending) k.refs) (each_odd (asked Odd at count pending) sees x.refs k.allowed)
  by_list Read at count pending some ring d live allowed x y k (Ok list) found =
      let sees = reader at.seg at.ring d live (read_rights d at.ring g.ppr.prr (at.seg == g.ppr.psr) at.word allowed) ring.0 ring.1 in
      found_reading Read at count pending some d live allowed sees x y k list found _ _ (ap (one_more Read at count pending) k.refs) (each_append (IsAllowedReference L.sdws r) x.refs _ k.allowed (sees, tt))
  by_list Write at count pending some ring d live allowed x y k (Ok list) found =
      let ordered = denied_order Write d at.ring g.ppr.prr (at.seg == g.ppr.psr) at.word allowed in
      let b = begins o g.dbr Has Lies Near L at.seg d live ordered x.store k.kept.has at.word count list some found in
      let words = are_words o g.dbr Has Lies Near L at.seg d live ordered x.store k.kept.has at.word count list found in
      let may = write_rights d at.ring g.ppr.prr (at.seg == g.ppr.psr) at.word allowed in
      let reaches : Reaches L.sdws r at.seg = record { sdw = d; live = live; opens = may.writable; high = le_trans ring may.high } in
      let refs = ap (one_more Write at count pending) k.refs in
      served_writing at count pending d live allowed reaches x y k list b.spot b.word words _ _ refs (each_append (IsAllowedReference L.sdws r) x.refs _ k.allowed (reaches, tt))

  -- both stores find the same places
  same_places : (kind : RequestKind) (at : AtFields) (count : ℕ) (pending : List Put) (d : SdwFields) → L.sdws at.seg ≡ Ok d → has_ordered_brackets d ≡ true → (s t : S) → Has s → Has t → spots_of_request o s g.dbr d (asked kind at count pending) ≡ spots_of_request o t g.dbr d (asked kind at count pending)
  unfolding spots_of_request
  same_places Transfer at count pending d live ordered s t h l = refl
  same_places Call at count pending d live ordered s t h l = refl
  same_places kind at count pending d live ordered s t h l =
      same_spots o g.dbr Has Lies Near L at.seg d live ordered s t h l at.word count

  by_places : (q : Request) → May L.sdws r g q → (d : SdwFields) → L.sdws q.at.seg ≡ Ok d → Allows q.kind q.at d → (x y : Midstep S) → Stand x y → Serves q (serve_places o g x q d (spots_of_request o x.store g.dbr d q)) (serve_places o g y q d (spots_of_request o y.store g.dbr d q))
  by_places q may d live allowed x y k =
      let ordered = denied_order q.kind d q.at.ring g.ppr.prr (q.at.seg == g.ppr.psr) q.at.word allowed in
      let same = same_places q.kind q.at q.count q.pending d live ordered x.store y.store k.kept.has k.kept_other.has in
      subst (λ (v : Result (List Spot) (ℕ × Refusal)). Serves q (serve_places o g x q d (spots_of_request o x.store g.dbr d q)) (serve_places o g y q d v)) same (by_list q.kind q.at q.count q.pending may.some may.ring d live allowed x y k (spots_of_request o x.store g.dbr d q) refl)

  by_rights : (q : Request) → May L.sdws r g q → (d : SdwFields) → L.sdws q.at.seg ≡ Ok d → (v : Option ℕ) → refusing_violation q.kind d q.at.ring g.ppr.prr (q.at.seg == g.ppr.psr) q.at.word ≡ v → (x y : Midstep S) → Stand x y → Serves q (serve_rights o g x q d v) (serve_rights o g y q d v)
  by_rights q may d live (Some acv) e x y k = served_refused q _ x y k
  by_rights q may d live None e x y k = by_places q may d live e x y k

  by_sdw : (q : Request) → May L.sdws r g q → (v : Result SdwFields Refusal) → L.sdws q.at.seg ≡ v → (x y : Midstep S) → Stand x y → Serves q (serve_sdw o g x q v) (serve_sdw o g y q v)
  by_sdw q may (Err why) e x y k = served_refused q _ x y k
  by_sdw q may (Ok d) e x y k =
      by_rights q may d e (refusing_violation q.kind d q.at.ring g.ppr.prr (q.at.seg == g.ppr.psr) q.at.word) refl x y k

  -- A request that may be made has equal replies from both stores.
  pub serve_alike : (x y : Midstep S) (q : Request) → May L.sdws r g q → Stand x y → Serves q (serve o g x q) (serve o g y q)
  unfolding serve
  serve_alike x y q may k =
      let here = L.sdw_is x.store k.kept.has q.at.seg in
      let there = L.sdw_is y.store k.kept_other.has q.at.seg in
      subst (λ (v : Result SdwFields Refusal). Serves q (serve_sdw o g x q v) (serve_sdw o g y q (o.sdw y.store g.dbr q.at.seg))) (sym here) (subst (λ (v : Result SdwFields Refusal). Serves q (serve_sdw o g x q (L.sdws q.at.seg)) (serve_sdw o g y q v)) (sym there) (by_sdw q may (L.sdws q.at.seg) refl x y k))
