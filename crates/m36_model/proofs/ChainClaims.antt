-- The claims of a chain: the spot of its tally word, or none. And runs of one program after
-- another.
use Rattle.std.proofs.Common.{ℕ, zero, suc, ◌≡◌, ◌+◌, refl, ap, ◌∙◌, ◌==◌, ◌%◌, Option, Some, None, Bool, true, false, List, [], ◌∷◌, ◌++◌, length, slice_index, Result, Ok, Err, arith}
use Rattle.m36_desc.specs.Fields.{SdwFields}
use Rattle.m36_model.specs.Registers.{RegsFields}
use Rattle.m36_model.specs.Act.{RequestKind, Fetch, Indirect, Odd, Read, Write, Transfer, Call, Locate, Whole, Request, Answer, Act, done, ask, and_then, answered}
use Rattle.m36_model.specs.Store.{Spot, Store, Midstep, ServeResult, ProgramResult, serve, serve_sdw, serve_rights, serve_places, refusing_violation, spots_of_request, run}
use Rattle.m36_model.specs.Modification.{Point, Move, Ends, Fails, Reads, Counts, move_of_point}
use Rattle.m36_model.specs.Tally.{tally, indirect_only}
use Rattle.m36_model.specs.Chain.{ChainEnd, IndirectKind, Its, Itp, Plain, indirect_kind, indirect_request, its_point, itp_point, tally_end, chain, chain_by, chain_exhausted, after_word, after_tally}
use Rattle.m36_model.proofs.PutLaw.{IsTallied, no_tally, tallied_at}
use Rattle.m36_model.proofs.OperandWordsLaw.{written_words}
use Rattle.m36_model.specs.declared.outcome.Fault.{Fault}
use Rattle.m36_model.specs.declared.outcome.Refusal.{Refusal}
use Rattle.m36_model.specs.declared.outcome.Halt.{Halt}

-- a run of one program after another
pub run_then : {A B S : Type 0} (o : Store S) (g : RegsFields) (act : Act A) (k : A → Act B) (m : Midstep S) → run o g (and_then act k) m ≡ run o g (k (run o g act m).value) (run o g act m).mid
unfolding run and_then
run_then o g (done a) k m = refl
run_then o g (ask q next) k m = let t = serve o g m q in run_then o g (next t.reply) k t.mid

-- a request that writes nothing claims nothing
module _ {S : Type 0} (o : Store S) (g : RegsFields) (m : Midstep S) where
  abbrev pub Same : Midstep S → Type 0
  Same x = x.claims ≡ m.claims

  same_by_places : (q : Request) (k : RequestKind) → q.kind ≡ k → (k ≡ Write → ⊥) → (d : SdwFields) (r : Result (List Spot) (ℕ × Refusal)) → Same (serve_places o g m q d r).mid
  same_by_places q k e no_write d (Err f) = refl
  same_by_places q Write e no_write d (Ok spots) = absurd (no_write refl)
  same_by_places q Fetch e no_write d (Ok spots) = rw e refl
  same_by_places q Indirect e no_write d (Ok spots) = rw e refl
  same_by_places q Odd e no_write d (Ok spots) = rw e refl
  same_by_places q Read e no_write d (Ok spots) = rw e refl
  same_by_places q Transfer e no_write d (Ok spots) = rw e refl
  same_by_places q Call e no_write d (Ok spots) = rw e refl
  same_by_places q Locate e no_write d (Ok spots) = rw e refl

  same_by_rights : (q : Request) → (q.kind ≡ Write → ⊥) → (d : SdwFields) (r : Option ℕ) → Same (serve_rights o g m q d r).mid
  same_by_rights q no_write d (Some acv) = refl
  same_by_rights q no_write d None = same_by_places q q.kind refl no_write d (spots_of_request o m.store g.dbr d q)

  same_by_sdw : (q : Request) → (q.kind ≡ Write → ⊥) → (r : Result SdwFields Refusal) → Same (serve_sdw o g m q r).mid
  same_by_sdw q no_write (Err why) = refl
  same_by_sdw q no_write (Ok d) =
      same_by_rights q no_write d (refusing_violation q.kind d q.at.ring g.ppr.prr (q.at.seg == g.ppr.psr) q.at.word)

  pub same_claims : (q : Request) → (q.kind ≡ Write → ⊥) → Same (serve o g m q).mid
  unfolding serve
  same_claims q no_write = same_by_sdw q no_write (o.sdw m.store g.dbr q.at.seg)

-- a known reply, as a whole answer
pub served_as : {S : Type 0} (t : ServeResult S) (reply : Result Answer Fault) → t.reply ≡ reply → t ≡ record { reply = reply; mid = t.mid }
served_as t reply e = λ i. record { reply = e i; mid = t.mid }

one_spot : (spots : List Spot) → length spots ≡ 1 → (spot : Spot) × (spots ≡ spot ∷ [])
one_spot [] e = absurd (omega arith)
one_spot (x ∷ []) e = (x, refl)
one_spot (x ∷ y ∷ spots) e = absurd (omega arith)

-- A chain that ends has claimed the spot of its tally word, or nothing.
abbrev pub PostOf : {S : Type 0} → Result ChainEnd Halt → Midstep S → Type 0
PostOf (Ok c) m = IsTallied c m.claims
PostOf (Err h) m = Unit {0}

abbrev pub Post : {S : Type 0} → ProgramResult (Result ChainEnd Halt) S → Type 0
Post x = PostOf x.value x.mid

module _ {S : Type 0} (o : Store S) (g : RegsFields) (next : Point → Act (Result ChainEnd Halt)) (more : (p : Point) (m : Midstep S) → m.claims ≡ [] → Post (run o g (next p) m)) (p : Point) where
  post_odd : (to : ℕ → Point) (m : Midstep S) (reply : Result Answer Fault) → m.claims ≡ [] → Post (run o g (answered (λ b. next (to (slice_index b.words 0))) reply) m)
  unfolding run
  post_odd to m (Ok b) e = more (to (slice_index b.words 0)) m e
  post_odd to m (Err f) e = tt

  post_found : (word : ℕ) (held : Option ℕ) (a : Answer) (m : Midstep S) (f : IndirectKind) → m.claims ≡ [] → Post (run o g (after_word next g p word held a f) m)
  unfolding run
  post_found word held a m Plain e = more _ m e
  post_found word held a m Its e =
      let q = indirect_request Odd p (word + 1) in
      let t = serve o g m q in
      post_odd (λ odd. its_point p word held (slice_index a.words 0) odd a.sdw.r1) t.mid t.reply (same_claims o g m q (λ x. cc) ∙ e)
  post_found word held a m Itp e =
      let q = indirect_request Odd p (word + 1) in
      let t = serve o g m q in
      post_odd (λ odd. itp_point g p word held (slice_index a.words 0) odd a.sdw.r1) t.mid t.reply (same_claims o g m q (λ x. cc) ∙ e)

  post_even : (word : ℕ) (held : Option ℕ) (m : Midstep S) (reply : Result Answer Fault) → m.claims ≡ [] → Post (run o g (answered (λ a. after_word next g p word held a (indirect_kind word (slice_index a.words 0))) reply) m)
  unfolding run
  post_even word held m (Ok a) e = post_found word held a m (indirect_kind word (slice_index a.words 0)) e
  post_even word held m (Err f) e = tt

  post_claimed : (a : Answer) (m : Midstep S) (reply : Result Answer Fault) → m.claims ≡ [] → (serve o g m (indirect_request Write p p.y)).reply ≡ reply → Post (run o g (answered (λ b. done (Ok (tally_end p b.first (tally (p.tag % 16) (slice_index a.words 0))))) reply) (serve o g m (indirect_request Write p p.y)).mid)
  unfolding run
  post_claimed a m (Err f) e r = tt
  post_claimed a m (Ok b) e r =
      let q = indirect_request Write p p.y in
      let t = serve o g m q in
      let u = written_words o g m t.mid q b refl (served_as t (Ok b) r) in
      let one = one_spot u.spots u.places.count in
      let first : b.first ≡ 0 = u.first ∙ ap length e in
      let claims : t.mid.claims ≡ one.0 ∷ [] = u.claims ∙ ap (λ (c : List Spot). c ++ u.spots) e ∙ one.1 in
      tallied_at one.0 _ (ap (λ (n : ℕ). record { claim = n; part = Whole; value = (tally (p.tag % 16) (slice_index a.words 0)).word } ∷ []) first) claims

  post_tally_by : (a : Answer) (m : Midstep S) (i : Bool) → m.claims ≡ [] → Post (run o g (after_tally p (p.tag % 16) a i) m)
  unfolding run
  post_tally_by a m true e = no_tally refl e
  post_tally_by a m false e = post_claimed a m (serve o g m (indirect_request Write p p.y)).reply e refl

  post_tally : (m : Midstep S) (reply : Result Answer Fault) → m.claims ≡ [] → Post (run o g (answered (λ a. after_tally p (p.tag % 16) a (p.tag % 16 == indirect_only)) reply) m)
  unfolding run
  post_tally m (Ok a) e = post_tally_by a m (p.tag % 16 == indirect_only) e
  post_tally m (Err f) e = tt

  post_move : (v : Move) (m : Midstep S) → m.claims ≡ [] → Post (run o g (chain_by next g p v) m)
  unfolding run
  post_move (Ends last) m e = no_tally refl e
  post_move (Fails h) m e = tt
  post_move (Reads word held) m e =
      let q = indirect_request Indirect p word in
      let t = serve o g m q in
      post_even word held t.mid t.reply (same_claims o g m q (λ x. cc) ∙ e)
  post_move Counts m e =
      let q = indirect_request Indirect p p.y in
      let t = serve o g m q in post_tally t.mid t.reply (same_claims o g m q (λ x. cc) ∙ e)

post_exhausted : {S : Type 0} (o : Store S) (g : RegsFields) (p : Point) (v : Move) (m : Midstep S) → m.claims ≡ [] → Post (run o g (chain_exhausted p v) m)
unfolding run
post_exhausted o g p (Ends last) m e = no_tally refl e
post_exhausted o g p (Fails h) m e = tt
post_exhausted o g p (Reads word held) m e = tt
post_exhausted o g p Counts m e = tt

pub chain_claims : {S : Type 0} (o : Store S) (g : RegsFields) (n : ℕ) (p : Point) (m : Midstep S) → m.claims ≡ [] → Post (run o g (chain n g p) m)
unfolding chain
chain_claims o g zero p m e = post_exhausted o g p (move_of_point g p) m e
chain_claims o g (suc n) p m e =
    post_move o g (chain n g) (λ q k h. chain_claims o g n q k h) p (move_of_point g p) m e
