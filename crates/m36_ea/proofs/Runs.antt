-- How the program of an address chain runs over core, one point at a time.
use Rattle.std.proofs.Common.{ℕ, zero, suc, ◌≡◌, ◌+◌, ◌-◌, ◌%◌, ◌==◌, Bool, refl, ap, sym, ◌∙◌, List, [], ◌∷◌, ◌++◌, Option, Some, None, Result, Ok, Err, true, false, arith}
use Rattle.m36_model.specs.Fields.{AtFields, FinalFields}
use Rattle.m36_model.specs.Registers.{RegsFields}
use Rattle.m36_model.specs.Act.{Indirect, Odd, Write, Request, Answer, Act, done, ask}
use Rattle.m36_model.specs.Store.{Midstep, ServeResult, ProgramResult, serve, run, with_odd}
use Rattle.m36_model.specs.Core.{core_store}
use Rattle.m36_model.specs.Modification.{Point, Move, Ends, Fails, Reads, Counts, at_point, final_at, move_of_point}
use Rattle.m36_model.specs.Chain.{ChainEnd, Formation, IndirectKind, Plain, Its, Itp, indirect_kind, indirect_request, plain_point, its_point, itp_point, after_word, after_tally, chain, chain_by, chain_exhausted, lockup}
use Rattle.m36_model.specs.Tally.{tally, tally_address, indirect_only}
use Rattle.m36_model.specs.declared.outcome.Fault.{Fault}
use Rattle.m36_model.specs.declared.outcome.Halt.{Halt}
use Rattle.m36_model.specs.declared.outcome.Halt.TheVariants as halt
use Rattle.m36_model.specs.declared.place.Reference.{Reference}
use Rattle.m36_model.specs.declared.place.Kind.TheVariants as reference
use Rattle.m36_walk.specs.Memory.{Memory}
use Rattle.m36_walk.specs.Runs.{run_from}
use Rattle.m36_walk.specs.Served.{midstep_with, sdw_in, request, served_with_words, ServesClaim}
use Rattle.m36_ea.specs.Points.{indirect_reference, ServesIndirect, ServesOdd, continue_with, counted_end}

-- an odd word joins the even one before it
pub odd_joins : (q : Request) (refs : List Reference) (e : Reference) → with_odd q (refs ++ e ∷ []) ≡ refs ++ record { kind = reference.Indirect; at = record { seg = q.at.seg; word = q.at.word - 1; ring = q.at.ring }; count = 2 } ∷ []
odd_joins q [] e = refl
odd_joins q (r ∷ []) e = refl
odd_joins q (r ∷ s ∷ refs) e = ap (λ (xs : List Reference). r ∷ xs) (odd_joins q (s ∷ refs) e)

-- a pair that is read is one reference to two words
pub odd_served : (g : RegsFields) (p : Point) (word : ℕ) (m : Memory) (refs refs' : List Reference) (core : List ℕ) (w : ℕ) (at : AtFields) → at ≡ at_point p (word + 1) → serve core_store g (midstep_with m.core [] (refs ++ indirect_reference p word 1 ∷ [])) (request Odd at 1 []) ≡ served_with_words (request Odd at 1 []) (sdw_in m at.seg) core [] (refs ++ indirect_reference p word 1 ∷ []) (Ok (w ∷ [])) → refs' ≡ refs ++ indirect_reference p word 2 ∷ []
    → ServesOdd g p word m refs core refs' (Ok w)
odd_served g p word m refs refs' core w at e h joined =
    let n : word + 1 - 1 ≡ word = omega arith in
    let one : with_odd (request Odd (at_point p (word + 1)) 1 []) (refs ++ indirect_reference p word 1 ∷ []) ≡ refs' = rw (odd_joins (request Odd (at_point p (word + 1)) 1 []) refs (indirect_reference p word 1), n) (sym joined) in
    rw (e, one) at h

-- a reference that is served continues by its reply
pub run_ask : {A : Type 0} (g : RegsFields) (q : Request) (next : Result Answer Fault → Act A) (m : Midstep (List ℕ)) (t : ServeResult (List ℕ)) → serve core_store g m q ≡ t → run core_store g (ask q next) m ≡ run core_store g (next t.reply) t.mid
unfolding run
run_ask g q next m t e = ap (λ (s : ServeResult (List ℕ)). run core_store g (next s.reply) s.mid) e

pub run_done : {A : Type 0} (g : RegsFields) (a : A) (m : Midstep (List ℕ)) → run core_store g (done a) m ≡ record { value = a; mid = m }
unfolding run
run_done g a m = refl

-- A point that reads an indirect word: m is core before it, and m' after its even word.
module _ (g : RegsFields) (p : Point) (word : ℕ) (held : Option ℕ) (m m' : Memory) (refs : List Reference) (next : Point → Formation) where
  abbrev reading : ProgramResult (Result ChainEnd Halt) (List ℕ)
  reading = run core_store g (chain_by next g p (Reads word held)) (midstep_with m.core [] refs)

  abbrev after : List ℕ → List Reference → Result Point Fault → ProgramResult (Result ChainEnd Halt) (List ℕ)
  after core refs' result = run core_store g (continue_with next result) (midstep_with core [] refs')

  abbrev one_more : List Reference
  one_more = refs ++ indirect_reference p word 1 ∷ []

  abbrev even : ℕ → Answer
  even w = record { sdw = sdw_in m p.seg; words = w ∷ []; first = 0; place = 0 }

  -- the indirect word is refused
  pub follows_refused : (f : Fault) → ServesIndirect g p word m m'.core (Err f) → reading ≡ after m'.core refs (Err f)
  follows_refused f h = run_ask g (indirect_request Indirect p word) _ (midstep_with m.core [] refs) _ (h refs)

  -- after the even word was read
  after_even : (w : ℕ) (f : IndirectKind) → ServesIndirect g p word m m'.core (Ok w) → f ≡ indirect_kind word w → reading ≡ run core_store g (after_word next g p word held (even w) f) (midstep_with m'.core [] one_more)
  after_even w f h e =
      run_ask g (indirect_request Indirect p word) _ (midstep_with m.core [] refs) _ (h refs) ∙ ap (λ (x : IndirectKind). run core_store g (after_word next g p word held (even w) x) (midstep_with m'.core [] one_more)) (sym e)

  module _ (w r1 : ℕ) (h : ServesIndirect g p word m m'.core (Ok w)) (r : r1 ≡ (sdw_in m p.seg).r1) where
    pub follows_plain : Plain ≡ indirect_kind word w → reading ≡ after m'.core one_more (Ok (plain_point p word held w r1))
    follows_plain e = rw r (after_even w Plain h e)

    module _ (core : List ℕ) (refs' : List Reference) where
      pub follows_its : (odd : ℕ) → Its ≡ indirect_kind word w → ServesOdd g p word m' refs core refs' (Ok odd) → reading ≡ after core refs' (Ok (its_point p word held w odd r1))
      follows_its odd e o =
          rw r (after_even w Its h e ∙ run_ask g (indirect_request Odd p (word + 1)) _ (midstep_with m'.core [] one_more) _ o)

      pub follows_itp : (odd : ℕ) → Itp ≡ indirect_kind word w → ServesOdd g p word m' refs core refs' (Ok odd) → reading ≡ after core refs' (Ok (itp_point g p word held w odd r1))
      follows_itp odd e o =
          rw r (after_even w Itp h e ∙ run_ask g (indirect_request Odd p (word + 1)) _ (midstep_with m'.core [] one_more) _ o)

      pub its_refused : (f : Fault) → Its ≡ indirect_kind word w → ServesOdd g p word m' refs core refs' (Err f) → reading ≡ after core refs' (Err f)
      its_refused f e o =
          after_even w Its h e ∙ run_ask g (indirect_request Odd p (word + 1)) _ (midstep_with m'.core [] one_more) _ o

      pub itp_refused : (f : Fault) → Itp ≡ indirect_kind word w → ServesOdd g p word m' refs core refs' (Err f) → reading ≡ after core refs' (Err f)
      itp_refused f e o =
          after_even w Itp h e ∙ run_ask g (indirect_request Odd p (word + 1)) _ (midstep_with m'.core [] one_more) _ o

-- A point that reads a tally word: m is core before it, and m' after it.
module _ (g : RegsFields) (p : Point) (m m' : Memory) (refs : List Reference) (next : Point → Formation) where
  abbrev counting : ProgramResult (Result ChainEnd Halt) (List ℕ)
  counting = run core_store g (chain_by next g p Counts) (midstep_with m.core [] refs)

  abbrev one_tally : List Reference
  one_tally = refs ++ indirect_reference p p.y 1 ∷ []

  abbrev tally_read : ℕ → Answer
  tally_read w = record { sdw = sdw_in m p.seg; words = w ∷ []; first = 0; place = 0 }

  pub counts_refused : (f : Fault) → ServesIndirect g p p.y m m'.core (Err f) → counting ≡ counted_end m'.core refs (Err f)
  counts_refused f h =
      run_ask g (indirect_request Indirect p p.y) _ (midstep_with m.core [] refs) _ (h refs) ∙ run_done g (Err (halt.Fault f)) (midstep_with m'.core [] refs)

  module _ (w : ℕ) (h : ServesIndirect g p p.y m m'.core (Ok w)) where
    after_read : (i : Bool) → (p.tag % 16 == indirect_only) ≡ i → counting ≡ run core_store g (after_tally p (p.tag % 16) (tally_read w) i) (midstep_with m'.core [] one_tally)
    after_read i e =
        run_ask g (indirect_request Indirect p p.y) _ (midstep_with m.core [] refs) _ (h refs) ∙ ap (λ (x : Bool). run core_store g (after_tally p (p.tag % 16) (tally_read w) x) (midstep_with m'.core [] one_tally)) e

    -- the tag I does not change its word
    pub counts_indirect_only : (p.tag % 16 == indirect_only) ≡ true → counting ≡ counted_end m'.core one_tally (Ok (record { last = final_at p (tally_address w) None; tally = None; place = 0 }))
    counts_indirect_only e =
        after_read true e ∙ run_done g _ (midstep_with m'.core [] one_tally)

    module _ (core : List ℕ) (dbr : g.dbr ≡ m'.dbr) where
      pub counts_write_refused : (f : Fault) → (p.tag % 16 == indirect_only) ≡ false → ServesClaim m' core (at_point p p.y) 1 (Err f) → counting ≡ counted_end core one_tally (Err f)
      counts_write_refused f e c =
          after_read false e ∙ run_ask g (indirect_request Write p p.y) _ (midstep_with m'.core [] one_tally) _ (c g dbr [] one_tally []) ∙ run_done g (Err (halt.Fault f)) (midstep_with core [] one_tally)

      pub counts_claimed : (place : ℕ) → (p.tag % 16 == indirect_only) ≡ false → ServesClaim m' core (at_point p p.y) 1 (Ok place)
          → counting ≡ counted_end core (one_tally ++ record { kind = reference.Write; at = at_point p p.y; count = 1 } ∷ []) (Ok (record {
            last = final_at p (tally (p.tag % 16) w).address None;
            tally = Some (record { word = (tally (p.tag % 16) w).word; at = at_point p p.y; runout = (tally (p.tag % 16) w).runs_out });
            place = place;
          }))
      unfolding run_from
      counts_claimed place e c =
          after_read false e ∙ run_ask g (indirect_request Write p p.y) _ (midstep_with m'.core [] one_tally) _ (c g dbr [] one_tally []) ∙ run_done g _ _

-- One step of a chain, by what the tag of its point does.
module _ (g : RegsFields) (p : Point) (m : Midstep (List ℕ)) where
  turn_of : (n : ℕ) (v : Move) (r : ProgramResult (Result ChainEnd Halt) (List ℕ)) → v ≡ move_of_point g p → run core_store g (chain_exhausted p v) m ≡ r → ((k : ℕ) → run core_store g (chain_by (chain k g) g p v) m ≡ r) → run core_store g (chain n g p) m ≡ r
  unfolding chain
  turn_of zero v r e last more =
      ap (λ (x : Move). run core_store g (chain_exhausted p x) m) (sym e) ∙ last
  turn_of (suc k) v r e last more =
      ap (λ (x : Move). run core_store g (chain_by (chain k g) g p x) m) (sym e) ∙ more k

  pub chain_ends : (n : ℕ) (last : FinalFields) → Ends last ≡ move_of_point g p → run core_store g (chain n g p) m ≡ record { value = Ok (record { last = last; pending = []; runout = None }); mid = m }
  chain_ends n last e = turn_of n (Ends last) _ e (run_done g _ m) (λ k. run_done g _ m)

  pub chain_fails : (n : ℕ) (h : Halt) → Fails h ≡ move_of_point g p → run core_store g (chain n g p) m ≡ record { value = Err h; mid = m }
  chain_fails n h e = turn_of n (Fails h) _ e (run_done g _ m) (λ k. run_done g _ m)

  -- no more indirect words may be read
  pub chain_locks : (word : ℕ) (held : Option ℕ) → Reads word held ≡ move_of_point g p → run core_store g (chain 0 g p) m ≡ record { value = Err (lockup p word); mid = m }
  unfolding chain
  chain_locks word held e =
      ap (λ (x : Move). run core_store g (chain_exhausted p x) m) (sym e) ∙ run_done g _ m

  pub chain_locks_tally : Counts ≡ move_of_point g p → run core_store g (chain 0 g p) m ≡ record { value = Err (lockup p p.y); mid = m }
  unfolding chain
  chain_locks_tally e =
      ap (λ (x : Move). run core_store g (chain_exhausted p x) m) (sym e) ∙ run_done g _ m

  -- more indirect words may be read
  pub chain_reads : (n k : ℕ) (v : Move) → n ≡ suc k → v ≡ move_of_point g p → run core_store g (chain n g p) m ≡ run core_store g (chain_by (chain k g) g p v) m
  unfolding chain
  chain_reads n k v less e =
      ap (λ (x : ℕ). run core_store g (chain x g p) m) less ∙ ap (λ (x : Move). run core_store g (chain_by (chain k g) g p x) m) (sym e)
