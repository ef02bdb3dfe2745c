-- There is exactly one chain, and the program that forms an address gives its answer.
use Rattle.std.proofs.Common.{ℕ, zero, suc, ◌≡◌, ◌+◌, ◌≤◌, refl, sym, ◌∙◌, subst, Bool, true, false, ◌==◌, ◌%◌, nat_lt, List, [], ◌∷◌, length, Option, Result, Ok, Err, slice_index, arith}
use Rattle.m36_model.specs.Registers.{RegsFields}
use Rattle.m36_model.specs.Act.{Indirect, Odd, Write, Answer, done, answered}
use Rattle.m36_model.specs.Store.{Store, Midstep, ProgramResult, serve, run}
use Rattle.m36_model.specs.Core.{core_store}
use Rattle.m36_model.specs.Modification.{Point, Move, Ends, Fails, Reads, Counts, move_of_point}
use Rattle.m36_model.specs.Tally.{tally, indirect_only}
use Rattle.m36_model.specs.Chain.{ChainEnd, IndirectKind, Its, Itp, Plain, indirect_kind, indirect_request, its_point, itp_point, tally_end, chain, chain_by, chain_exhausted, after_word, after_tally}
use Rattle.m36_model.specs.ChainList.{Stage, ChainStep, Goes, Closes, chain_step, chain_step_by, after_odd_word, after_indirect_word, after_indirect_reference, after_tally_claim, after_tally_read_by, after_tally_read, IsChain, IsOneChain, OneChain, first_stage}
use Rattle.m36_model.specs.Step.{indirect_words}
use Rattle.m36_model.specs.declared.outcome.Fault.{Fault}
use Rattle.m36_model.specs.declared.outcome.Halt.{Halt}

module _ {S : Type 0} (o : Store S) (g : RegsFields) (k : ℕ) (s : Stage S) where
  -- The run of the chain from here on, if k more indirect words may be read after this point,
  -- agrees with the turn.
  abbrev Agrees : ProgramResult (Result ChainEnd Halt) S → ChainStep S → Type 0
  Agrees x (Goes b) = (b.count ≡ s.count + 1) × (x ≡ run o g (chain k g b.point) b.mid)
  Agrees x (Closes r) = x ≡ r

  agree_odd : (next : ℕ → Point) (m : Midstep S) (reply : Result Answer Fault) → Agrees (run o g (answered (λ b. chain k g (next (slice_index b.words 0))) reply) m) (after_odd_word s next m reply)
  unfolding run
  agree_odd next m (Ok b) = (refl, refl)
  agree_odd next m (Err f) = refl

  agree_found : (word : ℕ) (held : Option ℕ) (a : Answer) (m : Midstep S) (f : IndirectKind) → Agrees (run o g (after_word (chain k g) g s.point word held a f) m) (after_indirect_word o g s word held a m f)
  unfolding run
  agree_found word held a m Plain = (refl, refl)
  agree_found word held a m Its =
      agree_odd (λ odd. its_point s.point word held (slice_index a.words 0) odd a.sdw.r1) (serve o g m (indirect_request Odd s.point (word + 1))).mid (serve o g m (indirect_request Odd s.point (word + 1))).reply
  agree_found word held a m Itp =
      agree_odd (λ odd. itp_point g s.point word held (slice_index a.words 0) odd a.sdw.r1) (serve o g m (indirect_request Odd s.point (word + 1))).mid (serve o g m (indirect_request Odd s.point (word + 1))).reply

  agree_even : (word : ℕ) (held : Option ℕ) (m : Midstep S) (reply : Result Answer Fault) → Agrees (run o g (answered (λ a. after_word (chain k g) g s.point word held a (indirect_kind word (slice_index a.words 0))) reply) m) (after_indirect_reference o g s word held m reply)
  unfolding run
  agree_even word held m (Ok a) = agree_found word held a m (indirect_kind word (slice_index a.words 0))
  agree_even word held m (Err f) = refl

  agree_claimed : (a : Answer) (m : Midstep S) (reply : Result Answer Fault) → Agrees (run o g (answered (λ b. done (Ok (tally_end s.point b.first (tally (s.point.tag % 16) (slice_index a.words 0))))) reply) m) (after_tally_claim s a m reply)
  unfolding run
  agree_claimed a m (Ok b) = refl
  agree_claimed a m (Err f) = refl

  agree_tally_by : (a : Answer) (m : Midstep S) (i : Bool) → Agrees (run o g (after_tally s.point (s.point.tag % 16) a i) m) (after_tally_read_by o g s a m i)
  unfolding run
  agree_tally_by a m true = refl
  agree_tally_by a m false =
      agree_claimed a (serve o g m (indirect_request Write s.point s.point.y)).mid (serve o g m (indirect_request Write s.point s.point.y)).reply

  agree_tally : (m : Midstep S) (reply : Result Answer Fault) → Agrees (run o g (answered (λ a. after_tally s.point (s.point.tag % 16) a (s.point.tag % 16 == indirect_only)) reply) m) (after_tally_read o g s m reply)
  unfolding run
  agree_tally m (Ok a) = agree_tally_by a m (s.point.tag % 16 == indirect_only)
  agree_tally m (Err f) = refl

  -- if more indirect words may be read
  agree_move : nat_lt s.count indirect_words ≡ true → (v : Move) → Agrees (run o g (chain_by (chain k g) g s.point v) s.mid) (chain_step_by o g s v)
  unfolding run
  agree_move e (Ends last) = refl
  agree_move e (Fails h) = refl
  agree_move e (Reads word held) =
      let t = serve o g s.mid (indirect_request Indirect s.point word) in rw e (agree_even word held t.mid t.reply)
  agree_move e Counts =
      let t = serve o g s.mid (indirect_request Indirect s.point s.point.y) in rw e (agree_tally t.mid t.reply)

  agree : nat_lt s.count indirect_words ≡ true → Agrees (run o g (chain (suc k) g s.point) s.mid) (chain_step o g s)
  unfolding chain chain_step
  agree e = agree_move e (move_of_point g s.point)

  -- if no more may be read, the chain closes
  abbrev ClosesBy : ProgramResult (Result ChainEnd Halt) S → ChainStep S → Type 0
  ClosesBy x (Goes b) = ⊥
  ClosesBy x (Closes r) = x ≡ r

  close_move : nat_lt s.count indirect_words ≡ false → (v : Move) → ClosesBy (run o g (chain_exhausted s.point v) s.mid) (chain_step_by o g s v)
  unfolding run
  close_move e (Ends last) = refl
  close_move e (Fails h) = refl
  close_move e (Reads word held) = rw e refl
  close_move e Counts = rw e refl

  close : nat_lt s.count indirect_words ≡ false → ClosesBy (run o g (chain zero g s.point) s.mid) (chain_step o g s)
  unfolding chain chain_step
  close e = close_move e (move_of_point g s.point)

-- the one chain from a stage on
record IsOneFrom {S : Type 0} (o : Store S) (g : RegsFields) (n : ℕ) (s : Stage S) : Type 0 where
  more : List (Stage S)
  linked : IsChain o g (s ∷ more) (run o g (chain n g s.point) s.mid)
  short : length more ≤ n
  only : (other : List (Stage S)) (said : ProgramResult (Result ChainEnd Halt) S) → IsChain o g (s ∷ other) said → (other ≡ more) × (said ≡ run o g (chain n g s.point) s.mid)

module _ {S : Type 0} (o : Store S) (g : RegsFields) where
  only_closed : (s : Stage S) (r : ProgramResult (Result ChainEnd Halt) S) → chain_step o g s ≡ Closes r → (other : List (Stage S)) (said : ProgramResult (Result ChainEnd Halt) S) → IsChain o g (s ∷ other) said → (other ≡ []) × (said ≡ r)
  only_closed s r e [] said i = (refl, cc)
  only_closed s r e (b ∷ other) said i = let h = i.0 in cc

  closed : (n : ℕ) (s : Stage S) (r : ProgramResult (Result ChainEnd Halt) S) → chain_step o g s ≡ Closes r → run o g (chain n g s.point) s.mid ≡ r → IsOneFrom o g n s
  closed n s r e a =
      record {
        more = [];
        linked = cc;
        short = omega arith;
        only = λ other said i. let u = only_closed s r e other said i in (u.0, u.1 ∙ sym a);
      }

  only_open : (s b : Stage S) (more : List (Stage S)) (r : ProgramResult (Result ChainEnd Halt) S) → chain_step o g s ≡ Goes b → ((other : List (Stage S)) (said : ProgramResult (Result ChainEnd Halt) S) → IsChain o g (b ∷ other) said → (other ≡ more) × (said ≡ r)) → (other : List (Stage S)) (said : ProgramResult (Result ChainEnd Halt) S) → IsChain o g (s ∷ other) said → (other ≡ b ∷ more) × (said ≡ r)
  only_open s b more r e u [] said i = cc
  only_open s b more r e u (c ∷ other) said i =
      let h = i.0 in
      let same : c ≡ b = cc in
      let v = u other said (let P : Stage S → Type 0 = λ x. IsChain o g (x ∷ other) said in subst P same i.1) in
      let tail = v.0 in
      (cc, v.1)

  opened : (n : ℕ) (s b : Stage S) → chain_step o g s ≡ Goes b → run o g (chain (suc n) g s.point) s.mid ≡ run o g (chain n g b.point) b.mid → IsOneFrom o g n b → IsOneFrom o g (suc n) s
  opened n s b e a u =
      let only = only_open s b u.more (run o g (chain n g b.point) b.mid) e u.only in
      let short : length (b ∷ u.more) ≤ suc n = let h = u.short in omega arith in
      record {
        more = b ∷ u.more;
        linked = (e, rw a u.linked);
        short = short;
        only = λ other said i. let v = only other said i in (v.0, v.1 ∙ sym a);
      }

  -- by the turn at the first stage
  by_turn : (n : ℕ) (s : Stage S) (t : ChainStep S) → chain_step o g s ≡ t → Agrees o g n s (run o g (chain (suc n) g s.point) s.mid) t → ((b : Stage S) → b.count ≡ s.count + 1 → IsOneFrom o g n b) → IsOneFrom o g (suc n) s
  by_turn n s (Closes r) e a next = closed (suc n) s r e a
  by_turn n s (Goes b) e a next = opened n s b e a.1 (next b a.0)

  by_last_turn : (s : Stage S) (t : ChainStep S) → chain_step o g s ≡ t → ClosesBy o g zero s (run o g (chain zero g s.point) s.mid) t → IsOneFrom o g zero s
  by_last_turn s (Closes r) e a = closed zero s r e a
  by_last_turn s (Goes b) e a = absurd a

  below : (a n : ℕ) → a + suc n ≡ 16 → nat_lt a 16 ≡ true
  below a n e = grind arith

  not_below : (a : ℕ) → a + zero ≡ 16 → nat_lt a 16 ≡ false
  not_below a e = grind arith

  one_from : (n : ℕ) (s : Stage S) → s.count + n ≡ 16 → IsOneFrom o g n s
  one_from zero s e = by_last_turn s (chain_step o g s) refl (close o g zero s (not_below s.count e))
  one_from (suc n) s e =
      by_turn n s (chain_step o g s) refl (agree o g n s (below s.count n e)) (λ b c. one_from n b (let h = c in omega arith))

  one_chain_over : (p : Point) (m : Midstep S) → IsOneChain o g p m
  one_chain_over p m =
      let u = one_from 16 (first_stage p m) refl in
      record {
        more = u.more;
        answer = run o g (chain indirect_words g p) m;
        linked = u.linked;
        short = u.short;
        only = u.only;
        same = refl;
      }

pub one_chain_of_core : OneChain
one_chain_of_core g p m = one_chain_over core_store g p m
