-- How the operation of an instruction ends, by its operand kind.
use Rattle.std.proofs.Common.{ℕ, ◌≡◌, refl, sym, ap, subst, ◌∙◌, Option, Some, None, Bool, true, false, List, [], ◌++◌, length, append-nil, ◌⊎◌, inl, inr, Result, Ok, Err}
use Rattle.m36_inst.specs.Operands.{operand_of, takes_direct, is_one_word}
use Rattle.m36_inst.specs.declared.effect.Effect.{Effect}
use Rattle.m36_inst.specs.declared.effect.Effect.TheVariants as effect
use Rattle.m36_inst.specs.declared.operand.Operand.{Operand}
use Rattle.m36_inst.specs.declared.operand.Operand.TheVariants as kind
use Rattle.m36_model.specs.Registers.{RegsFields}
use Rattle.m36_model.specs.Act.{Read, Write, Transfer, Call, Locate, Part, Whole, Left, Right, Request, Answer, answered, refer}
use Rattle.m36_model.specs.Store.{Spot, Store, Midstep, ProgramResult, serve, run}
use Rattle.m36_model.specs.Modification.{here, halt_at}
use Rattle.m36_model.specs.Chain.{ChainEnd}
use Rattle.m36_model.specs.Results.{OperandFields, EffectFields, words_only}
use Rattle.m36_model.specs.Transfers.{is_taken}
use Rattle.m36_model.specs.Effect.{exec, is_absa}
use Rattle.m36_model.specs.WordsPut.{words_written}
use Rattle.m36_model.specs.Step.{Performed, puts_from, operation_result, with_chain_tally, perform, no_operand, request_at, got_word, got_words, got_place, got_nothing, got_ring, direct_word, addressing, transferring, operate_by_kind, operate_direct, operate_on, operate}
use Rattle.m36_model.specs.StepCases.{Reached, IsUnreferenced, IsReferenced, IsClaimed, IsReadAndClaimed, IsAddressed, IsTargeted, IsOperandOf, IsOperand}
use Rattle.m36_model.proofs.PutLaw.{PutsSo, puts_so}
use Rattle.m36_model.proofs.OperandWordsLaw.{written_words}
use Rattle.m36_model.specs.declared.outcome.Fault.{Fault}
use Rattle.m36_model.specs.declared.outcome.Halt.{Halt}
use Rattle.m36_model.specs.declared.outcome.Halt.TheVariants as halt
use Rattle.m36_model.proofs.ChainClaims.{same_claims, served_as}

-- How an operation ends: it is refused, or is performed with its operand.
pub data OperationCase {S : Type 0} (g : RegsFields) (e : Effect) (n : ℕ) (c : ChainEnd) (P : Reached S → Type 0) (m : Midstep S) (r : ProgramResult (Result Performed Halt) S) : Type 0 where
  refused_reply : (h : Halt) → r.value ≡ Err h → OperationCase g e n c P m r
  performed_with : (u : Reached S) (first : ℕ) (x : EffectFields) → P u → exec e n (with_chain_tally g c) c.last u.operand ≡ Ok x → u.mid.claims ≡ m.claims ++ u.spots → length u.spots ≡ length x.put → (u.spots ≡ []) ⊎ (first ≡ length m.claims) → r ≡ record { value = Ok (record { regs = x.regs; puts = c.pending ++ puts_from u.part first x.put; overflow = x.overflow }); mid = u.mid } → OperationCase g e n c P m r

module _ {S : Type 0} (o : Store S) (g : RegsFields) (e : Effect) (n : ℕ) (c : ChainEnd) (m : Midstep S) where
  abbrev Puts : ℕ → Type 0
  Puts w = (x : OperandFields) → PutsSo w (exec e n (with_chain_tally g c) c.last x)

  by_exec : (P : Reached S → Type 0) (u : Reached S) (first : ℕ) → P u → u.mid.claims ≡ m.claims ++ u.spots → (u.spots ≡ []) ⊎ (first ≡ length m.claims) → (v : Result EffectFields ℕ) → exec e n (with_chain_tally g c) c.last u.operand ≡ v → PutsSo (length u.spots) v → OperationCase g e n c P m (record { value = operation_result g c u.part first v; mid = u.mid })
  by_exec P u first p a f (Err number) h b = refused_reply (halt_at number (here g)) refl
  by_exec P u first p a f (Ok x) h b = performed_with u first x p h a (sym b) f refl

  performs : (P : Reached S → Type 0) (u : Reached S) (first : ℕ) → P u → u.mid.claims ≡ m.claims ++ u.spots → (u.spots ≡ []) ⊎ (first ≡ length m.claims) → Puts (length u.spots) → OperationCase g e n c P m (run o g (perform e n g c u.part first u.operand) u.mid)
  unfolding run
  performs P u first p a f b =
      by_exec P u first p a f (exec e n (with_chain_tally g c) c.last u.operand) refl (b u.operand)

  -- nothing more is claimed
  performs_here : (P : Reached S → Type 0) (m' : Midstep S) → m'.claims ≡ m.claims → (got : OperandFields) → P (record { operand = got; part = Whole; spots = []; mid = m' }) → Puts 0 → OperationCase g e n c P m (run o g (perform e n g c Whole 0 got) m')
  performs_here P m' same got p b =
      performs P (record { operand = got; part = Whole; spots = []; mid = m' }) 0 p (same ∙ sym (append-nil m.claims)) (inl refl) b

  reads_by : (P : Reached S → Type 0) (q : Request) (gives : Answer → OperandFields) → (q.kind ≡ Write → ⊥) → ((u : Reached S) → IsReferenced o g q gives m u → P u) → Puts 0 → (reply : Result Answer Fault) → (serve o g m q).reply ≡ reply → OperationCase g e n c P m (run o g (answered (λ a. perform e n g c Whole 0 (gives a)) reply) (serve o g m q).mid)
  unfolding run
  reads_by P q gives no_write wrap b (Err f) h = refused_reply (halt.Fault f) refl
  reads_by P q gives no_write wrap b (Ok a) h =
      let t = serve o g m q in
      performs_here P t.mid (same_claims o g m q no_write) (gives a) (wrap _ (record { answer = a; served = served_as t (Ok a) h; operand = refl; nothing = refl })) b

  references : (P : Reached S → Type 0) (q : Request) (gives : Answer → OperandFields) → (q.kind ≡ Write → ⊥) → ((u : Reached S) → IsReferenced o g q gives m u → P u) → Puts 0 → OperationCase g e n c P m (run o g (refer q (λ a. perform e n g c Whole 0 (gives a))) m)
  unfolding run
  references P q gives no_write wrap b = reads_by P q gives no_write wrap b (serve o g m q).reply refl

  writes_by : (P : Reached S → Type 0) (count : ℕ) (part : Part) (got : OperandFields) (m' : Midstep S) → m'.claims ≡ m.claims → ((u : Reached S) → IsClaimed o g (request_at Write c count) part got m' u → P u) → Puts count → (reply : Result Answer Fault) → (serve o g m' (request_at Write c count)).reply ≡ reply → OperationCase g e n c P m (run o g (answered (λ a. perform e n g c part a.first got) reply) (serve o g m' (request_at Write c count)).mid)
  unfolding run
  writes_by P count part got m' same wrap b (Err f) h = refused_reply (halt.Fault f) refl
  writes_by P count part got m' same wrap b (Ok a) h =
      let q = request_at Write c count in
      let t = serve o g m' q in
      let s = served_as t (Ok a) h in
      let w = written_words o g m' t.mid q a refl s in
      let claims : t.mid.claims ≡ m.claims ++ w.spots = w.claims ∙ ap (λ (x : List Spot). x ++ w.spots) same in
      let first : a.first ≡ length m.claims = w.first ∙ ap length same in
      performs P (record { operand = got; part = part; spots = w.spots; mid = t.mid }) a.first (wrap _ (record { answer = a; served = s; operand = refl; part_is = refl; claims = w.claims })) claims (inr first) (subst Puts (sym w.places.count) b)

  claims_words : (P : Reached S → Type 0) (count : ℕ) (part : Part) (got : OperandFields) (m' : Midstep S) → m'.claims ≡ m.claims → ((u : Reached S) → IsClaimed o g (request_at Write c count) part got m' u → P u) → Puts count → OperationCase g e n c P m (run o g (refer (request_at Write c count) (λ a. perform e n g c part a.first got)) m')
  unfolding run
  claims_words P count part got m' same wrap b =
      writes_by P count part got m' same wrap b (serve o g m' (request_at Write c count)).reply refl

  changes_by : (part : Part) → Puts 1 → (reply : Result Answer Fault) → (serve o g m (request_at Read c 1)).reply ≡ reply → OperationCase g e n c (IsReadAndClaimed o g c part m) m (run o g (answered (λ a. refer (request_at Write c 1) (λ b. perform e n g c part b.first (words_only a.words))) reply) (serve o g m (request_at Read c 1)).mid)
  unfolding run
  changes_by part b (Err f) h = refused_reply (halt.Fault f) refl
  changes_by part b (Ok a) h =
      let q = request_at Read c 1 in
      let t = serve o g m q in
      claims_words (IsReadAndClaimed o g c part m) 1 part (words_only a.words) t.mid (same_claims o g m q (λ x. cc)) (λ u w. record { answer = a; between = t.mid; read = served_as t (Ok a) h; write = w }) b

  changes_word : (part : Part) → Puts 1 → OperationCase g e n c (IsReadAndClaimed o g c part m) m (run o g (refer (request_at Read c 1) (λ a. refer (request_at Write c 1) (λ b. perform e n g c part b.first (words_only a.words)))) m)
  unfolding run
  changes_word part b = changes_by part b (serve o g m (request_at Read c 1)).reply refl

  unreferenced : (got : OperandFields) → Puts 0 → OperationCase g e n c (IsUnreferenced m got) m (run o g (perform e n g c Whole 0 got) m)
  unreferenced got b =
      performs_here (IsUnreferenced m got) m refl got (record { operand = refl; nothing = refl; mid = refl }) b

  addresses : (absa : Bool) → Puts 0 → OperationCase g e n c (IsAddressed o g c absa m) m (run o g (addressing e n g c absa) m)
  addresses false b = unreferenced no_operand b
  addresses true b =
      references (IsAddressed o g c true m) (request_at Locate c 1) got_place (λ x. cc) (λ u r. r) b

  targets : (taken : Bool) → Puts 0 → OperationCase g e n c (IsTargeted o g c taken m) m (run o g (transferring e n g c taken) m)
  targets false b = unreferenced no_operand b
  targets true b =
      references (IsTargeted o g c true m) (request_at Transfer c 1) got_nothing (λ x. cc) (λ u r. r) b

  reads_words : (kind : Operand) (count : ℕ) (gives : Answer → OperandFields) → ((u : Reached S) → IsReferenced o g (request_at Read c count) gives m u → IsOperandOf o g e c kind m u) → Puts 0 → OperationCase g e n c (IsOperandOf o g e c kind m) m (run o g (refer (request_at Read c count) (λ a. perform e n g c Whole 0 (gives a))) m)
  reads_words kind count gives wrap b =
      references (IsOperandOf o g e c kind m) (request_at Read c count) gives (λ x. cc) wrap b

  writes_words : (kind : Operand) (count : ℕ) (part : Part) → ((u : Reached S) → IsClaimed o g (request_at Write c count) part no_operand m u → IsOperandOf o g e c kind m u) → Puts count → OperationCase g e n c (IsOperandOf o g e c kind m) m (run o g (refer (request_at Write c count) (λ a. perform e n g c part a.first no_operand)) m)
  writes_words kind count part wrap b =
      claims_words (IsOperandOf o g e c kind m) count part no_operand m refl wrap b

  kind_case : (k : Operand) → Puts (words_written k) → OperationCase g e n c (IsOperandOf o g e c k m) m (run o g (operate_by_kind e n g c k) m)
  kind_case kind.R b = reads_words kind.R 1 got_word (λ u r. r) b
  kind_case kind.R2 b = reads_words kind.R2 2 got_words (λ u r. r) b
  kind_case kind.R16 b = reads_words kind.R16 16 got_words (λ u r. r) b
  kind_case kind.W b = writes_words kind.W 1 Whole (λ u r. r) b
  kind_case kind.W2 b = writes_words kind.W2 2 Whole (λ u r. r) b
  kind_case kind.W16 b = writes_words kind.W16 16 Whole (λ u r. r) b
  kind_case kind.Wl b = writes_words kind.Wl 1 Left (λ u r. r) b
  kind_case kind.Wr b = writes_words kind.Wr 1 Right (λ u r. r) b
  kind_case kind.Rw b = changes_word Whole b
  kind_case kind.Rwl b = changes_word Left b
  kind_case kind.A b = addresses (is_absa e) b
  kind_case kind.T b = targets (is_taken e (with_chain_tally g c)) b
  kind_case kind.N b = unreferenced no_operand b
  kind_case kind.Call6 b =
      references (IsOperandOf o g e c kind.Call6 m) (request_at Call c 1) (got_ring c.last.at.ring) (λ x. cc) (λ u r. r) b

-- a direct operand writes nothing
one_word_reads : (k : Operand) → is_one_word k ≡ true → words_written k ≡ 0
one_word_reads kind.R h = refl
one_word_reads kind.W h = cc
one_word_reads kind.W2 h = cc
one_word_reads kind.W16 h = cc
one_word_reads kind.Wl h = cc
one_word_reads kind.Wr h = cc
one_word_reads kind.Rw h = cc
one_word_reads kind.Rwl h = cc
one_word_reads _ h = refl

direct_writes_nothing : (e : Effect) → takes_direct e ≡ true → words_written (operand_of e) ≡ 0
direct_writes_nothing effect.LprpN h = refl
direct_writes_nothing effect.Nop h = refl
direct_writes_nothing e h = one_word_reads (operand_of e) h

module _ {S : Type 0} (o : Store S) (g : RegsFields) (e : Effect) (n : ℕ) (c : ChainEnd) (m : Midstep S) where
  direct_case : (w : ℕ) (b : Bool) → takes_direct e ≡ b → OperationCase g e n c (IsOperand o g e c (Some w) m) m (run o g (operate_direct e n g c w b) m)
  unfolding run
  direct_case w false h = refused_reply (halt_at 10 (here g)) refl
  direct_case w true h =
      let puts = subst (λ (k : ℕ). (x : OperandFields) → PutsSo k (exec e n (with_chain_tally g c) c.last x)) (direct_writes_nothing e h) (λ x. puts_so e n (with_chain_tally g c) c.last x) in
      performs_here o g e n c m (IsOperand o g e c (Some w) m) m refl (words_only (direct_word (operand_of e) w)) (h, record { operand = refl; nothing = refl; mid = refl }) puts

  operate_case : (d : Option ℕ) → OperationCase g e n c (IsOperand o g e c d m) m (run o g (operate_on e n g c d) m)
  operate_case None = kind_case o g e n c m (operand_of e) (λ x. puts_so e n (with_chain_tally g c) c.last x)
  operate_case (Some w) = direct_case w (takes_direct e) refl

  pub operation_case : OperationCase g e n c (IsOperand o g e c c.last.direct m) m (run o g (operate e n g c) m)
  unfolding operate
  operation_case = operate_case c.last.direct
