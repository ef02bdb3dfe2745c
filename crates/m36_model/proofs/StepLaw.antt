-- Each step has one of the cases.
use Rattle.std.proofs.Common.{ℕ, ◌≡◌, refl, sym, ap, subst, ◌∙◌, Option, Some, None, Bool, true, false, not, ◌&&◌, List, [], ◌++◌, map, length, slice_index, ◌⊎◌, Result, Ok, Err}
use Rattle.m36_inst.specs.Instruction.{inst_of}
use Rattle.m36_inst.specs.Operands.{operand_of, forms_address, is_privileged}
use Rattle.m36_inst.specs.declared.effect.Effect.{Effect}
use Rattle.m36_inst.specs.declared.effect.Effect.TheVariants as effect
use Rattle.m36_inst.specs.declared.operand.Operand.{Operand}
use Rattle.m36_inst.specs.declared.operand.Operand.TheVariants as kind
use Rattle.m36_model.specs.Fields.{FinalFields}
use Rattle.m36_model.specs.Act.{Whole, Answer, either}
use Rattle.m36_model.specs.Store.{Spot, Store, Midstep, ProgramResult, State, serve, run, changes}
use Rattle.m36_model.specs.Core.{core_store, core_put}
use Rattle.m36_model.specs.Modification.{here, halt_at}
use Rattle.m36_model.specs.FirstPoint.{first_point}
use Rattle.m36_model.specs.Chain.{ChainEnd, chain}
use Rattle.m36_model.specs.Results.{EffectFields}
use Rattle.m36_model.specs.Effect.{exec}
use Rattle.m36_model.specs.Step.{Performed, puts_from, with_chain_tally, operate, Ending, outcome_of, end_halted, end_completed, operate_and_end, form_and_operate, immediate_halt, no_address, execute_admitted, execute_unless_barred, execute_decoded, has_right, execute_fetched, indirect_words, decode, fetch_request, program, start_of_step, step_record, state_after_run, record_of, state_after}
use Rattle.m36_model.specs.StepCases.{ChangedOnlyMarks, IsFetched, IsAdmitted, IsFormed, Reached, IsOperand, changes_at_spots, StepCase, fetch_refused, no_instruction, privilege_refused, no_address as no_address_case, address_refused, operation_refused, effected, StepHasACase}
use Rattle.m36_model.proofs.PutLaw.{IsTallied, tally_changes, all_changes}
use Rattle.m36_model.specs.declared.outcome.Fault.{Fault}
use Rattle.m36_model.specs.declared.outcome.Halt.{Halt}
use Rattle.m36_model.specs.declared.outcome.Halt.TheVariants as halt
use Rattle.m36_model.specs.declared.outcome.Stop.TheVariants as stop
use Rattle.m36_model.proofs.ChainClaims.{run_then, same_claims, served_as, PostOf, chain_claims}
use Rattle.m36_model.proofs.OperationLaw.{OperationCase, refused_reply, performed_with, operation_case}

-- the parts of a conjunction
and_left : (a b : Bool) → (a && b) ≡ true → a ≡ true
and_left true b e = refl
and_left false b e = e

not_right : (a b : Bool) → (a && not b) ≡ true → b ≡ false
not_right true true e = sym e
not_right true false e = refl
not_right false b e = cc

module _ {S : Type 0} (o : Store S) (quiet : (x : S) → o.put x [] ≡ x) (s : State S) where
  abbrev CaseOf : ProgramResult Ending S → Type 0
  CaseOf x = StepCase o s (step_record s.regs x) (state_after_run o x)

  -- a program that ends with nothing changed
  has_left : (m : Midstep S) (word : Option ℕ) (at : Option FinalFields) (h : Halt) → let x = run o s.regs (end_halted s.regs word at h) m in ChangedOnlyMarks s (step_record s.regs x) (state_after_run o x) m word at (outcome_of h)
  unfolding run changes
  has_left m word at h =
      record { told = refl; left = λ i. record { regs = s.regs; store = quiet m.store i } }

  at_once_left : (i : Effect) (w : ℕ) (m : Midstep S) → let x = run o s.regs (no_address i s.regs w) m in ChangedOnlyMarks s (step_record s.regs x) (state_after_run o x) m (Some w) None (outcome_of (immediate_halt i s.regs))
  at_once_left effect.Mme w m = has_left m (Some w) None (halt_at 2 (here s.regs))
  at_once_left effect.Drl w m = has_left m (Some w) None (halt_at 6 (here s.regs))
  at_once_left _ w m = has_left m (Some w) None (halt.Stop stop.Dis)

  full_case : (w : ℕ) (i : Effect) (n : ℕ) (c : ChainEnd) (m : Midstep S) → IsFormed o s w i n c m → IsTallied c m.claims → (u : Reached S) (first : ℕ) (x : EffectFields) → IsOperand o s.regs i c c.last.direct m u → exec i n (with_chain_tally s.regs c) c.last u.operand ≡ Ok x → u.mid.claims ≡ m.claims ++ u.spots → length u.spots ≡ length x.put → (u.spots ≡ []) ⊎ (first ≡ length m.claims) → CaseOf (run o s.regs (end_completed s.regs w c.last (record { regs = x.regs; puts = c.pending ++ puts_from u.part first x.put; overflow = x.overflow })) u.mid)
  unfolding run
  full_case w i n c m formed t u first x p h a b f =
      let puts = c.pending ++ puts_from u.part first x.put in
      let all : changes u.mid.claims puts ≡ changes_at_spots Whole m.claims (map (λ p. p.value) c.pending) ++ changes_at_spots u.part u.spots x.put = ap (λ (claims : List Spot). changes claims puts) a ∙ all_changes c u.part m.claims u.spots first x.put t b f in
      effected (record {
        word = w;
        instruction = i;
        number = n;
        end = c;
        chained = m;
        formed = formed;
        reached = u;
        operand = p;
        result = x;
        effected = h;
        tallies = (tally_changes c m.claims [] t).1;
        words = b;
        told = refl;
        left = λ j. record { regs = x.regs; store = o.put u.mid.store (all j) };
      })

  operation_by : (w : ℕ) (i : Effect) (n : ℕ) (c : ChainEnd) (m : Midstep S) → IsFormed o s w i n c m → IsTallied c m.claims → (r : ProgramResult (Result Performed Halt) S) → run o s.regs (operate i n s.regs c) m ≡ r → OperationCase s.regs i n c (IsOperand o s.regs i c c.last.direct m) m r → CaseOf (run o s.regs (either (end_completed s.regs w c.last) (end_halted s.regs (Some w) (Some c.last)) r.value) r.mid)
  operation_by w i n c m formed t r known (refused_reply h e) =
      let ends : r ≡ record { value = Err h; mid = r.mid } = λ j. record { value = e j; mid = r.mid } in
      subst (λ (v : Result Performed Halt). CaseOf (run o s.regs (either (end_completed s.regs w c.last) (end_halted s.regs (Some w) (Some c.last)) v) r.mid)) (sym e) (operation_refused w m r.mid i n c h formed (known ∙ ends) (has_left r.mid (Some w) (Some c.last) h))
  operation_by w i n c m formed t r known (performed_with u first x p h a b f q) =
      subst (λ (y : ProgramResult (Result Performed Halt) S). CaseOf (run o s.regs (either (end_completed s.regs w c.last) (end_halted s.regs (Some w) (Some c.last)) y.value) y.mid)) (sym q) (full_case w i n c m formed t u first x p h a b f)

  operated_case : (w : ℕ) (i : Effect) (n : ℕ) (c : ChainEnd) (m : Midstep S) → IsFormed o s w i n c m → IsTallied c m.claims → CaseOf (run o s.regs (operate_and_end i n s.regs w c) m)
  operated_case w i n c m formed t =
      let k = either (end_completed s.regs w c.last) (end_halted s.regs (Some w) (Some c.last)) in
      let r = run o s.regs (operate i n s.regs c) m in
      subst CaseOf (sym (run_then o s.regs (operate i n s.regs c) k m)) (operation_by w i n c m formed t r refl (operation_case o s.regs i n c m))

  address_by : (w : ℕ) (i : Effect) (n : ℕ) (before : Midstep S) → IsAdmitted o s w i n before → forms_address (operand_of i) ≡ true → (v : Result ChainEnd Halt) (m : Midstep S) → run o s.regs (chain indirect_words s.regs (first_point s.regs (inst_of w))) before ≡ record { value = v; mid = m } → PostOf v m → CaseOf (run o s.regs (either (operate_and_end i n s.regs w) (end_halted s.regs (Some w) None) v) m)
  address_by w i n before admitted forms (Err h) m known post =
      address_refused w before m i n h admitted forms known (has_left m (Some w) None h)
  address_by w i n before admitted forms (Ok c) m known post =
      operated_case w i n c m (record { before = before; admitted = admitted; forms = forms; formed = known }) post

  addressed_case : (w : ℕ) (i : Effect) (n : ℕ) (before : Midstep S) → IsAdmitted o s w i n before → forms_address (operand_of i) ≡ true → before.claims ≡ [] → CaseOf (run o s.regs (form_and_operate i n s.regs w) before)
  addressed_case w i n before admitted forms e =
      let act = chain indirect_words s.regs (first_point s.regs (inst_of w)) in
      let k = either (operate_and_end i n s.regs w) (end_halted s.regs (Some w) None) in
      let r = run o s.regs act before in
      subst CaseOf (sym (run_then o s.regs act k before)) (address_by w i n before admitted forms r.value r.mid refl (chain_claims o s.regs indirect_words (first_point s.regs (inst_of w)) before e))

  started_case : (w : ℕ) (i : Effect) (n : ℕ) (m : Midstep S) → IsAdmitted o s w i n m → m.claims ≡ [] → (k : Operand) → operand_of i ≡ k → CaseOf (run o s.regs (execute_admitted i n s.regs w k) m)
  started_case w i n m admitted e kind.N h = no_address_case w m i n admitted h (at_once_left i w m)
  started_case w i n m admitted e k h = addressed_case w i n m admitted (ap forms_address h) e

  admitted_case : (w : ℕ) (right : Bool) (m : Midstep S) → IsFetched o s w right m → m.claims ≡ [] → (i : Effect) (n : ℕ) → decode w ≡ Some (i, n) → (b : Bool) → (is_privileged i && not right) ≡ b → CaseOf (run o s.regs (execute_unless_barred i n s.regs w b) m)
  admitted_case w right m fetched e i n h true p =
      let no_right = not_right (is_privileged i) right p in
      privilege_refused w m i n (subst (λ (r : Bool). IsFetched o s w r m) no_right fetched) h (and_left (is_privileged i) (not right) p) (has_left m (Some w) None (halt_at 10 (here s.regs)))
  admitted_case w right m fetched e i n h false p =
      started_case w i n m (record { right = right; fetched = fetched; decoded = h; allowed = p }) e (operand_of i) refl

  decoded_case : (w : ℕ) (right : Bool) (m : Midstep S) → IsFetched o s w right m → m.claims ≡ [] → (d : Option (Effect × ℕ)) → decode w ≡ d → CaseOf (run o s.regs (execute_decoded s.regs w right d) m)
  decoded_case w right m fetched e None h =
      no_instruction w right m fetched h (has_left m (Some w) None (halt.Stop stop.Operation))
  decoded_case w right m fetched e (Some row) h =
      admitted_case w right m fetched e row.0 row.1 h (is_privileged row.0 && not right) refl

  fetched_case : (reply : Result Answer Fault) → (serve o s.regs (start_of_step s) (fetch_request s.regs)).reply ≡ reply → CaseOf (run o s.regs (execute_fetched s.regs reply) (serve o s.regs (start_of_step s) (fetch_request s.regs)).mid)
  fetched_case (Err f) h =
      let t = serve o s.regs (start_of_step s) (fetch_request s.regs) in
      fetch_refused f t.mid (served_as t (Err f) h) (has_left t.mid None None (halt.Fault f))
  fetched_case (Ok a) h =
      let q = fetch_request s.regs in
      let t = serve o s.regs (start_of_step s) q in
      let w = slice_index a.words 0 in
      let right = has_right a.sdw s.regs.ppr.prr in
      let known : IsFetched o s w right t.mid = record { answer = a; served = served_as t (Ok a) h; word_is = refl; right_is = refl } in
      decoded_case w right t.mid known (same_claims o s.regs (start_of_step s) q (λ x. cc)) (decode w) refl

  step_case : StepCase o s (record_of o s) (state_after o s)
  unfolding record_of state_after program run
  step_case = fetched_case (serve o s.regs (start_of_step s) (fetch_request s.regs)).reply refl

pub core_quiet : (core : List ℕ) → core_put core [] ≡ core
unfolding core_put
core_quiet core = refl

pub step_has_a_case : StepHasACase
step_has_a_case s = step_case core_store core_quiet s
