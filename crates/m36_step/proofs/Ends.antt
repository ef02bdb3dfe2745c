-- How the program of a step ends over core, part by part.
use Rattle.std.proofs.Common.{ℕ, ◌≡◌, refl, sym, ap, ◌∙◌, Bool, not, ◌&&◌, List, [], ◌∷◌, ◌++◌, Option, Some, None, Result, Ok, Err, option_map}
use Rattle.m36_inst.specs.Fields.{InstFields}
use Rattle.m36_inst.specs.Instruction.{inst_of}
use Rattle.m36_inst.specs.Lookup.{row_at}
use Rattle.m36_inst.specs.Operands.{operand_of, is_privileged}
use Rattle.m36_inst.specs.declared.rows.Row.{Row}
use Rattle.m36_inst.specs.declared.effect.Effect.{Effect}
use Rattle.m36_inst.specs.declared.operand.Operand.{Operand}
use Rattle.m36_inst.specs.declared.operand.Operand.TheVariants as kind
use Rattle.m36_model.specs.Fields.{FinalFields}
use Rattle.m36_model.specs.Registers.{RegsFields}
use Rattle.m36_model.specs.Act.{Fetch, Act, either, otherwise}
use Rattle.m36_model.specs.Store.{Spot, State, Midstep, ServeResult, ProgramResult, run, changes}
use Rattle.m36_model.specs.Core.{core_store, core_put}
use Rattle.m36_model.specs.Modification.{here}
use Rattle.m36_model.specs.FirstPoint.{first_point}
use Rattle.m36_model.specs.Chain.{chain, chain_end_fields, claimed_by}
use Rattle.m36_model.specs.Step.{Ending, outcome_of, outcome_after, end_halted, end_completed, operate, operate_and_end, indirect_words, form_and_operate, immediate_halt, execute_admitted, execute_unless_barred, effect_and_number, decode, execute_decoded, has_right, execute_fetched, program, record_of, state_after}
use Rattle.m36_model.specs.declared.effects.Formed.{Formed}
use Rattle.m36_model.specs.declared.effects.Held.{Held}
use Rattle.m36_model.specs.declared.outcome.Fault.{Fault}
use Rattle.m36_model.specs.declared.outcome.Halt.{Halt}
use Rattle.m36_model.specs.declared.outcome.Halt.TheVariants as halt
use Rattle.m36_model.specs.declared.outcome.Stop.TheVariants as stop
use Rattle.m36_model.specs.declared.place.Reference.{Reference}
use Rattle.m36_model.specs.declared.place.Kind.TheVariants as reference
use Rattle.m36_model.proofs.ChainClaims.{run_then}
use Rattle.m36_walk.specs.Memory.{Memory}
use Rattle.m36_walk.specs.Served.{midstep_with, sdw_in, ServesWord}
use Rattle.m36_ea.specs.Formed.{run_formation, formation_end}
use Rattle.m36_step.specs.Ended.{StepEndState, end_of_run, code_end, EndsAs, EndsFormed}
use Rattle.m36_step.specs.Operated.{claims_of, puts_of, run_of_operation, operated_end}
use Rattle.m36_step.specs.declared.ended.Ended.{Ended}
use Rattle.m36_step.specs.declared.operated.Operated.{Operated}

module _ (g : RegsFields) where
  -- a step that is refused
  abbrev refused : Option ℕ → Option FinalFields → Halt → Ended
  refused word at h = record { word = word; at = at; outcome = outcome_of h }

  -- It leaves core unchanged, whatever it has claimed.
  halts : (word : Option ℕ) (at : Option FinalFields) (h : Halt) (core : List ℕ) (claims : List Spot) (refs : List Reference) → end_of_run (run core_store g (end_halted g word at h) (midstep_with core claims refs)) ≡ code_end core refs g (refused word at h)
  unfolding run core_put changes
  halts word at h core claims refs = refl

  pub ends_halted : (word : Option ℕ) (at : Option FinalFields) (h : Halt) (core : List ℕ) (refs : List Reference) (program : Act Ending) (g' : RegsFields) (e : Ended) → program ≡ end_halted g word at h → g' ≡ g → e ≡ refused word at h → EndsAs g program core refs core refs g' e
  ends_halted word at h core refs program g' e is same end =
      rw (is, same, end) (halts word at h core [] refs)

  -- what follows a program, by how that program ran
  goes_on : {A : Type 0} (act : Act (Result A Halt)) (next : A → Act Ending) (halts : Halt → Act Ending) (m : Midstep (List ℕ)) (t : ProgramResult (Result A Halt) (List ℕ)) → run core_store g act m ≡ t → run core_store g (otherwise act next halts) m ≡ run core_store g (either next halts t.value) t.mid
  goes_on {A = A} act next halts m t e =
      run_then core_store g act (either next halts) m ∙ ap (λ (x : ProgramResult (Result A Halt) (List ℕ)). run core_store g (either next halts x.value) x.mid) e

  -- The operation of an instruction whose address is formed.
  module _ (e : Effect) (n w : ℕ) (f : Formed) (core : List ℕ) (refs : List Reference) (core' : List ℕ) (refs' : List Reference) (g' : RegsFields) (put : Held) where
    abbrev Operates : Result Operated Halt → Type 0
    Operates result =
        run_of_operation e n g f core refs ≡ operated_end core' refs' f g' put result

    operation_runs : (result : Result Operated Halt) → Operates result → run core_store g (operate_and_end e n g w (chain_end_fields f)) (midstep_with core (claimed_by f.tally f.place) refs) ≡ run core_store g (either (end_completed g w f.last) (end_halted g (Some w) (Some f.last)) (operated_end core' refs' f g' put result).value) (operated_end core' refs' f g' put result).mid
    operation_runs result o =
        goes_on (operate e n g (chain_end_fields f)) (end_completed g w f.last) (end_halted g (Some w) (Some f.last)) (midstep_with core (claimed_by f.tally f.place) refs) (operated_end core' refs' f g' put result) o

    pub operation_refused : (h : Halt) (end : Ended) → Operates (Err h) → g' ≡ g → end ≡ refused (Some w) (Some f.last) h → EndsFormed g (operate_and_end e n g w (chain_end_fields f)) core f refs core' refs' g' end
    operation_refused h end o same is =
        rw (same, is) (ap end_of_run (operation_runs (Err h) o) ∙ halts (Some w) (Some f.last) h core' (claimed_by f.tally f.place) refs')

    pub operation_performed : (o : Operated) (core'' : List ℕ) (end : Ended) → Operates (Ok o) → core'' ≡ core_put core' (changes (claims_of f put o) (puts_of f put o)) → end ≡ record { word = Some w; at = Some f.last; outcome = outcome_after o.overflow g'.ind.mask g } → EndsFormed g (operate_and_end e n g w (chain_end_fields f)) core f refs core'' refs' g' end
    unfolding run
    operation_performed o core'' end r written is =
        rw (is, written) (ap end_of_run (operation_runs (Ok o) r))

  -- An instruction that forms an address.
  module _ (e : Effect) (n w : ℕ) (i : InstFields) (is : i ≡ inst_of w) (core : List ℕ) (refs : List Reference) (core' : List ℕ) (refs' : List Reference) where
    forms : (result : Result Formed Halt) → run_formation g i core refs ≡ formation_end core' refs' result → run core_store g (form_and_operate e n g w) (midstep_with core [] refs) ≡ run core_store g (either (operate_and_end e n g w) (end_halted g (Some w) None) (formation_end core' refs' result).value) (formation_end core' refs' result).mid
    forms result r =
        goes_on (chain indirect_words g (first_point g (inst_of w))) (operate_and_end e n g w) (end_halted g (Some w) None) (midstep_with core [] refs) (formation_end core' refs' result) (rw is at r)

    pub address_refused : (h : Halt) (g' : RegsFields) (end : Ended) → run_formation g i core refs ≡ formation_end core' refs' (Err h) → g' ≡ g → end ≡ refused (Some w) None h → EndsAs g (form_and_operate e n g w) core refs core' refs' g' end
    address_refused h g' end r stay same =
        rw (stay, same) (ap end_of_run (forms (Err h) r) ∙ halts (Some w) None h core' [] refs')

    pub address_formed : (f : Formed) (core'' : List ℕ) (refs'' : List Reference) (g' : RegsFields) (end : Ended) → run_formation g i core refs ≡ formation_end core' refs' (Ok f) → EndsFormed g (operate_and_end e n g w (chain_end_fields f)) core' f refs' core'' refs'' g' end → EndsAs g (form_and_operate e n g w) core refs core'' refs'' g' end
    address_formed f core'' refs'' g' end r rest = ap end_of_run (forms (Ok f) r) ∙ rest

  -- MME, DRL and DIS
  pub starts_nothing : (e : Effect) (n w : ℕ) (k : Operand) (h : Halt) → k ≡ operand_of e → k ≡ kind.N → h ≡ immediate_halt e g → execute_admitted e n g w (operand_of e) ≡ end_halted g (Some w) None h
  starts_nothing e n w k h row none end =
      ap (λ (x : Operand). execute_admitted e n g w x) (sym row ∙ none) ∙ ap (λ (x : Halt). end_halted g (Some w) None x) (sym end)

  -- The row of an instruction.
  pub no_row : (w : ℕ) (privileged : Bool) (i : InstFields) → i ≡ inst_of w → None ≡ row_at i.code i.bit27 → execute_decoded g w privileged (decode w) ≡ end_halted g (Some w) None (halt.Stop stop.Operation)
  unfolding decode
  no_row w privileged i is none =
      ap (λ (x : Option Row). execute_decoded g w privileged (option_map effect_and_number x)) (sym (rw is at none))

  pub a_row : (w : ℕ) (privileged : Bool) (i : InstFields) (row : Row) → i ≡ inst_of w → Some row ≡ row_at i.code i.bit27 → execute_decoded g w privileged (decode w) ≡ execute_unless_barred row.effect row.reg g w (is_privileged row.effect && not privileged)
  unfolding decode
  a_row w privileged i row is found =
      ap (λ (x : Option Row). execute_decoded g w privileged (option_map effect_and_number x)) (sym (rw is at found))

  -- The fetch of the instruction. m is the walk before it.
  module _ (m : Memory) (refs : List Reference) (core' : List ℕ) (same : g.dbr ≡ m.dbr) where
    pub fetch_refused : (f : Fault) (g' : RegsFields) (end : Ended) → ServesWord (λ x. x.ppr.prr ≡ g.ppr.prr) Fetch m core' (here g) (Err f) → g' ≡ g → end ≡ refused None None (halt.Fault f) → EndsAs g (program g) m.core refs core' refs g' end
    unfolding program run
    fetch_refused f g' end served stay is =
        rw (stay, is) (ap (λ (t : ServeResult (List ℕ)). end_of_run (run core_store g (execute_fetched g t.reply) t.mid)) (served g same refl [] refs) ∙ halts None None (halt.Fault f) core' [] refs)

    pub fetches : (w : ℕ) (privileged : Bool) (refs' : List Reference) (core'' : List ℕ) (refs'' : List Reference) (g' : RegsFields) (end : Ended) → ServesWord (λ x. x.ppr.prr ≡ g.ppr.prr) Fetch m core' (here g) (Ok w) → privileged ≡ has_right (sdw_in m g.ppr.psr) g.ppr.prr → refs' ≡ refs ++ record { kind = reference.Fetch; at = here g; count = 1 } ∷ [] → EndsAs g (execute_decoded g w privileged (decode w)) core' refs' core'' refs'' g' end → EndsAs g (program g) m.core refs core'' refs'' g' end
    unfolding program run
    fetches w privileged refs' core'' refs'' g' end served right one rest =
        ap (λ (t : ServeResult (List ℕ)). end_of_run (run core_store g (execute_fetched g t.reply) t.mid)) (served g same refl [] refs) ∙ rw (right, one) at rest

-- The whole step.
module _ (s : State (List ℕ)) (core : List ℕ) (refs : List Reference) (after : RegsFields) (e : Ended) (ends : EndsAs s.regs (program s.regs) s.store [] core refs after e) where
  pub step_told : record_of core_store s ≡ record { refs = record { items = refs }; after = after; word = e.word; at = e.at; outcome = e.outcome; ppr = s.regs.ppr }
  unfolding record_of
  step_told =
      ap (λ (x : StepEndState). record { refs = record { items = x.refs }; after = x.after; word = x.word; at = x.at; outcome = x.outcome; ppr = s.regs.ppr }) ends

  pub step_left : state_after core_store s ≡ record { regs = after; store = core }
  unfolding state_after
  step_left = ap (λ (x : StepEndState). record { regs = x.after; store = x.core }) ends
