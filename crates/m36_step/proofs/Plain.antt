-- How an instruction ends whose address has no tally word, given the results of its references and of its effect.
use Rattle.std.proofs.Common.{ℕ, ◌≡◌, ◌∙◌, refl, sym, ap, Bool, true, false, not, ◌&&◌, List, [], ◌∷◌, Option, Some, None, Result, Ok, slice_set}
use Rattle.m36_inst.specs.Operands.{operand_of, takes_direct, is_privileged}
use Rattle.m36_inst.specs.declared.effect.Effect.{Effect}
use Rattle.m36_inst.specs.declared.effect.Effect.TheVariants as effect
use Rattle.m36_inst.specs.declared.operand.Operand.{Operand}
use Rattle.m36_inst.specs.declared.operand.Operand.TheVariants as kind
use Rattle.m36_desc.specs.Access.{ring_after_call}
use Rattle.m36_desc.specs.Fields.{SdwFields}
use Rattle.m36_model.specs.Act.{Part, Whole, Read, Write, Transfer, Call, refer}
use Rattle.m36_model.specs.Chain.{ChainEnd, chain_end_fields}
use Rattle.m36_model.specs.Core.{core_store, core_put, put_one}
use Rattle.m36_model.specs.Effect.{exec, is_absa}
use Rattle.m36_model.specs.Fields.{FinalFields}
use Rattle.m36_model.specs.Registers.{RegsFields}
use Rattle.m36_model.specs.Results.{OperandFields, ring_only}
use Rattle.m36_model.specs.Step.{Performed, no_operand, puts_from, operation_result, perform, with_chain_tally, operate, operate_on, operate_and_end, form_and_operate, execute_admitted, execute_unless_barred, operate_by_kind, operate_direct, direct_word, addressing, transferring, writing, request_at, outcome_after}
use Rattle.m36_model.specs.Store.{Spot, Core_word, serve, run, changes}
use Rattle.m36_model.specs.Transfers.{is_taken}
use Rattle.m36_model.specs.declared.effects.Formed.{Formed}
use Rattle.m36_model.specs.declared.effects.Held.TheVariants as held
use Rattle.m36_model.specs.declared.outcome.Halt.{Halt}
use Rattle.m36_model.specs.declared.place.Reference.{Reference}
use Rattle.m36_walk.specs.Memory.{Memory}
use Rattle.m36_walk.specs.Runs.{run_from}
use Rattle.m36_walk.specs.Served.{midstep_with, sdw_in, request, served_with_result, result_at_target}
use Rattle.m36_word.specs.Pairs.{pair_words}
use Rattle.m36_walk.specs.Words.{run_changes}
use Rattle.m36_walk.proofs.Claims.{changes_of_run, put_one_word}
use Rattle.m36_word.specs.declared.pair.Pair.{Pair}
use Rattle.m36_inst.specs.Quick.{group_of}
use Rattle.m36_inst.specs.declared.rows.Group.TheVariants as group
use Rattle.m36_fastpath.specs.FastPath.{operand_of_word, operand_of_pair}
use Rattle.m36_ea.specs.Formed.{without_tally}
use Rattle.m36_ea.proofs.Runs.{run_ask, run_done}
use Rattle.m36_step.specs.Ended.{EndsFormed}
use Rattle.m36_step.specs.Operated.{claims_of, puts_of, part_of, operated_end}
use Rattle.m36_step.specs.declared.operated.Part as code
use Rattle.m36_step.specs.References.{ServesRead, ServesWrite}
use Rattle.m36_step.specs.declared.ended.Ended.{Ended}
use Rattle.m36_step.specs.declared.operated.Operated.{Operated}
use Rattle.m36_step.specs.declared.operated.Part.TheVariants as part
use Rattle.m36_step.proofs.Ends.{operation_performed}

-- an instruction that loads its address is not ABSA
pub not_absa : (e : Effect) → group_of e ≡ group.Address → is_absa e ≡ false
not_absa effect.Absa h = cc
not_absa _ h = refl

-- a shift is not ABSA
pub shift_not_absa : (e : Effect) → group_of e ≡ group.Shift → is_absa e ≡ false
shift_not_absa effect.Absa h = cc
shift_not_absa _ h = refl

module _ (e : Effect) (n w : ℕ) (g : RegsFields) (last : FinalFields) where
  abbrev f : Formed
  f = without_tally last

  abbrev c : ChainEnd
  c = chain_end_fields f

  -- the end of the step, with the registers after the effect
  abbrev done_end : RegsFields → Bool → Ended
  done_end g' overflow = record { word = Some w; at = Some last; outcome = outcome_after overflow g'.ind.mask g }

  -- what is written, and the place of the first word
  abbrev operated_at : ℕ → Bool → Operated
  operated_at place overflow = record { place = place; part = part.Whole; overflow = overflow }

  same_regs : with_chain_tally g c ≡ g
  unfolding with_chain_tally
  same_regs = refl

  effect_done : (part : Part) (o : OperandFields) (g' : RegsFields) (words : List ℕ) (overflow : Bool) → Ok (record { regs = g'; put = words; overflow = overflow }) ≡ exec e n g last o
      → operation_result g c part 0 (exec e n (with_chain_tally g c) last o) ≡ Ok (record { regs = g'; puts = puts_from part 0 words; overflow = overflow })
  effect_done part o g' words overflow h =
      ap (λ (x : RegsFields). operation_result g c part 0 (exec e n x last o)) same_regs ∙ ap (operation_result g c part 0) (sym h)

  -- a program whose effect is complete
  performs_part : (part : Part) (o : OperandFields) (g' : RegsFields) (words : List ℕ) (overflow : Bool) (core : List ℕ) (claims : List Spot) (refs : List Reference) → Ok (record { regs = g'; put = words; overflow = overflow }) ≡ exec e n g last o
      → run core_store g (perform e n g c part 0 o) (midstep_with core claims refs) ≡ record { value = Ok (record { regs = g'; puts = puts_from part 0 words; overflow = overflow }); mid = midstep_with core claims refs }
  performs_part part o g' words overflow core claims refs h =
      run_done g (operation_result g c part 0 (exec e n (with_chain_tally g c) last o)) (midstep_with core claims refs)
      ∙ ap (λ (v : Result Performed Halt). record { value = v; mid = midstep_with core claims refs }) (effect_done part o g' words overflow h)

  performs : (o : OperandFields) (g' : RegsFields) (words : List ℕ) (overflow : Bool) (core : List ℕ) (claims : List Spot) (refs : List Reference) → Ok (record { regs = g'; put = words; overflow = overflow }) ≡ exec e n g last o
      → run core_store g (perform e n g c Whole 0 o) (midstep_with core claims refs) ≡ record { value = Ok (record { regs = g'; puts = puts_from Whole 0 words; overflow = overflow }); mid = midstep_with core claims refs }
  performs = performs_part Whole

  operates_by : (k : Operand) → operand_of e ≡ k → last.direct ≡ None → operate e n g c ≡ operate_by_kind e n g c k
  unfolding operate
  operates_by k is none =
      ap (λ (x : Option ℕ). operate_on e n g c x) none ∙ ap (λ (x : Operand). operate_by_kind e n g c x) is

  -- A step that writes nothing, and one that writes a word.
  module _ (core : List ℕ) (refs : List Reference) (core' : List ℕ) (refs' : List Reference) (g' : RegsFields) (overflow : Bool) (end : Ended) (is : end ≡ done_end g' overflow) where
    nothing_put : core' ≡ core_put core' (changes (claims_of f held.Empty (operated_at 0 overflow)) (puts_of f held.Empty (operated_at 0 overflow)))
    unfolding core_put changes run_from
    nothing_put = refl

    no_words : record { value = Ok (record { regs = g'; puts = puts_from Whole 0 []; overflow = overflow }); mid = midstep_with core' [] refs' } ≡ operated_end core' refs' f g' held.Empty (Ok (operated_at 0 overflow))
    unfolding run_from
    no_words = refl

    ends_unwritten : run core_store g (operate e n g c) (midstep_with core [] refs) ≡ record { value = Ok (record { regs = g'; puts = puts_from Whole 0 []; overflow = overflow }); mid = midstep_with core' [] refs' }
        → EndsFormed g (operate_and_end e n g w c) core f refs core' refs' g' end
    ends_unwritten runs =
        operation_performed g e n w f core refs core' refs' g' held.Empty (operated_at 0 overflow) core' end (runs ∙ no_words) nothing_put is

    ends_written : (place word : ℕ) (core'' : List ℕ) → run core_store g (operate e n g c) (midstep_with core [] refs) ≡ record { value = Ok (record { regs = g'; puts = puts_from Whole 0 (word ∷ []); overflow = overflow }); mid = midstep_with core' (run_from place 1) refs' }
        → core'' ≡ slice_set core' place word → EndsFormed g (operate_and_end e n g w c) core f refs core'' refs' g' end
    ends_written place word core'' runs stored =
        operation_performed g e n w f core refs core' refs' g' (held.One word) (operated_at place overflow) core'' end runs
        (stored ∙ put_one_word core' place word ∙ sym (ap (core_put core') (changes_of_run [] place (word ∷ [])))) is

  module _ (m : Memory) (refs : List Reference) (core' : List ℕ) (refs' : List Reference) (g' : RegsFields) (overflow : Bool) (end : Ended) (is : end ≡ done_end g' overflow) where
    -- A word is read.
    pub read_ends : (got : ℕ) → operand_of e ≡ kind.R → last.direct ≡ None → ServesRead g f 1 m refs core' refs' (Ok (got ∷ []))
        → Ok (record { regs = g'; put = []; overflow = overflow }) ≡ exec e n g last (operand_of_word got)
        → EndsFormed g (operate_and_end e n g w c) m.core f refs core' refs' g' end
    read_ends got k none served effect =
        ends_unwritten m.core refs core' refs' g' overflow end is
        (ap (λ p. run core_store g p (midstep_with m.core [] refs)) (operates_by kind.R k none)
        ∙ run_ask g (request_at Read c 1) _ (midstep_with m.core [] refs) _ served
        ∙ performs (operand_of_word got) g' [] overflow core' [] refs' effect)

    -- A word is stored.
    pub stored_ends : (place word : ℕ) (core'' : List ℕ) → operand_of e ≡ kind.W → last.direct ≡ None → ServesWrite g f 1 m refs core' refs' (Ok place)
        → Ok (record { regs = g'; put = word ∷ []; overflow = overflow }) ≡ exec e n g last no_operand
        → core'' ≡ slice_set core' place word → EndsFormed g (operate_and_end e n g w c) m.core f refs core'' refs' g' end
    stored_ends place word core'' k none served effect stored =
        ends_written m.core refs core' refs' g' overflow end is place word core''
        (ap (λ p. run core_store g p (midstep_with m.core [] refs)) (operates_by kind.W k none)
        ∙ run_ask g (request_at Write c 1) _ (midstep_with m.core [] refs) _ served
        ∙ performs no_operand g' (word ∷ []) overflow core' (run_from place 1) refs' effect)
        stored

    -- A half of a word is stored.
    pub half_ends : (p : code.Part) (k : Operand) → operand_of e ≡ k → operate_by_kind e n g c k ≡ writing e n g c 1 (part_of p) → (place word : ℕ) (core'' : List ℕ) → last.direct ≡ None → ServesWrite g f 1 m refs core' refs' (Ok place)
        → Ok (record { regs = g'; put = word ∷ []; overflow = overflow }) ≡ exec e n g last no_operand
        → core'' ≡ put_one core' (Core_word place) (part_of p) word → EndsFormed g (operate_and_end e n g w c) m.core f refs core'' refs' g' end
    unfolding core_put changes run_from
    half_ends p k kind by place word core'' none served effect stored =
        operation_performed g e n w f m.core refs core' refs' g' (held.One word) (record { place = place; part = p; overflow = overflow }) core'' end
        (ap (λ p. run core_store g p (midstep_with m.core [] refs)) (operates_by k kind none ∙ by)
        ∙ run_ask g (request_at Write c 1) _ (midstep_with m.core [] refs) _ served
        ∙ performs_part (part_of p) no_operand g' (word ∷ []) overflow core' (run_from place 1) refs' effect)
        stored is

    -- A pair is read, with the first ring bracket of its segment.
    pub pair_read_ends : (got : Pair) (ring : ℕ) → operand_of e ≡ kind.R2 → last.direct ≡ None → ServesRead g f 2 m refs core' refs' (Ok (pair_words got)) → ring ≡ (sdw_in m last.at.seg).r1
        → Ok (record { regs = g'; put = []; overflow = overflow }) ≡ exec e n g last (operand_of_pair got ring)
        → EndsFormed g (operate_and_end e n g w c) m.core f refs core' refs' g' end
    pair_read_ends got ring k none served first effect =
        ends_unwritten m.core refs core' refs' g' overflow end is
        (ap (λ p. run core_store g p (midstep_with m.core [] refs)) (operates_by kind.R2 k none)
        ∙ run_ask g (request_at Read c 2) _ (midstep_with m.core [] refs) _ served
        ∙ ap (λ (x : ℕ). run core_store g (perform e n g c Whole 0 (operand_of_pair got x)) (midstep_with core' [] refs')) (sym first)
        ∙ performs (operand_of_pair got ring) g' [] overflow core' [] refs' effect)

    -- A pair is stored.
    pub pair_stored_ends : (place : ℕ) (put : Pair) (core'' : List ℕ) → operand_of e ≡ kind.W2 → last.direct ≡ None → ServesWrite g f 2 m refs core' refs' (Ok place)
        → Ok (record { regs = g'; put = pair_words put; overflow = overflow }) ≡ exec e n g last no_operand
        → core'' ≡ core_put core' (run_changes place (pair_words put)) → EndsFormed g (operate_and_end e n g w c) m.core f refs core'' refs' g' end
    pair_stored_ends place put core'' k none served effect stored =
        operation_performed g e n w f m.core refs core' refs' g' (held.Two put) (operated_at place overflow) core'' end
        (ap (λ p. run core_store g p (midstep_with m.core [] refs)) (operates_by kind.W2 k none)
        ∙ run_ask g (request_at Write c 2) _ (midstep_with m.core [] refs) _ served
        ∙ performs no_operand g' (pair_words put) overflow core' (run_from place 2) refs' effect)
        (stored ∙ sym (ap (core_put core') (changes_of_run [] place (pair_words put)))) is

    -- A word is read and then written, by the result of the Write.
    module _ (m' : Memory) (core'' : List ℕ) (refs'' : List Reference) (got : ℕ) (k : operand_of e ≡ kind.Rw) (none : last.direct ≡ None) (read : ServesRead g f 1 m refs core' refs' (Ok (got ∷ []))) (same : m'.core ≡ core') where
      changes_by : run core_store g (operate e n g c) (midstep_with m.core [] refs) ≡ run core_store g (refer (request_at Write c 1) (λ b. perform e n g c Whole b.first (operand_of_word got))) (midstep_with m'.core [] refs')
      changes_by =
          ap (λ p. run core_store g p (midstep_with m.core [] refs)) (operates_by kind.Rw k none)
          ∙ run_ask g (request_at Read c 1) _ (midstep_with m.core [] refs) _ read
          ∙ ap (λ (x : List ℕ). run core_store g (refer (request_at Write c 1) (λ b. perform e n g c Whole b.first (operand_of_word got))) (midstep_with x [] refs')) (sym same)

      pub changed_ends : (place word : ℕ) (after : List ℕ) → ServesWrite g f 1 m' refs' core'' refs'' (Ok place)
          → Ok (record { regs = g'; put = word ∷ []; overflow = overflow }) ≡ exec e n g last (operand_of_word got)
          → after ≡ slice_set core'' place word → EndsFormed g (operate_and_end e n g w c) m.core f refs after refs'' g' end
      changed_ends place word after held effect stored =
          ends_written m.core refs core'' refs'' g' overflow end is place word after
          (changes_by ∙ run_ask g (request_at Write c 1) _ (midstep_with m'.core [] refs') _ held
          ∙ performs (operand_of_word got) g' (word ∷ []) overflow core'' (run_from place 1) refs'' effect)
          stored

  -- Nothing is referenced: the operand is direct, only the address is used, a transfer is not taken, or its target is
  -- checked but not read.
  module _ (core : List ℕ) (refs : List Reference) (g' : RegsFields) (overflow : Bool) (end : Ended) (is : end ≡ done_end g' overflow) where
    pub direct_ends : (operand : ℕ) → operand_of e ≡ kind.R → last.direct ≡ Some operand → takes_direct e ≡ true
        → Ok (record { regs = g'; put = []; overflow = overflow }) ≡ exec e n g last (operand_of_word operand)
        → EndsFormed g (operate_and_end e n g w c) core f refs core refs g' end
    unfolding operate
    direct_ends operand k some takes effect =
        let by : operate e n g c ≡ perform e n g c Whole 0 (operand_of_word operand) =
        ap (λ (x : Option ℕ). operate_on e n g c x) some ∙ ap (λ (b : Bool). operate_direct e n g c operand b) takes
        ∙ ap (λ (x : Operand). perform e n g c Whole 0 (record { got = direct_word x operand; ring = 0; place = 0 })) k in
        ends_unwritten core refs core refs g' overflow end is
        (ap (λ p. run core_store g p (midstep_with core [] refs)) by ∙ performs (operand_of_word operand) g' [] overflow core [] refs effect)

    pub address_ends : operand_of e ≡ kind.A → last.direct ≡ None → is_absa e ≡ false
        → Ok (record { regs = g'; put = []; overflow = overflow }) ≡ exec e n g last no_operand
        → EndsFormed g (operate_and_end e n g w c) core f refs core refs g' end
    address_ends k none other effect =
        let by : operate e n g c ≡ perform e n g c Whole 0 no_operand =
        operates_by kind.A k none ∙ ap (λ (b : Bool). addressing e n g c b) other in
        ends_unwritten core refs core refs g' overflow end is
        (ap (λ p. run core_store g p (midstep_with core [] refs)) by ∙ performs no_operand g' [] overflow core [] refs effect)

    transfers_by : (taken : Bool) → operand_of e ≡ kind.T → last.direct ≡ None → taken ≡ is_taken e g → operate e n g c ≡ transferring e n g c taken
    transfers_by taken k none t =
        operates_by kind.T k none ∙ ap (λ (x : RegsFields). transferring e n g c (is_taken e x)) same_regs ∙ ap (transferring e n g c) (sym t)

    pub stays_ends : operand_of e ≡ kind.T → last.direct ≡ None → false ≡ is_taken e g
        → Ok (record { regs = g'; put = []; overflow = overflow }) ≡ exec e n g last no_operand
        → EndsFormed g (operate_and_end e n g w c) core f refs core refs g' end
    stays_ends k none t effect =
        ends_unwritten core refs core refs g' overflow end is
        (ap (λ p. run core_store g p (midstep_with core [] refs)) (transfers_by false k none t) ∙ performs no_operand g' [] overflow core [] refs effect)

    pub target_ends : (d : SdwFields) → operand_of e ≡ kind.T → last.direct ≡ None → true ≡ is_taken e g
        → serve core_store g (midstep_with core [] refs) (request Transfer last.at 1 []) ≡ served_with_result (request Transfer last.at 1 []) core [] refs (result_at_target d (Ok (tt {0})))
        → Ok (record { regs = g'; put = []; overflow = overflow }) ≡ exec e n g last no_operand
        → EndsFormed g (operate_and_end e n g w c) core f refs core refs g' end
    target_ends d k none t served effect =
        ends_unwritten core refs core refs g' overflow end is
        (ap (λ p. run core_store g p (midstep_with core [] refs)) (transfers_by true k none t)
        ∙ run_ask g (request_at Transfer c 1) _ (midstep_with core [] refs) _ served
        ∙ performs no_operand g' [] overflow core [] refs effect)

    -- A call is allowed, in the ring that its target determines.
    pub call_ends : (d : SdwFields) (ring : ℕ) → operand_of e ≡ kind.Call6 → last.direct ≡ None
        → serve core_store g (midstep_with core [] refs) (request Call last.at 1 []) ≡ served_with_result (request Call last.at 1 []) core [] refs (result_at_target d (Ok ring)) → ring ≡ ring_after_call d last.at.ring
        → Ok (record { regs = g'; put = []; overflow = overflow }) ≡ exec e n g last (ring_only ring)
        → EndsFormed g (operate_and_end e n g w c) core f refs core refs g' end
    call_ends d ring k none served is_ring effect =
        ends_unwritten core refs core refs g' overflow end is
        (ap (λ p. run core_store g p (midstep_with core [] refs)) (operates_by kind.Call6 k none)
        ∙ run_ask g (request_at Call c 1) _ (midstep_with core [] refs) _ served
        ∙ ap (λ (x : ℕ). run core_store g (perform e n g c Whole 0 (ring_only x)) (midstep_with core [] refs)) (sym is_ring)
        ∙ performs (ring_only ring) g' [] overflow core [] refs effect)

module _ (e : Effect) (n w : ℕ) (g : RegsFields) where
  starts_addressed : (k : Operand) → (k ≡ kind.N → ⊥) → execute_admitted e n g w k ≡ form_and_operate e n g w
  starts_addressed kind.N forms = absurd (forms refl)
  starts_addressed _ forms = refl

  -- an instruction that forms an address and is not privileged
  pub unprivileged : (privileged : Bool) → is_privileged e ≡ false → (operand_of e ≡ kind.N → ⊥) → execute_unless_barred e n g w (is_privileged e && not privileged) ≡ form_and_operate e n g w
  unprivileged privileged none forms =
      ap (λ (b : Bool). execute_unless_barred e n g w (b && not privileged)) none ∙ starts_addressed (operand_of e) forms
