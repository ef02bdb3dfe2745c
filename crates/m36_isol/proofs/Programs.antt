-- The program of a step in ring r and above: it makes no reference below r, and ends there except
-- for a gate call.
use Rattle.std.proofs.Common.{◌≡◌, refl, ◌∙◌, ap, inl, inr, ⊎_elim, arith, le_trans, eqb-true}
use Rattle.std.specs.Prelude.{ℕ, ◌+◌, ◌*◌, ◌<◌, ◌≤◌, ◌⊎◌, Bool, true, false, not, ◌&&◌, ◌==◌, slice_get, slice_index, Option, Some, None, Result, Ok, Err}
use Rattle.std.proofs.lemmas.Bool.{or_right}
use Rattle.m36_desc.specs.Fields.{SdwFields}
use Rattle.m36_inst.specs.Fields.{InstFields}
use Rattle.m36_inst.specs.Instruction.{inst_of}
use Rattle.m36_inst.specs.Operands.{operand_of, is_privileged}
use Rattle.m36_inst.specs.declared.effect.Effect.{Effect}
use Rattle.m36_inst.specs.declared.effect.Effect.TheVariants as effect
use Rattle.m36_inst.specs.declared.operand.Operand.{Operand}
use Rattle.m36_inst.specs.declared.operand.Operand.TheVariants as kind
use Rattle.m36_model.specs.Fields.{FinalFields}
use Rattle.m36_model.specs.Registers.{RegsFields}
use Rattle.m36_model.specs.Act.{Act, either}
use Rattle.m36_model.specs.Modification.{here, halt_at}
use Rattle.m36_model.specs.FirstPoint.{first_point, first_point_by}
use Rattle.m36_model.specs.Chain.{ChainEnd, chain}
use Rattle.m36_model.specs.Step.{Performed, Ending, outcome_after, end_halted, end_completed, operate, operate_and_end, indirect_words, form_and_operate, no_address, execute_admitted, execute_unless_barred, decode, execute_decoded, has_right, program}
use Rattle.m36_model.specs.Audit.{is_stack_of, IsGuarded}
use Rattle.m36_model.specs.Isolation.{HasPointers}
use Rattle.m36_model.specs.declared.outcome.Halt.{Halt}
use Rattle.m36_model.specs.declared.outcome.Halt.TheVariants as halt
use Rattle.m36_model.specs.declared.outcome.Stop.TheVariants as stop
use Rattle.m36_model.specs.declared.outcome.Outcome.TheVariants.{Next}
use Rattle.m36_model.specs.declared.outcome.Refusal.{Refusal}
use Rattle.m36_isol.proofs.Program.{Meets, meets_then, Either}
use Rattle.m36_isol.proofs.Rights.{fetch_rights}
use Rattle.m36_isol.specs.Rights.{MayFetch}
use Rattle.m36_isol.proofs.Alike.{Sees, May, Known}
use Rattle.m36_isol.proofs.Chains.{InRing, AnyHalt, chain_meets}
use Rattle.m36_isol.proofs.Operations.{IsFallen, IsPerformed, operate_meets}

module _ (sdws : ℕ → Result SdwFields Refusal) (r : ℕ) (g : RegsFields) where
  -- the step ended with a gate call
  pub record IsGone (e : Ending) : Type 0 where
    pub word : ℕ
    pub fetched : e.word ≡ Some word
    pub number : ℕ
    pub called : decode word ≡ Some (effect.Call6, number)
    pub next : e.outcome ≡ Next
    pub final : FinalFields
    pub formed : e.at ≡ Some final
    pub target : (e.after.ppr.psr ≡ final.at.seg) × (e.after.ppr.ic ≡ final.at.word)
    pub sdw : SdwFields
    pub live : sdws final.at.seg ≡ Ok sdw
    pub gate : sdw.no_gate ≡ false
    pub below : sdw.r2 < r
    pub callable : r ≤ sdw.r3
    pub entry : final.at.word < sdw.limit
    pub new_ring : e.after.ppr.prr ≡ sdw.r2
    pub pointer : HasPointers g → slice_get e.after.pr 7 ≡ Some (record { seg = 8 * g.dbr.stack + sdw.r2; ring = sdw.r2; word = 0; bit = 0 })
    pub stack : is_stack_of sdw.r2 (sdws (8 * g.dbr.stack + sdw.r2)) ≡ true

  -- the step has executed LDBR to its end, in ring 0
  pub record LoadsDbr (e : Ending) : Type 0 where
    pub word : ℕ
    pub fetched : e.word ≡ Some word
    pub number : ℕ
    pub loads : decode word ≡ Some (effect.Ldbr, number)
    pub next : e.outcome ≡ Next
    pub lowest : g.ppr.prr ≡ 0

  pub record IsEnded (e : Ending) : Type 0 where
    pub ring : (r ≤ e.after.ppr.prr) ⊎ IsGone e
    pub dbr : (e.after.dbr ≡ g.dbr) ⊎ LoadsDbr e
    pub pointers : HasPointers g → HasPointers e.after

  abbrev MeetsEnd : Act Ending → Type 0
  MeetsEnd m = Meets (May sdws r g) (Known sdws g) IsEnded m

  next_by : (overflow mask : Bool) → overflow ≡ false → outcome_after overflow mask g ≡ Next
  next_by true mask h = cc
  next_by false mask h = refl

  completed_meets : (e : Effect) (n w : ℕ) (c : ChainEnd) (p : Performed) → decode w ≡ Some (e, n) → (e ≡ effect.Ldbr → g.ppr.prr ≡ 0) → IsPerformed sdws r g e c p → MeetsEnd (end_completed g w c.last p)
  completed_meets e n w c p row lowest h =
      record {
        ring = ⊎_elim (λ above. inl above) (λ fallen. inr (gone fallen)) h.ring;
        dbr = ⊎_elim (λ same. inl same) (λ loads. inr (loaded loads.0 loads.1)) h.dbr;
        pointers = h.pointers;
      }
    where
      ending : Ending
      ending = record { word = Some w; at = Some c.last; after = p.regs; puts = p.puts; outcome = outcome_after p.overflow p.regs.ind.mask g }

      gone : IsFallen sdws r g e c p → IsGone ending
      gone k =
          record {
            word = w;
            fetched = refl;
            number = n;
            called = row ∙ ap (λ (x : Effect). Some (x, n)) k.called;
            next = next_by p.overflow _ k.overflow;
            final = c.last;
            formed = refl;
            target = k.target;
            sdw = k.sdw;
            live = k.live;
            gate = k.gate;
            below = k.below;
            callable = k.callable;
            entry = k.entry;
            new_ring = k.new_ring;
            pointer = k.pointer;
            stack = k.stack;
          }

      loaded : e ≡ effect.Ldbr → p.overflow ≡ false → LoadsDbr ending
      loaded is overflow =
          record {
            word = w;
            fetched = refl;
            number = n;
            loads = row ∙ ap (λ (x : Effect). Some (x, n)) is;
            next = next_by p.overflow _ overflow;
            lowest = lowest is;
          }

  module _ (low : r ≤ g.ppr.prr) where
    halted_meets : (word : Option ℕ) (at : Option FinalFields) (h : Halt) → MeetsEnd (end_halted g word at h)
    halted_meets word at h = record { ring = inl low; dbr = inl refl; pointers = λ k. k }

    first_low : (b : Bool) (i : InstFields) → r ≤ (first_point_by b g i).ring
    first_low false i = low
    first_low true i = omega arith

    first_point_low : (i : InstFields) → r ≤ (first_point g i).ring
    unfolding first_point
    first_point_low i = first_low i.by_pr i

    no_address_meets : (e : Effect) (w : ℕ) → MeetsEnd (no_address e g w)
    no_address_meets effect.Mme w = halted_meets (Some w) None (halt_at 2 (here g))
    no_address_meets effect.Drl w = halted_meets (Some w) None (halt_at 6 (here g))
    no_address_meets _ w = halted_meets (Some w) None (halt.Stop stop.Dis)

    module _ (guarded : IsGuarded g.dbr sdws) (executes : Sees sdws r g.ppr.psr) where
      operation_meets : (e : Effect) (n w : ℕ) (c : ChainEnd) → decode w ≡ Some (e, n) → (e ≡ effect.Ldbr → g.ppr.prr ≡ 0) → (v : Result Performed Halt) → Either (IsPerformed sdws r g e c) AnyHalt v → MeetsEnd (either (end_completed g w c.last) (end_halted g (Some w) (Some c.last)) v)
      operation_meets e n w c row lowest (Ok p) h = completed_meets e n w c p row lowest h
      operation_meets e n w c row lowest (Err k) h = halted_meets (Some w) (Some c.last) k

      chain_end_meets : (e : Effect) (n w : ℕ) → decode w ≡ Some (e, n) → (e ≡ effect.Ldbr → g.ppr.prr ≡ 0) → (v : Result ChainEnd Halt) → Either (InRing r) AnyHalt v → MeetsEnd (either (operate_and_end e n g w) (end_halted g (Some w) None) v)
      chain_end_meets e n w row lowest (Ok c) h =
          meets_then (May sdws r g) (Known sdws g) (Either (IsPerformed sdws r g e c) AnyHalt) IsEnded (operate e n g c) _ (operate_meets sdws r g low executes guarded e n c h) (operation_meets e n w c row lowest)
      chain_end_meets e n w row lowest (Err k) h = halted_meets (Some w) None k

      addressed_meets : (e : Effect) (n w : ℕ) → decode w ≡ Some (e, n) → (e ≡ effect.Ldbr → g.ppr.prr ≡ 0) → MeetsEnd (form_and_operate e n g w)
      addressed_meets e n w row lowest =
          meets_then (May sdws r g) (Known sdws g) (Either (InRing r) AnyHalt) IsEnded (chain indirect_words g (first_point g (inst_of w))) _ (chain_meets sdws r g executes indirect_words (first_point g (inst_of w)) (first_point_low (inst_of w))) (chain_end_meets e n w row lowest)

      started_meets : (e : Effect) (n w : ℕ) → decode w ≡ Some (e, n) → (e ≡ effect.Ldbr → g.ppr.prr ≡ 0) → (k : Operand) → MeetsEnd (execute_admitted e n g w k)
      started_meets e n w row lowest kind.N = no_address_meets e w
      started_meets e n w row lowest _ = addressed_meets e n w row lowest

      admitted_meets : (e : Effect) (n w : ℕ) → decode w ≡ Some (e, n) → (refused : Bool) → (refused ≡ false → e ≡ effect.Ldbr → g.ppr.prr ≡ 0) → MeetsEnd (execute_unless_barred e n g w refused)
      admitted_meets e n w row true lowest = halted_meets (Some w) None (halt_at 10 (here g))
      admitted_meets e n w row false lowest = started_meets e n w row (lowest refl) (operand_of e)

      -- LDBR is privileged
      ldbr_lowest : (e : Effect) (right : Bool) → (right ≡ true → g.ppr.prr ≡ 0) → (is_privileged e && not right) ≡ false → e ≡ effect.Ldbr → g.ppr.prr ≡ 0
      ldbr_lowest e true lowest h is = lowest refl
      ldbr_lowest e false lowest h is = let k = ap is_privileged is in cc

      decoded_meets : (w : ℕ) (right : Bool) → (right ≡ true → g.ppr.prr ≡ 0) → (row : Option (Effect × ℕ)) → decode w ≡ row → MeetsEnd (execute_decoded g w right row)
      decoded_meets w right lowest None e = halted_meets (Some w) None (halt.Stop stop.Operation)
      decoded_meets w right lowest (Some row) e =
          admitted_meets row.0 row.1 w e (is_privileged row.0 && not right) (ldbr_lowest row.0 right lowest)

    -- only ring 0 has the right to privileged instructions
    right_lowest : (privileged : Bool) → (privileged && (g.ppr.prr == 0)) ≡ true → g.ppr.prr ≡ 0
    right_lowest true h = eqb-true g.ppr.prr 0 h
    right_lowest false h = cc

    fetch_sees : (d : SdwFields) → sdws g.ppr.psr ≡ Ok d → MayFetch d g.ppr.prr → Sees sdws r g.ppr.psr
    fetch_sees d live m =
        record { sdw = d; live = live; opens = or_right d.readable d.executable m.executable; high = le_trans low m.high }

    -- The program of a step makes no reference below r, and ends in r or above except for a gate
    -- call.
    pub program_meets : IsGuarded g.dbr sdws → MeetsEnd (program g)
    unfolding program
    program_meets guarded =
        (record { some = omega arith; ring = tt }, (λ f. halted_meets None None (halt.Fault f)), (λ a known. decoded_meets guarded (fetch_sees a.sdw known.live (fetch_rights a.sdw g.ppr.prr g.ppr.prr (g.ppr.psr == g.ppr.psr) g.ppr.ic known.allowed)) (slice_index a.words 0) (has_right a.sdw g.ppr.prr) (right_lowest a.sdw.privileged) (decode (slice_index a.words 0)) refl))
