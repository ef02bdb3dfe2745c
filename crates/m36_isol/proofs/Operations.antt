-- An operation in ring r and above stays in ring r and above, except for a gate call.
use Rattle.std.proofs.Common.{◌≡◌, refl, sym, ◌∙◌, ap, subst, inl, inr, ⊎_elim, arith, le_trans, lt_irrefl, lt_of_lt_of_le, eqb-true, true≢false}
use Rattle.std.proofs.lemmas.Bool.{cases_lt}
use Rattle.std.specs.Prelude.{ℕ, ◌+◌, ◌*◌, ◌<◌, ◌≤◌, ◌⊎◌, Bool, true, false, ◌==◌, nat_lt, if◌then◌else◌, List, [], slice_get, Option, Some, None, Result, Ok, Err}
use Rattle.m36_desc.specs.Fields.{SdwFields}
use Rattle.m36_desc.specs.Access.{ring_after_call}
use Rattle.m36_inst.specs.Operands.{operand_of, takes_direct}
use Rattle.m36_inst.specs.declared.effect.Effect.{Effect}
use Rattle.m36_inst.specs.declared.effect.Effect.TheVariants as effect
use Rattle.m36_inst.specs.declared.operand.Operand.{Operand}
use Rattle.m36_inst.specs.declared.operand.Operand.TheVariants as kind
use Rattle.m36_model.specs.Registers.{RegsFields}
use Rattle.m36_model.specs.Act.{Part, Put, Whole, Left, Right}
use Rattle.m36_model.specs.Modification.{ptr}
use Rattle.m36_model.specs.Chain.{ChainEnd}
use Rattle.m36_model.specs.Results.{OperandFields, EffectFields}
use Rattle.m36_model.specs.Effect.{exec, is_absa}
use Rattle.m36_model.specs.Transfers.{is_taken}
use Rattle.m36_model.specs.CallReturn.{stack_segment, stack_pointer}
use Rattle.m36_model.specs.Step.{Performed, Operation, operation_result, with_chain_tally, no_operand, reading_word, reading_words, writing, changing, addressing, transferring, calling, operate_by_kind, operate_direct, operate_on, operate}
use Rattle.m36_model.specs.Audit.{is_stack_of, IsGuarded}
use Rattle.m36_model.specs.Isolation.{HasPointers}
use Rattle.m36_model.specs.Laws.{IsCalled}
use Rattle.m36_model.specs.declared.outcome.Halt.{Halt}
use Rattle.m36_model.specs.declared.outcome.Refusal.{Refusal}
use Rattle.m36_isol.proofs.Program.{Meets, Either}
use Rattle.m36_isol.proofs.Rights.{call_rights}
use Rattle.m36_isol.specs.Rights.{MayCall}
use Rattle.m36_isol.proofs.Alike.{Sees, May, Known}
use Rattle.m36_isol.proofs.Effects.{effect_law}
use Rattle.m36_isol.proofs.Chains.{AnyHalt}

module _ (sdws : ℕ → Result SdwFields Refusal) (r : ℕ) (g : RegsFields) where
  -- a gate call, by the descriptors
  pub record IsFallen (e : Effect) (c : ChainEnd) (p : Performed) : Type 0 where
    pub called : e ≡ effect.Call6
    pub target : (p.regs.ppr.psr ≡ c.last.at.seg) × (p.regs.ppr.ic ≡ c.last.at.word)
    pub sdw : SdwFields
    pub live : sdws c.last.at.seg ≡ Ok sdw
    pub gate : sdw.no_gate ≡ false
    pub below : sdw.r2 < r
    pub callable : r ≤ sdw.r3
    pub entry : c.last.at.word < sdw.limit
    pub new_ring : p.regs.ppr.prr ≡ sdw.r2
    pub pointer : HasPointers g → slice_get p.regs.pr 7 ≡ Some (record { seg = 8 * g.dbr.stack + sdw.r2; ring = sdw.r2; word = 0; bit = 0 })
    pub stack : is_stack_of sdw.r2 (sdws (8 * g.dbr.stack + sdw.r2)) ≡ true
    pub overflow : p.overflow ≡ false

  -- the result of an operation
  pub record IsPerformed (e : Effect) (c : ChainEnd) (p : Performed) : Type 0 where
    pub ring : (r ≤ p.regs.ppr.prr) ⊎ IsFallen e c p
    pub dbr : (p.regs.dbr ≡ g.dbr) ⊎ ((e ≡ effect.Ldbr) × (p.overflow ≡ false))
    pub pointers : HasPointers g → HasPointers p.regs

  module _ (low : r ≤ g.ppr.prr) where
    -- an effect that is not a call
    abbrev MeetsEffect : Effect → ChainEnd → Result Performed Halt → Type 0
    MeetsEffect e c v = Either (IsPerformed e c) AnyHalt v

    plain_by : (e : Effect) (n : ℕ) (c : ChainEnd) (part : Part) (first : ℕ) (o : OperandFields) → (e ≡ effect.Call6 → ⊥) → r ≤ c.last.at.ring → (v : Result EffectFields ℕ) → exec e n (with_chain_tally g c) c.last o ≡ v → MeetsEffect e c (operation_result g c part first v)
    unfolding with_chain_tally
    plain_by e n c part first o plain high (Err number) h = tt
    plain_by e n c part first o plain high (Ok x) h =
        let k = effect_law e n (with_chain_tally g c) c.last o x h in
        record {
          ring = inl (⊎_elim (λ same. subst (λ (m : ℕ). r ≤ m) (sym same) low) (λ other. ⊎_elim (λ call. absurd (plain call.0)) (λ back. le_trans high back.1) other) k.ring);
          dbr = k.dbr;
          pointers = k.pointers;
        }

    module _ (executes : Sees sdws r g.ppr.psr) where
      abbrev MeetsOperation : Effect → ChainEnd → Operation → Type 0
      MeetsOperation e c m = Meets (May sdws r g) (Known sdws g) (Either (IsPerformed e c) AnyHalt) m

      -- an instruction whose operand kind is not that of CALL6 is not CALL6
      no_call : (e : Effect) (k : Operand) → operand_of e ≡ k → (k ≡ kind.Call6 → ⊥) → e ≡ effect.Call6 → ⊥
      no_call e k is other call = other (sym is ∙ ap operand_of call)

      word_meets : (e : Effect) (n : ℕ) (c : ChainEnd) → (e ≡ effect.Call6 → ⊥) → r ≤ c.last.at.ring → MeetsOperation e c (reading_word e n g c)
      word_meets e n c plain high =
          (record { some = omega arith; ring = (high, executes) }, (λ f. tt), (λ a known. plain_by e n c Whole 0 _ plain high _ refl))

      words_meet : (e : Effect) (n : ℕ) (c : ChainEnd) (count : ℕ) → 1 ≤ count → (e ≡ effect.Call6 → ⊥) → r ≤ c.last.at.ring → MeetsOperation e c (reading_words e n g c count)
      words_meet e n c count some plain high =
          (record { some = some; ring = (high, executes) }, (λ f. tt), (λ a known. plain_by e n c Whole 0 _ plain high _ refl))

      writing_meets : (e : Effect) (n : ℕ) (c : ChainEnd) (count : ℕ) (part : Part) → 1 ≤ count → (e ≡ effect.Call6 → ⊥) → r ≤ c.last.at.ring → MeetsOperation e c (writing e n g c count part)
      writing_meets e n c count part some plain high =
          (record { some = some; ring = high }, (λ f. tt), (λ a known. plain_by e n c part a.first _ plain high _ refl))

      changing_meets : (e : Effect) (n : ℕ) (c : ChainEnd) (part : Part) → (e ≡ effect.Call6 → ⊥) → r ≤ c.last.at.ring → MeetsOperation e c (changing e n g c part)
      changing_meets e n c part plain high =
          (record { some = omega arith; ring = (high, executes) }, (λ f. tt), (λ a known. (record { some = omega arith; ring = high }, (λ f. tt), (λ b known'. plain_by e n c part b.first _ plain high _ refl))))

      addressing_meets : (e : Effect) (n : ℕ) (c : ChainEnd) (place : Bool) → (e ≡ effect.Call6 → ⊥) → r ≤ c.last.at.ring → MeetsOperation e c (addressing e n g c place)
      addressing_meets e n c false plain high = plain_by e n c Whole 0 no_operand plain high _ refl
      addressing_meets e n c true plain high =
          (record { some = omega arith; ring = tt }, (λ f. tt), (λ a known. plain_by e n c Whole 0 _ plain high _ refl))

      transferring_meets : (e : Effect) (n : ℕ) (c : ChainEnd) (taken : Bool) → (e ≡ effect.Call6 → ⊥) → r ≤ c.last.at.ring → MeetsOperation e c (transferring e n g c taken)
      transferring_meets e n c false plain high = plain_by e n c Whole 0 no_operand plain high _ refl
      transferring_meets e n c true plain high =
          (record { some = omega arith; ring = tt }, (λ f. tt), (λ a known. plain_by e n c Whole 0 no_operand plain high _ refl))

      -- only CALL6 enters a lower ring
      module _ (guarded : IsGuarded g.dbr sdws) where
        -- the target is not the segment that is executed, since r is within the read bracket of
        -- that one
        other_segment : (seg : ℕ) (d : SdwFields) → sdws seg ≡ Ok d → d.r2 < r → (t : Bool) → (seg == g.ppr.psr) ≡ t → t ≡ false
        other_segment seg d live below false e = refl
        other_segment seg d live below true e =
            let here = executes.live in
            let at = ap sdws (eqb-true seg g.ppr.psr e) in
            let same : d ≡ executes.sdw = cc in
            let high = executes.high in
            absurd (lt_irrefl d.r2 (lt_of_lt_of_le below (subst (λ (x : SdwFields). r ≤ x.r2) (sym same) high)))

        -- the stack of a lower ring is the one that the DBR gives
        lower_stack : (ring : ℕ) → ring < r → stack_segment g ring ≡ 8 * g.dbr.stack + ring
        lower_stack ring below = by_test (ring == g.ppr.prr) refl
          where
            by_test : (t : Bool) → (ring == g.ppr.prr) ≡ t → (if t then (ptr g 6).seg else 8 * g.dbr.stack + ring) ≡ 8 * g.dbr.stack + ring
            by_test true e = let same = eqb-true ring g.ppr.prr e in absurd (omega arith)
            by_test false e = refl

        fallen : (e : Effect) → e ≡ effect.Call6 → (c : ChainEnd) (d : SdwFields) (x : EffectFields) (puts : List Put) → sdws c.last.at.seg ≡ Ok d → MayCall d c.last.at.ring (c.last.at.seg == g.ppr.psr) c.last.at.word → r ≤ c.last.at.ring → d.r2 < r → (o : OperandFields) → o.ring ≡ d.r2 → IsCalled (with_chain_tally g c) c.last o x → IsFallen e c (record { regs = x.regs; puts = puts; overflow = x.overflow })
        unfolding with_chain_tally
        fallen e is c d x puts live may high below o ring call =
            let outer : d.r2 < d.r3 = lt_of_lt_of_le below (le_trans high may.high) in
            let gate = guarded.gates c.last.at.seg d live may.executable outer in
            record {
              called = is;
              target = call.target;
              sdw = d;
              live = live;
              gate = gate;
              below = below;
              callable = le_trans high may.high;
              entry = may.entry gate (other_segment c.last.at.seg d live below (c.last.at.seg == g.ppr.psr) refl);
              new_ring = call.ring ∙ ring;
              pointer = λ h. call.pointer h ∙ ap (λ (n : ℕ). Some (stack_pointer g n)) ring ∙ ap (λ (n : ℕ). Some (record { seg = n; ring = d.r2; word = 0; bit = 0 })) (lower_stack d.r2 below);
              stack = guarded.stacks c.last.at.seg d live may.executable outer;
              overflow = call.overflow;
            }

        called_ring : (e : Effect) → e ≡ effect.Call6 → (c : ChainEnd) (d : SdwFields) (x : EffectFields) (puts : List Put) → sdws c.last.at.seg ≡ Ok d → MayCall d c.last.at.ring (c.last.at.seg == g.ppr.psr) c.last.at.word → r ≤ c.last.at.ring → (t : Bool) → nat_lt d.r2 c.last.at.ring ≡ t → (o : OperandFields) → o.ring ≡ (if t then d.r2 else c.last.at.ring) → IsCalled (with_chain_tally g c) c.last o x → (r ≤ x.regs.ppr.prr) ⊎ IsFallen e c (record { regs = x.regs; puts = puts; overflow = x.overflow })
        called_ring e is c d x puts live may high false test o ring call =
            inl (subst (λ (m : ℕ). r ≤ m) (sym (call.ring ∙ ring)) high)
        called_ring e is c d x puts live may high true test o ring call =
            ⊎_elim (λ below. inr (fallen e is c d x puts live may high below o ring call)) (λ above. inl (subst (λ (m : ℕ). r ≤ m) (sym (call.ring ∙ ring)) above)) (cases_lt d.r2 r)

        call_by : (e : Effect) (n : ℕ) (c : ChainEnd) (d : SdwFields) → sdws c.last.at.seg ≡ Ok d → MayCall d c.last.at.ring (c.last.at.seg == g.ppr.psr) c.last.at.word → r ≤ c.last.at.ring → (v : Result EffectFields ℕ) → exec e n (with_chain_tally g c) c.last (record { got = []; ring = ring_after_call d c.last.at.ring; place = 0 }) ≡ v → MeetsEffect e c (operation_result g c Whole 0 v)
        unfolding with_chain_tally
        call_by e n c d live may high (Err number) h = tt
        call_by e n c d live may high (Ok x) h =
            let k = effect_law e n (with_chain_tally g c) c.last _ x h in
            record {
              ring = ⊎_elim (λ same. inl (subst (λ (m : ℕ). r ≤ m) (sym same) low)) (λ other. ⊎_elim (λ call. called_ring e call.0 c d x _ live may high (nat_lt d.r2 c.last.at.ring) refl _ refl call.1) (λ back. inl (le_trans high back.1)) other) k.ring;
              dbr = k.dbr;
              pointers = k.pointers;
            }

        calling_meets : (e : Effect) (n : ℕ) (c : ChainEnd) → r ≤ c.last.at.ring → MeetsOperation e c (calling e n g c)
        calling_meets e n c high =
            (record { some = omega arith; ring = tt }, (λ f. tt), (λ a known. call_by e n c a.sdw known.live (call_rights a.sdw c.last.at.ring g.ppr.prr (c.last.at.seg == g.ppr.psr) c.last.at.word known.allowed) high _ refl))

        -- by operand kind
        kind_meets : (e : Effect) (n : ℕ) (c : ChainEnd) (k : Operand) → operand_of e ≡ k → r ≤ c.last.at.ring → MeetsOperation e c (operate_by_kind e n g c k)
        kind_meets e n c kind.R is high = word_meets e n c (no_call e kind.R is (λ x. cc)) high
        kind_meets e n c kind.R2 is high = words_meet e n c 2 (omega arith) (no_call e kind.R2 is (λ x. cc)) high
        kind_meets e n c kind.R16 is high = words_meet e n c 16 (omega arith) (no_call e kind.R16 is (λ x. cc)) high
        kind_meets e n c kind.W is high = writing_meets e n c 1 Whole (omega arith) (no_call e kind.W is (λ x. cc)) high
        kind_meets e n c kind.W2 is high = writing_meets e n c 2 Whole (omega arith) (no_call e kind.W2 is (λ x. cc)) high
        kind_meets e n c kind.W16 is high = writing_meets e n c 16 Whole (omega arith) (no_call e kind.W16 is (λ x. cc)) high
        kind_meets e n c kind.Wl is high = writing_meets e n c 1 Left (omega arith) (no_call e kind.Wl is (λ x. cc)) high
        kind_meets e n c kind.Wr is high = writing_meets e n c 1 Right (omega arith) (no_call e kind.Wr is (λ x. cc)) high
        kind_meets e n c kind.Rw is high = changing_meets e n c Whole (no_call e kind.Rw is (λ x. cc)) high
        kind_meets e n c kind.Rwl is high = changing_meets e n c Left (no_call e kind.Rwl is (λ x. cc)) high
        kind_meets e n c kind.A is high = addressing_meets e n c (is_absa e) (no_call e kind.A is (λ x. cc)) high
        kind_meets e n c kind.T is high = transferring_meets e n c (is_taken e (with_chain_tally g c)) (no_call e kind.T is (λ x. cc)) high
        kind_meets e n c kind.N is high = plain_by e n c Whole 0 no_operand (no_call e kind.N is (λ x. cc)) high _ refl
        kind_meets e n c kind.Call6 is high = calling_meets e n c high

        -- CALL6 does not accept a direct operand
        direct_call : (e : Effect) → takes_direct e ≡ true → e ≡ effect.Call6 → ⊥
        direct_call e takes call = let k = ap takes_direct call in true≢false (sym takes ∙ k)

        direct_meets : (e : Effect) (n : ℕ) (c : ChainEnd) (w : ℕ) (t : Bool) → takes_direct e ≡ t → r ≤ c.last.at.ring → MeetsOperation e c (operate_direct e n g c w t)
        direct_meets e n c w true takes high = plain_by e n c Whole 0 _ (direct_call e takes) high _ refl
        direct_meets e n c w false takes high = tt

        on_meets : (e : Effect) (n : ℕ) (c : ChainEnd) (direct : Option ℕ) → r ≤ c.last.at.ring → MeetsOperation e c (operate_on e n g c direct)
        on_meets e n c None high = kind_meets e n c (operand_of e) refl high
        on_meets e n c (Some w) high = direct_meets e n c w (takes_direct e) refl high

        -- An operation whose address is in ring r or above stays there, except for a gate call.
        pub operate_meets : (e : Effect) (n : ℕ) (c : ChainEnd) → r ≤ c.last.at.ring → MeetsOperation e c (operate e n g c)
        unfolding operate
        operate_meets e n c high = on_meets e n c c.last.direct high
