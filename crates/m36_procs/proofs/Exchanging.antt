-- Laws of registers of which one set is in the machine; its entry in the list has no meaning.
use Rattle.std.proofs.Common.{◌≡◌, ◌≢◌, ℕ, ◌<◌, List, length, get_or, set, Some, refl, sym, ap, subst, ◌∙◌, arith}
use Rattle.std.specs.Prelude.{slice_get}
use Rattle.std.proofs.lemmas.List.{get_or-set_same, get_or-set_other, set-get_or, set-set, length-set}
use Rattle.std.proofs.lemmas.Option.{slice_get-get_or, slice_get_within}
use Rattle.m36_model.specs.Core.{core_store}
use Rattle.m36_model.specs.Registers.{RegsFields}
use Rattle.m36_model.specs.Schedule.{Processes}
use Rattle.m36_model.specs.Step.{record_of, state_after}
use Rattle.m36_model.specs.Store.{State}
use Rattle.m36_model.specs.declared.record.StepRecord.{StepRecord}
use Rattle.m36_procs.specs.EventResult.{IsEvent}

-- Storing an element at its own place changes nothing.
pub set_kept : {A : Type 0} (xs : List A) (i : ℕ) (g : A) → g ≡ get_or xs i g → set xs i g ≡ xs
set_kept xs i g is = ap (λ x. set xs i x) is ∙ set-get_or xs i g

-- The registers of another process were brought into the machine.
pub brought :
    {A : Type 0} (xs : List A) (h i : ℕ) (m g : A)
    → i ≢ h → g ≡ get_or xs i g → set (set xs h m) i g ≡ set xs h m
brought xs h i m g other is =
    set_kept (set xs h m) i g (is ∙ sym (get_or-set_other xs h i m g other))

-- the registers of process i: those in the machine if it is the process there, otherwise those in the list
pub get_inside :
    {A : Type 0} (xs : List A) (h i : ℕ) (m : A)
    → i ≡ h → h < length xs → slice_get (set xs h m) i ≡ Some m
get_inside xs h i m same within =
    ap (λ k. slice_get (set xs h m) k) same ∙ slice_get-get_or (set xs h m) h m (omega (arith, length-set xs h m)) ∙ ap (λ x. Some x) (get_or-set_same xs h m m within)

pub get_outside :
    {A : Type 0} (xs : List A) (h i : ℕ) (m g : A)
    → i ≢ h → i < length xs → g ≡ get_or xs i g → slice_get (set xs h m) i ≡ Some g
get_outside xs h i m g other within is =
    slice_get-get_or (set xs h m) i g (omega (arith, length-set xs h m)) ∙ ap (λ x. Some x) (get_or-set_other xs h i m g other ∙ sym is)

pub ruleset exchanging = (set_kept, brought, get_inside, get_outside)

some_same : {A : Type 0} (x y : A) → Some x ≡ Some y → x ≡ y
some_same x y e = cc

-- The registers of a process were brought, and its step was taken.
pub step_taken :
    (xs ys : List RegsFields) (h i : ℕ) (m n after : State (List ℕ)) (told : StepRecord) (g : RegsFields)
    → set ys i n.regs ≡ set xs h m.regs
    → n.store ≡ m.store
    → i < length ys
    → told ≡ record_of core_store n
    → after ≡ state_after core_store n
    → slice_get (set xs h m.regs) i ≡ Some g
    → IsEvent i (record { regs = set xs h m.regs; store = m.store }) (record { regs = set ys i after.regs; store = after.store }) told g
step_taken xs ys h i m n after told g all store within tells steps there =
    let own : n.regs ≡ g = some_same n.regs g (sym (get_inside ys i i n.regs refl within) ∙ ap (λ l. slice_get l i) all ∙ there) in
    let state : State (List ℕ) = record { regs = g; store = m.store } in
    let is : n ≡ state = λ k. record { regs = own k; store = store k } in
    let left : after ≡ state_after core_store state = steps ∙ ap (λ s. state_after core_store s) is in
    let regs : set ys i after.regs ≡ set (set xs h m.regs) i (state_after core_store state).regs = sym (set-set ys i n.regs after.regs) ∙ ap (λ l. set l i after.regs) all ∙ ap (λ (s : State (List ℕ)). set (set xs h m.regs) i s.regs) left in
    let core : after.store ≡ (state_after core_store state).store = ap (λ (s : State (List ℕ)). s.store) left in
    record {
      told_is = tells ∙ ap (λ s. record_of core_store s) is;
      state = λ k. record { regs = regs k; store = core k };
    }

-- As `step_taken`, for the model of the processes and an index that is equal to i.
pub process_stepped :
    (old : Processes (List ℕ)) (xs ys : List RegsFields) (h i at : ℕ) (m n after : State (List ℕ)) (told : StepRecord) (g : RegsFields)
    → old ≡ record { regs = set xs h m.regs; store = m.store }
    → at ≡ i
    → length ys ≡ length xs
    → set ys i n.regs ≡ set xs h m.regs
    → n.store ≡ m.store
    → told ≡ record_of core_store n
    → after ≡ state_after core_store n
    → slice_get old.regs i ≡ Some g
    → IsEvent i old (record { regs = set ys at after.regs; store = after.store }) told g
process_stepped old xs ys h i at m n after told g view here len all store tells steps there =
    let seen : slice_get (set xs h m.regs) i ≡ Some g = ap (λ (s : Processes (List ℕ)). slice_get s.regs i) (sym view) ∙ there in
    let within : i < length ys = omega (arith, slice_get_within (set xs h m.regs) i g seen, length-set xs h m.regs) in
    let P : Processes (List ℕ) → Type 0 = λ s. IsEvent i s (record { regs = set ys at after.regs; store = after.store }) told g in
    let Q : ℕ → Type 0 = λ k. IsEvent i (record { regs = set xs h m.regs; store = m.store }) (record { regs = set ys k after.regs; store = after.store }) told g in
    subst P (sym view) (subst Q (sym here) (step_taken xs ys h i m n after told g all store within tells steps seen))
