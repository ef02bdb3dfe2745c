-- How a quick step ends: nothing refuses it, and the next instruction follows.
use Rattle.std.specs.Prelude.{ℕ, ◌≡◌, Bool, List, [], Some}
use Rattle.m36_inst.specs.declared.effect.Effect.TheVariants as effect
use Rattle.m36_inst.specs.declared.rows.Quick.{Quick}
use Rattle.m36_model.specs.Act.{Act}
use Rattle.m36_model.specs.Chain.{chain_end_fields}
use Rattle.m36_model.specs.Core.{core_store}
use Rattle.m36_model.specs.Fields.{FinalFields}
use Rattle.m36_model.specs.Registers.{RegsFields}
use Rattle.m36_model.specs.Step.{Ending, form_and_operate, decode, execute_decoded, operate_and_end}
use Rattle.m36_model.specs.Step.{program}
use Rattle.m36_model.specs.Store.{Midstep, run}
use Rattle.m36_model.specs.declared.outcome.Outcome.TheVariants.{Next}
use Rattle.m36_model.specs.declared.place.Reference.{Reference}
use Rattle.m36_walk.specs.Served.{midstep_with}
use Rattle.m36_ea.specs.Formed.{without_tally, midstep_after_address}
use Rattle.m36_ea.specs.declared.quick.Counting.{Counting}
use Rattle.m36_model.specs.declared.effects.Formed.{Formed}
use Rattle.m36_step.specs.Ended.{end_of_run, code_end}
use Rattle.m36_step.specs.declared.ended.Ended.{Ended}

-- the end of a step whose outcome is Next
abbrev pub next_end : ℕ → FinalFields → Ended
next_end w last = record { word = Some w; at = Some last; outcome = Next }

-- The program, run from this state of a step, ends with the outcome Next, and leaves this core and
-- these registers. The recorder has its references and its end (`Tells`).
pub record EndsWithNext (Tells : List Reference → Ended → Type 0) (g : RegsFields)
    (act : Act Ending)
    (mid : Midstep (List ℕ)) (core : List ℕ) (after : RegsFields) (w : ℕ) : Type 0 where
  pub refs : List Reference
  pub last : FinalFields
  pub ends : end_of_run (run core_store g act mid) ≡ code_end core refs after (next_end w last)
  pub tells : Tells refs (next_end w last)

-- The program of a step that has claimed no write ends as in `EndsWithNext`, whatever references
-- were completed before. `Has` is what holds of the recorder once these are completed.
abbrev pub EndsWithNextAlways :
    (List Reference → Type 0) → (List Reference → Ended → Type 0) → RegsFields → Act Ending
    → List ℕ → List ℕ → RegsFields → ℕ → Type 0
EndsWithNextAlways Has Tells g act core core' after w =
    (refs : List Reference) → Has refs → EndsWithNext Tells g act
    (midstep_with core [] refs) core' after w

-- The operation of an instruction whose address has no tally word ends as in `EndsWithNextAlways`.
abbrev pub Operates :
    (List Reference → Type 0) → (List Reference → Ended → Type 0) → Quick → RegsFields → ℕ
    → FinalFields → List ℕ → List ℕ → RegsFields → Type 0
Operates Has Tells q g w last core core' after =
    EndsWithNextAlways Has Tells g (operate_and_end q.effect q.reg g w
    (chain_end_fields (without_tally last)))
    core core' after w

-- the formed address of an instruction that has counted a tally word
abbrev pub counted_address : Counting → Formed
counted_address c = record { last = c.last; tally = Some c.tally; place = c.place }

-- The operation of an instruction whose address has counted a tally word, which the step has
-- claimed, ends as in `EndsWithNext`.
abbrev pub OperatesCounted :
    (List Reference → Type 0) → (List Reference → Ended → Type 0) → Quick → RegsFields → ℕ
    → Counting → List ℕ → List ℕ → RegsFields → Type 0
OperatesCounted Has Tells q g w c core core' after =
    (refs : List Reference) → Has refs
    → EndsWithNext Tells g (operate_and_end q.effect q.reg g w
    (chain_end_fields (counted_address c)))
    (midstep_after_address core (counted_address c) refs) core' after w

-- The program of an instruction, from the formation of its address on, ends as in
-- `EndsWithNextAlways`.
abbrev pub Addresses :
    (List Reference → Type 0) → (List Reference → Ended → Type 0) → Quick → RegsFields → ℕ
    → List ℕ → List ℕ → RegsFields → Type 0
Addresses Has Tells q g w core core' after =
    EndsWithNextAlways Has Tells g (form_and_operate q.effect q.reg g w) core core' after w

-- The program of an instruction, from the lookup of its row on, ends as in `EndsWithNextAlways`,
-- whether or not it may be a privileged one.
abbrev pub Decodes :
    (List Reference → Type 0) → (List Reference → Ended → Type 0) → RegsFields → ℕ → List ℕ
    → List ℕ → RegsFields → Type 0
Decodes Has Tells g w core core' after =
    (privileged : Bool)
    → EndsWithNextAlways Has Tells g (execute_decoded g w privileged (decode w)) core core' after w

-- the word is not an LDBR
abbrev pub IsNoLdbr : ℕ → Type 0
IsNoLdbr w = (n : ℕ) → decode w ≡ Some (effect.Ldbr, n) → ⊥

-- The program of a whole step ends as in `EndsWithNextAlways`, and its instruction is not an LDBR.
pub record Steps (Has : List Reference → Type 0) (Tells : List Reference → Ended → Type 0)
    (g : RegsFields) (core core' : List ℕ) (after : RegsFields) : Type 0 where
  pub word : ℕ
  pub no_ldbr : IsNoLdbr word
  pub goes : EndsWithNextAlways Has Tells g (program g) core core' after word
