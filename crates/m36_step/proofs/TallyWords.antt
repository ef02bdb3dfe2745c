-- How a quick step ends whose address reads an indirect word or counts a tally word.
use Rattle.std.proofs.Common.{ℕ, ◌≡◌, ◌≢◌, ◌∙◌, refl, sym, ap, false, Bool, List, [], ◌∷◌, ◌++◌, None, Some, Option, Result, Ok, slice_index, slice_set}
use Rattle.std.proofs.Common.{get_or-set_other}
use Rattle.m36_inst.specs.Fields.{InstFields}
use Rattle.m36_inst.specs.Instruction.{inst_of}
use Rattle.m36_inst.specs.Operands.{operand_of}
use Rattle.m36_inst.specs.Quick.{IsQuick}
use Rattle.m36_inst.specs.declared.operand.Operand.{Operand}
use Rattle.m36_inst.specs.declared.operand.Operand.TheVariants as kind
use Rattle.m36_inst.specs.declared.rows.Group.TheVariants as group
use Rattle.m36_inst.specs.declared.rows.Quick.{Quick}
use Rattle.m36_model.specs.Act.{Read, Write, Whole}
use Rattle.m36_model.specs.Chain.{ChainEnd, chain_end_fields}
use Rattle.m36_model.specs.Core.{core_store, core_put}
use Rattle.m36_model.specs.Effect.{exec}
use Rattle.m36_model.specs.Fields.{FinalFields}
use Rattle.m36_model.specs.Registers.{RegsFields}
use Rattle.m36_model.specs.Results.{OperandFields}
use Rattle.m36_model.specs.Step.{Performed, no_operand, operate, operate_on, operate_by_kind, operation_result, puts_with, request_at, with_chain_tally, with_tally}
use Rattle.m36_model.specs.Store.{Core_word, run, changes}
use Rattle.m36_model.specs.declared.effects.Formed.{Formed}
use Rattle.m36_model.specs.declared.effects.Held.TheVariants as held
use Rattle.m36_model.specs.declared.outcome.Halt.{Halt}
use Rattle.m36_model.specs.declared.place.Reference.{Reference}
use Rattle.m36_model.specs.declared.place.Kind.TheVariants as reference
use Rattle.m36_walk.specs.Memory.{Memory}
use Rattle.m36_walk.specs.Runs.{run_from}
use Rattle.m36_walk.specs.Served.{sdw_in, Reads, ServesClaim}
use Rattle.m36_walk.specs.Words.{with_pending}
use Rattle.m36_walk.specs.declared.words.Pending.{Pending}
use Rattle.m36_fastpath.specs.FastPath.{IsQuietEffect, operand_of_word}
use Rattle.m36_ea.specs.Formed.{run_formation, formation_end, midstep_after_address, without_tally}
use Rattle.m36_ea.specs.declared.quick.Counting.{Counting}
use Rattle.m36_ea.proofs.Runs.{run_ask, run_done}
use Rattle.m36_step.specs.Quick.{next_end, counted_address, Operates, OperatesCounted, Addresses}
use Rattle.m36_step.specs.References.{read_served}
use Rattle.m36_step.specs.declared.ended.Ended.{Ended}
use Rattle.m36_step.specs.declared.operated.Part.TheVariants as part
use Rattle.m36_step.proofs.Ends.{address_formed, operation_performed}
use Rattle.m36_step.proofs.GoingOn.{fits, on_end}

module _ (Has : List Reference → Type 0) (Tells : List Reference → Ended → Type 0) (q : Quick) (g : RegsFields) (w : ℕ) where
  module _ (core core' : List ℕ) (after : RegsFields) (i : InstFields) (is : i ≡ inst_of w) (Later : List Reference → Type 0) where
    -- from an address that reads an indirect word
    pub through_on : (last : FinalFields) (r : Reference) → ((refs : List Reference) → run_formation g i core refs ≡ formation_end core (refs ++ r ∷ []) (Ok (without_tally last)))
        → ((refs : List Reference) → Has refs → Later (refs ++ r ∷ [])) → Operates Later Tells q g w last core core' after → Addresses Has Tells q g w core core' after
    through_on last r forms refer goes refs has =
        let one = refs ++ r ∷ [] in
        let t = goes one (refer refs has) in
        record {
          refs = t.refs;
          last = t.last;
          ends = address_formed g q.effect q.reg w i is core refs core one (without_tally last) core' t.refs after (next_end w t.last) (forms refs) t.ends;
          tells = t.tells;
        }

    -- from an address that counts a tally word
    pub counted_on : (c : Counting) (r s : Reference) → ((refs : List Reference) → run_formation g i core refs ≡ formation_end core ((refs ++ r ∷ []) ++ s ∷ []) (Ok (counted_address c)))
        → ((refs : List Reference) → Has refs → Later ((refs ++ r ∷ []) ++ s ∷ [])) → OperatesCounted Later Tells q g w c core core' after → Addresses Has Tells q g w core core' after
    counted_on c r s forms refer goes refs has =
        let two = (refs ++ r ∷ []) ++ s ∷ [] in
        let t = goes two (refer refs has) in
        record {
          refs = t.refs;
          last = t.last;
          ends = address_formed g q.effect q.reg w i is core refs core two (counted_address c) core' t.refs after (next_end w t.last) (forms refs) t.ends;
          tells = t.tells;
        }

  module _ (c : Counting) (none : c.last.direct ≡ None) (row : IsQuick q) (m : Memory) (dbr : g.dbr ≡ m.dbr) (after : RegsFields) where
    abbrev f : Formed
    f = counted_address c

    abbrev e : ChainEnd
    e = chain_end_fields f

    abbrev pending : Option Pending
    pending = Some (record { word = c.tally.word; place = c.place })

    same_regs : with_chain_tally g e ≡ with_tally c.tally.runout g
    unfolding with_chain_tally
    same_regs = refl

    operates_by : (k : Operand) → operand_of q.effect ≡ k → operate q.effect q.reg g e ≡ operate_by_kind q.effect q.reg g e k
    unfolding operate
    operates_by k is =
        ap (λ (x : Option ℕ). operate_on q.effect q.reg g e x) none ∙ ap (λ (x : Operand). operate_by_kind q.effect q.reg g e x) is

    effect_done : (first : ℕ) (o : OperandFields) (words : List ℕ) (overflow : Bool) → Ok (record { regs = after; put = words; overflow = overflow }) ≡ exec q.effect q.reg (with_tally c.tally.runout g) c.last o
        → operation_result g e Whole first (exec q.effect q.reg (with_chain_tally g e) c.last o) ≡ Ok (record { regs = after; puts = puts_with e.pending Whole first words; overflow = overflow })
    effect_done first o words overflow h =
        ap (λ (x : RegsFields). operation_result g e Whole first (exec q.effect q.reg x c.last o)) same_regs ∙ ap (operation_result g e Whole first) (sym h)

    -- A word is read that is not the tally word.
    pub read_counted_on : q.group ≡ group.Read → (place got : ℕ) (core : List ℕ) → place ≢ c.place → got ≡ slice_index m.core place
        → ((psr : ℕ) (pending : Option Pending) → Reads m m.core psr c.last.at 1 pending (Ok (slice_index (with_pending m.core pending) place ∷ [])))
        → ((f : FinalFields) → IsQuietEffect after [] (exec q.effect q.reg (with_tally c.tally.runout g) f (operand_of_word got)))
        → core ≡ slice_set m.core c.place c.tally.word
        → ((refs : List Reference) → Has refs → Tells (refs ++ record { kind = reference.Read; at = c.last.at; count = 1 } ∷ []) (next_end w c.last))
        → OperatesCounted Has Tells q g w c m.core core after
    unfolding changes core_put run_from
    read_counted_on k place got core other is reads done stored tells refs has =
        let d = done c.last in
        let new = refs ++ record { kind = reference.Read; at = c.last.at; count = 1 } ∷ [] in
        let apart : slice_index (slice_set m.core c.place c.tally.word) place ≡ slice_index m.core place = rw get_or-set_other refl in
        let served = reads g.ppr.psr pending g dbr refl (Core_word c.place ∷ []) refs e.pending refl ∙ ap (λ (x : ℕ). read_served (sdw_in m c.last.at.seg) m.core f new (Ok (x ∷ []))) (apart ∙ sym is) in
        let runs = ap (λ p. run core_store g p (midstep_after_address m.core f refs)) (operates_by kind.R (fits q group.Read row k).operand)
        ∙ run_ask g (request_at Read e 1) _ (midstep_after_address m.core f refs) _ served
        ∙ run_done g (operation_result g e Whole 0 (exec q.effect q.reg (with_chain_tally g e) c.last (operand_of_word got))) (midstep_after_address m.core f new)
        ∙ ap (λ (v : Result Performed Halt). record { value = v; mid = midstep_after_address m.core f new }) (effect_done 0 (operand_of_word got) [] d.overflow d.effect) in
        record {
          refs = new;
          last = c.last;
          ends = operation_performed g q.effect q.reg w f m.core refs m.core new after held.Empty (record { place = 0; part = part.Whole; overflow = d.overflow }) core (next_end w c.last) runs stored (on_end Has Tells q g w c.last after d.overflow d.quiet);
          tells = tells refs has;
        }

    -- A word is stored, after the tally word.
    pub store_counted_on : q.group ≡ group.Store → (place word : ℕ) (core : List ℕ) → ServesClaim m m.core c.last.at 1 (Ok place)
        → ((n : ℕ) (f : FinalFields) → Ok (record { regs = after; put = word ∷ []; overflow = false }) ≡ exec q.effect n (with_tally c.tally.runout g) f no_operand)
        → core ≡ slice_set (slice_set m.core c.place c.tally.word) place word
        → ((refs : List Reference) → Has refs → Tells (refs ++ record { kind = reference.Write; at = c.last.at; count = 1 } ∷ []) (next_end w c.last))
        → OperatesCounted Has Tells q g w c m.core core after
    unfolding changes core_put run_from
    store_counted_on k place word core claims effect stored tells refs has =
        let new = refs ++ record { kind = reference.Write; at = c.last.at; count = 1 } ∷ [] in
        let runs = ap (λ p. run core_store g p (midstep_after_address m.core f refs)) (operates_by kind.W (fits q group.Store row k).operand)
        ∙ run_ask g (request_at Write e 1) _ (midstep_after_address m.core f refs) _ (claims g dbr (Core_word c.place ∷ []) refs e.pending)
        ∙ run_done g (operation_result g e Whole 1 (exec q.effect q.reg (with_chain_tally g e) c.last no_operand)) _
        ∙ ap (λ (v : Result Performed Halt). record { value = v; mid = record { store = m.core; claims = Core_word c.place ∷ (Core_word place ∷ []); refs = new } }) (effect_done 1 no_operand (word ∷ []) false (effect q.reg c.last)) in
        record {
          refs = new;
          last = c.last;
          ends = operation_performed g q.effect q.reg w f m.core refs m.core new after (held.One word) (record { place = place; part = part.Whole; overflow = false }) core (next_end w c.last) runs stored refl;
          tells = tells refs has;
        }
