-- How a quick step ends, given the results of its references and of its effect.
use Rattle.std.proofs.Common.{ℕ, ◌≡◌, ◌∙◌, refl, sym, ap, subst, Bool, true, false, not, ◌&&◌, List, [], ◌∷◌, ◌++◌, Option, Some, None, option_map, Ok, ◌+◌, slice_index, slice_set}
use Rattle.m36_inst.specs.Fields.{InstFields}
use Rattle.m36_inst.specs.Instruction.{inst_of}
use Rattle.m36_inst.specs.Lookup.{row_at}
use Rattle.m36_inst.specs.Operands.{operand_of, is_privileged}
use Rattle.m36_inst.specs.Quick.{group_of, quick_of, quick_row_of, IsQuick, FitsGroup}
use Rattle.m36_inst.proofs.Grouped.{grouped}
use Rattle.m36_inst.specs.declared.effect.Effect.{Effect}
use Rattle.m36_inst.specs.declared.effect.Effect.TheVariants as effect
use Rattle.m36_inst.specs.declared.operand.Operand.{Operand}
use Rattle.m36_inst.specs.declared.operand.Operand.TheVariants as kind
use Rattle.m36_inst.specs.declared.rows.Group.{Group}
use Rattle.m36_inst.specs.declared.rows.Group.TheVariants as group
use Rattle.m36_inst.specs.declared.rows.Quick.{Quick}
use Rattle.m36_inst.specs.declared.rows.Row.{Row}
use Rattle.m36_desc.specs.Access.{ring_after_call}
use Rattle.m36_word.specs.Pairs.{pair_words}
use Rattle.m36_word.specs.declared.pair.Pair.{Pair}
use Rattle.m36_model.specs.Act.{Act, Fetch, Transfer, Call}
use Rattle.m36_model.specs.Chain.{chain_end_fields}
use Rattle.m36_model.specs.Core.{core_store, core_put, put_one}
use Rattle.m36_model.specs.Effect.{exec, is_absa}
use Rattle.m36_model.specs.Fields.{FinalFields}
use Rattle.m36_model.specs.Modification.{here}
use Rattle.m36_model.specs.Registers.{RegsFields}
use Rattle.m36_model.specs.Results.{ring_only, yields_registers}
use Rattle.m36_model.specs.Step.{Ending, no_operand, outcome_after, outcome_by, aligned_at, operate_by_kind, writing, decode, execute_decoded, effect_and_number, has_right, program}
use Rattle.m36_model.specs.Store.{Core_word, serve, changes}
use Rattle.m36_model.specs.Transfers.{is_taken}
use Rattle.m36_model.specs.declared.place.Reference.{Reference}
use Rattle.m36_model.specs.declared.record.StepRecord.{StepRecord}
use Rattle.m36_model.specs.declared.place.Kind.TheVariants as reference
use Rattle.m36_walk.specs.Memory.{Memory}
use Rattle.m36_walk.specs.Served.{midstep_with, sdw_in, request, served_with_result, result_at_target, Reads, ServesClaim, ServesWord}
use Rattle.m36_walk.specs.Words.{run_changes}
use Rattle.m36_fastpath.specs.FastPath.{IsQuietEffect, operand_of_word, operand_of_pair}
use Rattle.m36_ea.specs.Formed.{run_formation, formation_end, without_tally}
use Rattle.m36_step.specs.Ended.{EndsAs, end_in_record, code_end}
use Rattle.m36_step.specs.Operated.{part_of}
use Rattle.m36_step.specs.Quick.{next_end, EndsWithNext, Operates, Addresses, Decodes, IsNoLdbr, Steps}
use Rattle.m36_step.specs.References.{read_served}
use Rattle.m36_step.specs.declared.ended.Ended.{Ended}
use Rattle.m36_step.specs.declared.operated.Part as code
use Rattle.m36_step.specs.declared.operated.Part.TheVariants as part
use Rattle.m36_step.proofs.Ends.{address_formed, fetches}
use Rattle.m36_step.proofs.Plain.{not_absa, shift_not_absa, read_ends, stored_ends, half_ends, changed_ends, pair_read_ends, pair_stored_ends, direct_ends, address_ends, stays_ends, target_ends, call_ends, unprivileged}

-- what the group of an instruction implies for its effect
pub fits : (q : Quick) (k : Group) → IsQuick q → q.group ≡ k → FitsGroup k q.effect
fits q k row is = subst (λ (x : Group). FitsGroup x q.effect) (sym row.group ∙ is) (grouped q.effect)

in_group : (q : Quick) (k : Group) → IsQuick q → q.group ≡ k → group_of q.effect ≡ k
in_group q k row is = sym row.group ∙ is

pub calls : (e : Effect) → group_of e ≡ group.Call → e ≡ effect.Call6
calls effect.Call6 h = refl
calls _ h = cc

pub returns_by : (e : Effect) → group_of e ≡ group.Return → e ≡ effect.Rtcd
returns_by effect.Rtcd h = refl
returns_by _ h = cc

no_ldbr_by : (e : Effect) (k : Group) → group_of e ≡ k → (k ≡ group.Other → ⊥) → e ≡ effect.Ldbr → ⊥
no_ldbr_by e k is other ldbr = other (sym is ∙ ap group_of ldbr)

-- the row of a word that is in some group
decode_by : (o : Option Row) (q : Quick) → q ≡ quick_of o → (q.group ≡ group.Other → ⊥) → option_map effect_and_number o ≡ Some (q.effect, q.reg)
decode_by None q is other = absurd (other (ap (λ (x : Quick). x.group) is))
decode_by (Some row) q is other = ap (λ (x : Quick). Some (x.effect, x.reg)) (sym is)

decode_quick : (w : ℕ) (q : Quick) → q ≡ quick_row_of w → (q.group ≡ group.Other → ⊥) → decode w ≡ Some (q.effect, q.reg)
unfolding decode quick_row_of
decode_quick w q is other = decode_by (row_at (inst_of w).code (inst_of w).bit27) q is other

abbrev effect_in : Option (Effect × ℕ) → Effect
effect_in None = effect.Ldbr
effect_in (Some row) = row.0

pub no_ldbr : (w : ℕ) (q : Quick) → q ≡ quick_row_of w → IsQuick q → (q.group ≡ group.Other → ⊥) → IsNoLdbr w
no_ldbr w q is row other n loads =
    let row_of : decode w ≡ Some (q.effect, q.reg) = decode_quick w q is other in
    let ldbr = ap effect_in (sym row_of ∙ loads) in
    no_ldbr_by q.effect q.group (sym row.group) other ldbr

pub record IsFormed (e : Effect) : Type 0 where
  pub privileged : is_privileged e ≡ false
  pub forms : operand_of e ≡ kind.N → ⊥

forms_by : (k : Group) (e : Effect) → FitsGroup k e → (k ≡ group.Other → ⊥) → IsFormed e
forms_by group.Other e f other = absurd (other refl)
forms_by _ e f other = record { privileged = f.privileged; forms = λ n. let r = sym f.operand ∙ n in absurd cc }

module _ (Has : List Reference → Type 0) (Tells : List Reference → Ended → Type 0) (q : Quick) (g : RegsFields) (w : ℕ) where
  -- The end of a step whose overflow, if there is one, is not a fault.
  pub on_end : (last : FinalFields) (after : RegsFields) (overflow : Bool) → (overflow && not after.ind.mask) ≡ false → next_end w last ≡ record { word = Some w; at = Some last; outcome = outcome_after overflow after.ind.mask g }
  on_end last after overflow quiet = ap (λ (b : Bool). record { word = Some w; at = Some last; outcome = outcome_by b g }) (sym quiet)

  abbrev TellsWith : List Reference → FinalFields → Type 0
  TellsWith new last = (refs : List Reference) → Has refs → Tells (refs ++ new) (next_end w last)

  abbrev TellsSame : FinalFields → Type 0
  TellsSame last = (refs : List Reference) → Has refs → Tells refs (next_end w last)

  abbrev reads_one : FinalFields → Reference
  reads_one last = record { kind = reference.Read; at = last.at; count = 1 }

  abbrev writes_one : FinalFields → Reference
  writes_one last = record { kind = reference.Write; at = last.at; count = 1 }

  abbrev reads_two : FinalFields → Reference
  reads_two last = record { kind = reference.Read; at = aligned_at 2 last.at; count = 2 }

  abbrev writes_two : FinalFields → Reference
  writes_two last = record { kind = reference.Write; at = aligned_at 2 last.at; count = 2 }

  module _ (last : FinalFields) (none : last.direct ≡ None) (row : IsQuick q) (m : Memory) (dbr : g.dbr ≡ m.dbr) (after : RegsFields) where
    -- A word is read.
    pub read_on : q.group ≡ group.Read → (place got : ℕ) → got ≡ slice_index m.core place
        → ((psr : ℕ) → Reads m m.core psr last.at 1 None (Ok (slice_index m.core place ∷ [])))
        → ((f : FinalFields) → IsQuietEffect after [] (exec q.effect q.reg g f (operand_of_word got)))
        → TellsWith (reads_one last ∷ []) last → Operates Has Tells q g w last m.core m.core after
    unfolding changes
    read_on k place got is reads done tells refs has =
        let d = done last in
        let new = refs ++ reads_one last ∷ [] in
        let served = reads g.ppr.psr g dbr refl [] refs [] refl ∙ ap (λ (x : ℕ). read_served (sdw_in m last.at.seg) m.core (without_tally last) new (Ok (x ∷ []))) (sym is) in
        record {
          refs = new;
          last = last;
          ends = read_ends q.effect q.reg w g last m refs m.core new after d.overflow (next_end w last) (on_end last after d.overflow d.quiet) got (fits q group.Read row k).operand none served d.effect;
          tells = tells refs has;
        }

    -- A word is stored.
    pub stored_on : q.group ≡ group.Store → (place word : ℕ) (core : List ℕ) → ServesClaim m m.core last.at 1 (Ok place)
        → ((n : ℕ) (f : FinalFields) → Ok (record { regs = after; put = word ∷ []; overflow = false }) ≡ exec q.effect n g f no_operand)
        → core ≡ slice_set m.core place word
        → TellsWith (writes_one last ∷ []) last → Operates Has Tells q g w last m.core core after
    stored_on k place word core claims effect stored tells refs has =
        let new = refs ++ writes_one last ∷ [] in
        record {
          refs = new;
          last = last;
          ends = stored_ends q.effect q.reg w g last m refs m.core new after false (next_end w last) refl place word core (fits q group.Store row k).operand none (claims g dbr [] refs []) (effect q.reg last) stored;
          tells = tells refs has;
        }

    -- A half of a word is stored.
    pub half_on : (part : code.Part) (k : Operand) → operand_of q.effect ≡ k → operate_by_kind q.effect q.reg g (chain_end_fields (without_tally last)) k ≡ writing q.effect q.reg g (chain_end_fields (without_tally last)) 1 (part_of part) → (place word : ℕ) (core : List ℕ) → ServesClaim m m.core last.at 1 (Ok place)
        → ((f : FinalFields) → Ok (record { regs = after; put = word ∷ []; overflow = false }) ≡ exec q.effect q.reg g f no_operand)
        → core ≡ put_one m.core (Core_word place) (part_of part) word
        → TellsWith (writes_one last ∷ []) last → Operates Has Tells q g w last m.core core after
    half_on part k is half place word core claims effect stored tells refs has =
        let new = refs ++ writes_one last ∷ [] in
        record {
          refs = new;
          last = last;
          ends = half_ends q.effect q.reg w g last m refs m.core new after false (next_end w last) refl part k is half place word core none (claims g dbr [] refs []) (effect last) stored;
          tells = tells refs has;
        }

    -- A word is read, and then it is written.
    pub changed_on : q.group ≡ group.Change → (place got word : ℕ) (core : List ℕ) → got ≡ slice_index m.core place
        → ((psr : ℕ) → Reads m m.core psr last.at 1 None (Ok (slice_index m.core place ∷ []))) → ServesClaim m m.core last.at 1 (Ok place)
        → ((n : ℕ) (f : FinalFields) → IsQuietEffect after (word ∷ []) (exec q.effect n g f (operand_of_word got)))
        → core ≡ slice_set m.core place word
        → ((refs : List Reference) → Has refs → Tells ((refs ++ reads_one last ∷ []) ++ writes_one last ∷ []) (next_end w last)) → Operates Has Tells q g w last m.core core after
    unfolding changes
    changed_on k place got word core is reads claims done stored tells refs has =
        let d = done q.reg last in
        let one = refs ++ reads_one last ∷ [] in
        let two = one ++ writes_one last ∷ [] in
        let served = reads g.ppr.psr g dbr refl [] refs [] refl ∙ ap (λ (x : ℕ). read_served (sdw_in m last.at.seg) m.core (without_tally last) one (Ok (x ∷ []))) (sym is) in
        record {
          refs = two;
          last = last;
          ends = changed_ends q.effect q.reg w g last m refs m.core one after d.overflow (next_end w last) (on_end last after d.overflow d.quiet) m m.core two got (fits q group.Change row k).operand none served refl place word core (claims g dbr [] one []) d.effect stored;
          tells = tells refs has;
        }

    -- The left half, and the right half.
    pub upper_on : q.group ≡ group.Upper → (place word : ℕ) (core : List ℕ) → ServesClaim m m.core last.at 1 (Ok place)
        → ((f : FinalFields) → Ok (record { regs = after; put = word ∷ []; overflow = false }) ≡ exec q.effect q.reg g f no_operand)
        → core ≡ put_one m.core (Core_word place) (part_of part.Left) word
        → TellsWith (writes_one last ∷ []) last → Operates Has Tells q g w last m.core core after
    upper_on k = half_on part.Left kind.Wl (fits q group.Upper row k).operand refl

    pub lower_on : q.group ≡ group.Lower → (place word : ℕ) (core : List ℕ) → ServesClaim m m.core last.at 1 (Ok place)
        → ((f : FinalFields) → Ok (record { regs = after; put = word ∷ []; overflow = false }) ≡ exec q.effect q.reg g f no_operand)
        → core ≡ put_one m.core (Core_word place) (part_of part.Right) word
        → TellsWith (writes_one last ∷ []) last → Operates Has Tells q g w last m.core core after
    lower_on k = half_on part.Right kind.Wr (fits q group.Lower row k).operand refl

    -- A pair is read.
    pub pair_on : q.group ≡ group.ReadPair → (place : ℕ) (got : Pair) → pair_words got ≡ slice_index m.core place ∷ (slice_index m.core (place + 1) ∷ [])
        → ((psr : ℕ) → Reads m m.core psr (aligned_at 2 last.at) 2 None (Ok (slice_index m.core place ∷ (slice_index m.core (place + 1) ∷ []))))
        → ((n : ℕ) (f : FinalFields) (ring : ℕ) → IsQuietEffect after [] (exec q.effect n g f (operand_of_pair got ring)))
        → TellsWith (reads_two last ∷ []) last → Operates Has Tells q g w last m.core m.core after
    unfolding changes
    pair_on k place got is reads done tells refs has =
        let ring = (sdw_in m last.at.seg).r1 in
        let d = done q.reg last ring in
        let new = refs ++ reads_two last ∷ [] in
        let served = reads g.ppr.psr g dbr refl [] refs [] refl ∙ ap (λ (x : List ℕ). read_served (sdw_in m last.at.seg) m.core (without_tally last) new (Ok x)) (sym is) in
        record {
          refs = new;
          last = last;
          ends = pair_read_ends q.effect q.reg w g last m refs m.core new after d.overflow (next_end w last) (on_end last after d.overflow d.quiet) got ring (fits q group.ReadPair row k).operand none served refl d.effect;
          tells = tells refs has;
        }

    -- A pair is stored.
    pub pair_stored_on : q.group ≡ group.StorePair → (place : ℕ) (put : Pair) (core : List ℕ) → ServesClaim m m.core (aligned_at 2 last.at) 2 (Ok place)
        → ((n : ℕ) (f : FinalFields) → Ok (record { regs = after; put = pair_words put; overflow = false }) ≡ exec q.effect n g f no_operand)
        → core ≡ core_put m.core (run_changes place (pair_words put))
        → TellsWith (writes_two last ∷ []) last → Operates Has Tells q g w last m.core core after
    pair_stored_on k place put core claims effect stored tells refs has =
        let new = refs ++ writes_two last ∷ [] in
        record {
          refs = new;
          last = last;
          ends = pair_stored_ends q.effect q.reg w g last m refs m.core new after false (next_end w last) refl place put core (fits q group.StorePair row k).operand none (claims g dbr [] refs []) (effect q.reg last) stored;
          tells = tells refs has;
        }

    -- A return uses the pair that is read.
    pub return_on : q.group ≡ group.Return → (place ring : ℕ) (got : Pair) → pair_words got ≡ slice_index m.core place ∷ (slice_index m.core (place + 1) ∷ [])
        → ((psr : ℕ) → Reads m m.core psr (aligned_at 2 last.at) 2 None (Ok (slice_index m.core place ∷ (slice_index m.core (place + 1) ∷ []))))
        → ring ≡ (sdw_in m last.at.seg).r1
        → ((n : ℕ) → yields_registers after ≡ exec effect.Rtcd n g last (operand_of_pair got ring))
        → TellsWith (reads_two last ∷ []) last → Operates Has Tells q g w last m.core m.core after
    unfolding changes
    return_on k place ring got is reads first done tells refs has =
        let effect = done q.reg ∙ ap (λ (x : Effect). exec x q.reg g last (operand_of_pair got ring)) (sym (returns_by q.effect (in_group q group.Return row k))) in
        let new = refs ++ reads_two last ∷ [] in
        let served = reads g.ppr.psr g dbr refl [] refs [] refl ∙ ap (λ (x : List ℕ). read_served (sdw_in m last.at.seg) m.core (without_tally last) new (Ok x)) (sym is) in
        record {
          refs = new;
          last = last;
          ends = pair_read_ends q.effect q.reg w g last m refs m.core new after false (next_end w last) refl got ring (fits q group.Return row k).operand none served first effect;
          tells = tells refs has;
        }

    -- A call continues in the ring that its target determines.
    pub call_on : q.group ≡ group.Call → (ring : ℕ)
        → ((refs : List Reference) → serve core_store g (midstep_with m.core [] refs) (request Call last.at 1 []) ≡ served_with_result (request Call last.at 1 []) m.core [] refs (result_at_target (sdw_in m last.at.seg) (Ok ring)))
        → ring ≡ ring_after_call (sdw_in m last.at.seg) last.at.ring
        → ((n : ℕ) → yields_registers after ≡ exec effect.Call6 n g last (ring_only ring))
        → TellsSame last → Operates Has Tells q g w last m.core m.core after
    call_on k ring served is done tells refs has =
        let effect = done q.reg ∙ ap (λ (x : Effect). exec x q.reg g last (ring_only ring)) (sym (calls q.effect (in_group q group.Call row k))) in
        record {
          refs = refs;
          last = last;
          ends = call_ends q.effect q.reg w g last m.core refs after false (next_end w last) refl (sdw_in m last.at.seg) ring (fits q group.Call row k).operand none (served refs) is effect;
          tells = tells refs has;
        }

    -- A transfer that is not taken, and one that is.
    pub stays_on : q.group ≡ group.Transfer → false ≡ is_taken q.effect g → Ok (record { regs = after; put = []; overflow = false }) ≡ exec q.effect q.reg g last no_operand
        → TellsSame last → Operates Has Tells q g w last m.core m.core after
    stays_on k taken effect tells refs has =
        record {
          refs = refs;
          last = last;
          ends = stays_ends q.effect q.reg w g last m.core refs after false (next_end w last) refl (fits q group.Transfer row k).operand none taken effect;
          tells = tells refs has;
        }

    pub target_on : q.group ≡ group.Transfer → true ≡ is_taken q.effect g
        → ((refs : List Reference) → serve core_store g (midstep_with m.core [] refs) (request Transfer last.at 1 []) ≡ served_with_result (request Transfer last.at 1 []) m.core [] refs (result_at_target (sdw_in m last.at.seg) (Ok (tt {0}))))
        → Ok (record { regs = after; put = []; overflow = false }) ≡ exec q.effect q.reg g last no_operand
        → TellsSame last → Operates Has Tells q g w last m.core m.core after
    target_on k taken served effect tells refs has =
        record {
          refs = refs;
          last = last;
          ends = target_ends q.effect q.reg w g last m.core refs after false (next_end w last) refl (sdw_in m last.at.seg) (fits q group.Transfer row k).operand none taken (served refs) effect;
          tells = tells refs has;
        }

    -- Only the address is used.
    alone_on : operand_of q.effect ≡ kind.A → is_absa q.effect ≡ false → Ok (record { regs = after; put = []; overflow = false }) ≡ exec q.effect q.reg g last no_operand
        → TellsSame last → Operates Has Tells q g w last m.core m.core after
    alone_on k absa effect tells refs has =
        record {
          refs = refs;
          last = last;
          ends = address_ends q.effect q.reg w g last m.core refs after false (next_end w last) refl k none absa effect;
          tells = tells refs has;
        }

    pub address_on : q.group ≡ group.Address → Ok (record { regs = after; put = []; overflow = false }) ≡ exec q.effect q.reg g last no_operand
        → TellsSame last → Operates Has Tells q g w last m.core m.core after
    address_on k = alone_on (fits q group.Address row k).operand (not_absa q.effect (in_group q group.Address row k))

    pub shift_on : q.group ≡ group.Shift → ((n : ℕ) → Ok (record { regs = after; put = []; overflow = false }) ≡ exec q.effect n g last no_operand)
        → TellsSame last → Operates Has Tells q g w last m.core m.core after
    shift_on k effect = alone_on (fits q group.Shift row k).operand (shift_not_absa q.effect (in_group q group.Shift row k)) (effect q.reg)

  -- A direct operand.
  pub direct_on : (last : FinalFields) (row : IsQuick q) (core : List ℕ) (after : RegsFields) → q.group ≡ group.Read → (operand : ℕ) → last.direct ≡ Some operand
      → ((f : FinalFields) → IsQuietEffect after [] (exec q.effect q.reg g f (operand_of_word operand)))
      → TellsSame last → Operates Has Tells q g w last core core after
  direct_on last row core after k operand some done tells refs has =
      let d = done last in
      record {
        refs = refs;
        last = last;
        ends = direct_ends q.effect q.reg w g last core refs after d.overflow (next_end w last) (on_end last after d.overflow d.quiet) operand (fits q group.Read row k).operand some (fits q group.Read row k).direct d.effect;
        tells = tells refs has;
      }

  module _ (core core' : List ℕ) (after : RegsFields) where
    -- from the address on
    pub addressed_on : (last : FinalFields) (i : InstFields) → i ≡ inst_of w → ((core : List ℕ) (refs : List Reference) → run_formation g i core refs ≡ formation_end core refs (Ok (without_tally last)))
        → Operates Has Tells q g w last core core' after → Addresses Has Tells q g w core core' after
    addressed_on last i is forms goes refs has =
        let t = goes refs has in
        record {
          refs = t.refs;
          last = t.last;
          ends = address_formed g q.effect q.reg w i is core refs core refs (without_tally last) core' t.refs after (next_end w t.last) (forms core refs) t.ends;
          tells = t.tells;
        }

    -- from the row on
    pub decoded_on : q ≡ quick_row_of w → IsQuick q → (q.group ≡ group.Other → ⊥) → Addresses Has Tells q g w core core' after → Decodes Has Tells g w core core' after
    decoded_on is row other goes privileged refs has =
        let formed = forms_by q.group q.effect (fits q q.group row refl) other in
        let same = ap (λ (x : Option (Effect × ℕ)). execute_decoded g w privileged x) (decode_quick w q is other) ∙ unprivileged q.effect q.reg w g privileged formed.privileged formed.forms in
        subst (λ (a : Act Ending). EndsWithNext Tells g a (midstep_with core [] refs) core' after w) (sym same) (goes refs has)

-- The whole step.
module _ (Has : List Reference → Type 0) (Tells : List Reference → Ended → Type 0) (g : RegsFields) (m : Memory) (dbr : g.dbr ≡ m.dbr) (core' : List ℕ) (after : RegsFields) where
  pub fetched_on : (Later : List Reference → Type 0) (place w : ℕ) → w ≡ slice_index m.core place → ServesWord (λ x. x.ppr.prr ≡ g.ppr.prr) Fetch m m.core (here g) (Ok (slice_index m.core place))
      → ((refs : List Reference) → Has refs → Later (refs ++ record { kind = reference.Fetch; at = here g; count = 1 } ∷ []))
      → IsNoLdbr w → Decodes Later Tells g w m.core core' after → Steps Has Tells g m.core core' after
  fetched_on Later place w is served refer none goes =
      record {
        word = w;
        no_ldbr = none;
        goes = λ refs has.
            let one = refs ++ record { kind = reference.Fetch; at = here g; count = 1 } ∷ [] in
            let right = has_right (sdw_in m g.ppr.psr) g.ppr.prr in
            let t = goes right one (refer refs has) in
            record {
              refs = t.refs;
              last = t.last;
              ends = fetches g m refs m.core dbr w right one core' t.refs after (next_end w t.last) (subst (λ (x : ℕ). ServesWord (λ y. y.ppr.prr ≡ g.ppr.prr) Fetch m m.core (here g) (Ok x)) (sym is) served) refl refl t.ends;
              tells = t.tells;
            };
      }

-- What a record has of a quick step.
pub told_on : (g : RegsFields) (m : Memory) (before : List Reference) (core : List ℕ) (after : RegsFields) (told : StepRecord) → before ≡ []
    → Steps (λ refs. before ≡ refs) (λ refs e. (told.refs.items ≡ refs) × (end_in_record told ≡ e)) g m.core core after
    → EndsAs g (program g) m.core [] core told.refs.items after (end_in_record told)
told_on g m before core after told none steps =
    let t = steps.goes [] none in
    t.ends ∙ ap (λ (r : List Reference). code_end core r after (next_end steps.word t.last)) (sym t.tells.0) ∙ ap (λ (e : Ended). code_end core told.refs.items after e) (sym t.tells.1)
