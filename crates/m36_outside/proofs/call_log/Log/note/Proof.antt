-- The log is opened, and closed with the list with one more entry: what it owns does not depend on the list.
use Rattle.std.proofs.Common.{List, [], ◌∷◌, ◌++◌, refl}
use seplogic.Ra.Ura.{Ura}
use mir.Syntax.{Fn, Dict, a_type, dcons, dnil, named}
use mir.Val.{Val, vunit, vptr}
use mir.MapTy.{inst_fn}
use base.Logic.{SProp, id⊢}
use base.Fml.{Fml, ftrue, fsep, flft}
use prog.Memory.{Memory}
use prog.Routine.{Routine}
use prog.Wp.{WpFn, Tables}
use types.Logic.{Logic}
use types.Kit.{‵, raw, ◌⊛◌, ◌$◌, ◌∵◌, !, qed, move, keep, use1, split, join, fsplit, fsplit3, fjoin, fjoin3, feq_i, suffices, done}
use types.Run.{unit_lit, of_opd, returns, enter}
use types.ByLocal.{alloc_all, pass_all, free_all, look_at, sets}
use contract.Monad.{Fun}
use contract.Running.{tables, tables_of}
use sound.WpLaws.{WpFn-mono}
use denote.RattleType.{RattleType, owns}
use denote.Builtin.{RefOf}
use denote.Exit.{yes}
use denote.Ref.{mut_vals, mut_Tells, shr_vals, shr_Tells}
use denote.Param.{param, bounded}
use denote.Signature.{plain, types_at}
use denote.Steps.{nothing, opens, closes}
use denote.Triple.Clauses.{Ended}
use denote.Triple.Spec.{Meets, triple_of}
use denote.Triple.Table.{entered}
use denote.Triple.Walked.{says, Stays, stay_ref, stay_dropped, walk_of, AllGo, Goes-ref, Goes-dropped, ends_at, walked, walk_Meets}
use Rattle.m36_outside.specs.declared.call_log.Entries.{Ghosts}
use Rattle.m36_outside.specs.contracts.call_log.Log as T
use Rattle.m36_outside.specs.contracts.call_log.Log.note.Key.{name as #it}
use Rattle.m36_outside.specs.contracts.call_log.Log.note as it
use Rattle.m36_outside.proofs.call_log.Log.note.Statement as stated
use Rattle.m36_outside.proofs.call_log.Log.note.Code as code

module _ (E X : RattleType) (g : Ghosts X.Denot E.Denot) (d : Dict) where
  abbrev row : RattleType
  row = T.the_row (param 0 E)

  abbrev shown : RattleType
  shown = param 1 X

  abbrev function : Fn
  function = inst_fn (bounded (a_type ∷ a_type ∷ []) (E, (X, tt)) (dcons d dnil)) code.function

  abbrev it-ended : Ended
  it-ended = it.ended E X g d

  abbrev stayed : Stays (it-ended).signature.params (it-ended).kept
  stayed = (stay_ref (0 ∷ []) tt (plain (λ _. row)), (stay_dropped (RefOf (1 ∷ []) tt (plain (λ _. shown)) (λ _. tt)) yes, tt))

  module _ {M : Type 1} {𝓤 : Ura M} (𝓛 : Logic 𝓤) (at_mem : Memory → SProp 𝓤) (run : Routine → Fun 𝓤) where
    goes : AllGo 𝓛 4 (it-ended).signature.params (it-ended).kept stayed
    goes = (Goes-ref 𝓛 4 0 tt (plain (λ _. row)), (Goes-dropped 𝓛 4 (RefOf (1 ∷ []) tt (plain (λ _. shown)) (λ _. tt)) yes (λ κs x f. refl), tt))

    meets : (𝓣 : Tables 𝓤 𝓛.H) → Meets 𝓛 (it.signature E X) (WpFn 𝓤 𝓛.H 𝓣.C 𝓣.Λ function) (it.spec E X g d 𝓛 at_mem run)
    meets 𝓣 =
        walk_Meets 𝓛 it-ended stayed goes (it.clauses E X g d 𝓛 at_mem run) (WpFn 𝓤 𝓛.H 𝓣.C 𝓣.Λ function) (WpFn-mono 𝓤 𝓛.H 𝓛.laws 𝓣 function)
        (walked 𝓛 it-ended stayed (it.clauses E X g d 𝓛 at_mem run) (WpFn 𝓤 𝓛.H 𝓣.C 𝓣.Λ function)
        (λ κs. (mut_vals, (shr_vals, tt))) (λ κs. (mut_Tells (named 0) κs.0 row, (shr_Tells (named 1) κs.1.0 shown, tt))) (λ κs qs bounds a gh are.
        let b = a.0.ref_ptr.0 in let o = a.0.ref_ptr.1 in let h : row.Denot = a.0.now in
        let h' : row.Denot = record { marker = h.marker; entries = h.entries ++ g.entries a.1.0.now } in
        let y : (walk_of 𝓛 it-ended stayed (it.clauses E X g d 𝓛 at_mem run)).Ghost = ((κs, qs, bounds, a, (vptr b o ∷ [], (vptr a.1.0.ref_ptr.0 a.1.0.ref_ptr.1 ∷ [], tt))), gh) in
        let Post : Val → SProp 𝓤 = (walk_of 𝓛 it-ended stayed (it.clauses E X g d 𝓛 at_mem run)).post y in
        let toks : Fml = fsep (flft κs.0 qs.0) (fsep (flft κs.1.0 qs.1.0) (fsep (flft κs.1.1.0 qs.1.1.0) (fsep (flft κs.1.1.1.0 qs.1.1.1.0) ftrue))) in
        qed 𝓛 ((‵ toks ⊛ ‵ (owns (types_at (it-ended).signature.params κs) a y.0.4)) ∷ raw ((it.clauses E X g d 𝓛 at_mem run κs a).requires gh) ∷ []) ∵ keep ! (0 ∷ []) $ split ! $
        fsplit ! $ move ! (1 ∷ []) $ fsplit ! $ move ! (3 ∷ []) $ fsplit ! $ fsplit3 ! $ keep ! (1 ∷ 2 ∷ 4 ∷ 5 ∷ 6 ∷ []) $
        enter ! 𝓣.C 𝓣.Λ function (vptr b o ∷ vptr a.1.0.ref_ptr.0 a.1.0.ref_ptr.1 ∷ []) Post $ alloc_all ! (λ l. pass_all ! refl ((tt, tt), ((tt, tt), tt)) $
        move ! (0 ∷ 1 ∷ 4 ∷ []) $ opens ! tt row {h = h} b o (λ vs.
        sets ! (of_opd ! (unit_lit !)) refl (tt, tt) $
        move ! (1 ∷ []) $ use1 𝓛 (‵ (row.own_val h' vs)) (id⊢ 𝓤 _) $ move ! (1 ∷ 0 ∷ []) $ closes ! tt row h' vs b o $
        feq_i ! (List Val) (vunit ∷ []) (vunit ∷ []) refl $ move ! (4 ∷ 5 ∷ []) $ fjoin ! $ move ! (4 ∷ 0 ∷ []) $ fjoin ! $ nothing ! $ nothing ! $ fjoin ! $
        feq_i ! (List Val) (vptr b o ∷ []) (vptr b o ∷ []) refl $ move ! (0 ∷ 4 ∷ 5 ∷ []) $ fjoin3 ! $ fjoin ! $
        returns ! (look_at ! 0 refl) $ free_all ! refl $ keep ! (1 ∷ 0 ∷ 2 ∷ []) $
        suffices ! _ (ends_at 𝓛 it-ended stayed (it.clauses E X g d 𝓛 at_mem run) y vunit tt (h', (tt, tt)) (tt, (tt, tt))) $ says ! refl $
        move ! (1 ∷ 2 ∷ []) $ join ! $ move ! (1 ∷ 0 ∷ []) $ join ! $ done !))))

pub note_spec : {M : Type 1} → stated.statement M
unfolding tables_of
note_spec 𝓤 𝓛 𝓜 𝓡 wired E X _ _ g d _ =
    entered 𝓤 𝓛.H (triple_of 𝓛 (it.signature E X) (it.spec E X g d 𝓛 𝓜.mem 𝓡.returns))
    (tables 𝓤 𝓛.H 𝓜 𝓡 𝓡.env).C (tables 𝓤 𝓛.H 𝓜 𝓡 𝓡.env).Λ (#it (bounded (a_type ∷ a_type ∷ []) (E, (X, tt)) (dcons d dnil))) (function E X g d) (code.unfolded 𝓤 𝓛.H 𝓜 𝓡 wired (E, (X, tt)) d)
    (meets E X g d 𝓛 𝓜.mem 𝓡.returns (tables_of 𝓤 𝓛.H 𝓜 (tables 𝓤 𝓛.H 𝓜 𝓡 𝓡.env)))
