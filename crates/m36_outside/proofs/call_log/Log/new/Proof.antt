-- A log without bytes is made, with the empty list.
use mathlib.Core.Path.{refl}
use mathlib.Core.List.{[], ◌∷◌}
use seplogic.Ra.Ura.{Ura}
use mir.Syntax.{Fn, a_type}
use mir.Val.{Val, vstruct, vcons, vnil}
use mir.MapTy.{inst_fn}
use base.Logic.{SProp}
use base.Fml.{ftrue, fsep, flft}
use prog.Memory.{Memory}
use prog.Routine.{Routine}
use prog.Wp.{WpFn, Tables}
use types.Logic.{Logic}
use contract.Monad.{Fun}
use contract.Running.{tables, tables_of}
use sound.WpLaws.{WpFn-mono}
use types.Kit.{‵, raw, ◌⊛◌, move, split, ◌$◌, ◌∵◌, !, qed, keep, join, suffices, done}
use types.Run.{no_more, and_then, returns, enter}
use types.Part.{agg}
use types.ByLocal.{alloc_all, pass_all, free_all, look_at, get, sets}
use denote.RattleType.{RattleType}
use denote.Param.{param, layouts}
use denote.Shadow.{pure_i}
use denote.Steps.{nothing}
use denote.Triple.Spec.{Meets, triple_of}
use denote.Triple.Table.{entered}
use denote.Triple.Walked.{says, ends_at, walked, walk_Meets}
use Rattle.m36_outside.specs.contracts.call_log.Log as T
use Rattle.m36_outside.specs.contracts.call_log.Log.new.Key.{name as #it}
use Rattle.m36_outside.specs.contracts.call_log.Log.new as it
use Rattle.m36_outside.proofs.call_log.Log.new.Statement as stated
use Rattle.m36_outside.proofs.call_log.Log.new.Code as code

module _ (E : RattleType) where
  abbrev row : RattleType
  row = T.the_row (param 0 E)

  abbrev function : Fn
  function = inst_fn (layouts (a_type ∷ []) (E, tt)) code.function

  abbrev v : Val
  v = vstruct (vcons (vstruct vnil) vnil)

  abbrev r : row.Denot
  r = record { marker = record {}; entries = [] }

  meets : {M : Type 1} {𝓤 : Ura M} (𝓛 : Logic 𝓤) → (at_mem : Memory → SProp 𝓤) (run : Routine → Fun 𝓤) (𝓣 : Tables 𝓤 𝓛.H)
      → Meets 𝓛 (it.signature E) (WpFn 𝓤 𝓛.H 𝓣.C 𝓣.Λ function) (it.spec E 𝓛 at_mem run)
  meets {𝓤 = 𝓤} 𝓛 at_mem run 𝓣 =
      walk_Meets 𝓛 (it.ended E) tt tt (it.clauses E 𝓛 at_mem run) (WpFn 𝓤 𝓛.H 𝓣.C 𝓣.Λ function) (WpFn-mono 𝓤 𝓛.H 𝓛.laws 𝓣 function)
      (walked 𝓛 (it.ended E) tt (it.clauses E 𝓛 at_mem run) (WpFn 𝓤 𝓛.H 𝓣.C 𝓣.Λ function) (λ κs. tt) (λ κs. tt) (λ κs qs bounds a g _.
      qed 𝓛 ((‵ (fsep (flft κs.0 qs.0) ftrue) ⊛ ‵ ftrue) ∷ raw ((it.clauses E 𝓛 at_mem run κs a).requires g) ∷ []) ∵ keep ! (0 ∷ []) $ split ! $ keep ! (0 ∷ []) $
      enter ! 𝓣.C 𝓣.Λ function [] _ $ alloc_all ! (λ l. pass_all ! refl tt $
      sets ! (agg ! (no_more !)) refl (tt, tt) $ sets ! (agg ! (and_then ! (get ! refl) (no_more !))) refl (tt, (tt, tt)) $
      returns ! (look_at ! 0 refl) $ free_all ! refl $
      pure_i ! (row.own_val r (v ∷ [])) ((λ vss. (tt, ((λ uss. (tt, tt)), tt))), tt) (((vstruct vnil ∷ [], tt), (refl, ((tt, (refl, tt)), tt))), tt) $
      suffices ! _ (ends_at 𝓛 (it.ended E) tt (it.clauses E 𝓛 at_mem run) ((κs, qs, bounds, a, tt), g) v r tt tt) $ says ! refl $
      nothing ! $ join ! $ move ! (1 ∷ []) $ join ! $ done !)))

pub new_spec : {M : Type 1} → stated.statement M
unfolding tables_of
new_spec 𝓤 𝓛 𝓜 𝓡 wired E laws =
    entered 𝓤 𝓛.H (triple_of 𝓛 (it.signature E) (it.spec E 𝓛 𝓜.mem 𝓡.returns))
    (tables 𝓤 𝓛.H 𝓜 𝓡 𝓡.env).C (tables 𝓤 𝓛.H 𝓜 𝓡 𝓡.env).Λ (#it (layouts (a_type ∷ []) (E, tt))) (function E) (code.unfolded 𝓤 𝓛.H 𝓜 𝓡 wired (E, tt))
    (meets E 𝓛 𝓜.mem 𝓡.returns (tables_of 𝓤 𝓛.H 𝓜 (tables 𝓤 𝓛.H 𝓜 𝓡 𝓡.env)))
