use Rattle.std.proofs.Common.{sym, ◌∙◌, subst}
use Rattle.obj36.specs.Faults.{IsValueOf}
use Rattle.obj36.proofs.ReaderLaws.{read_as, refused, behind_first}
use Rattle.obj36.proofs.ObjectLaws.{object_there, object_refused}
use Rattle.obj36.proofs.object.read_with_map.Goals as goal

pub returns-in-Some-clause-accepts : goal.returns-in-Some-clause-accepts
returns-in-Some-clause-accepts c = λ p s. read_as c.args.w.now c.in-Some.object p (subst (IsValueOf c.args.w.now) c.in-Some.is c.in_ok-object.ensures.found) s

pub returns-in-Some-clause-object : goal.returns-in-Some-clause-object
returns-in-Some-clause-object c = object_there c.args.w.now c.in-Some.object (sym c.in-Some.is ∙ c.in_ok-object.ensures.value)

pub returns-in_ok-fault_with_valid_map-in-None-clause-says : goal.returns-in_ok-fault_with_valid_map-in-None-clause-says
returns-in_ok-fault_with_valid_map-in-None-clause-says c =
    refused c.args.w.now _ (behind_first c.args.w.now _ (sym c.requires.outline) c.in_ok-fault_with_valid_map-in-None.ensures)
    (subst (IsValueOf c.args.w.now) c.in-None.is c.in_ok-object.ensures.found)

pub returns-in_ok-fault_with_valid_map-in-None-clause-object : goal.returns-in_ok-fault_with_valid_map-in-None-clause-object
returns-in_ok-fault_with_valid_map-in-None-clause-object c =
    object_refused c.args.w.now _ (behind_first c.args.w.now _ (sym c.requires.outline) c.in_ok-fault_with_valid_map-in-None.ensures) (sym c.in-None.is ∙ c.in_ok-object.ensures.value)
