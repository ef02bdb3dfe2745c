-- A spare name was free, or refused; or all were refused.
use Rattle.std.proofs.Common.{◌≡◌, ℕ, true, [], ◌∷◌, ◌++◌, replicate, ap, subst, ◌∙◌, arith}
use Rattle.std.specs.declared.io.ErrorKind.{ErrorKind}
use Rattle.std.specs.declared.io.ErrorKind.TheVariants.{AlreadyExists}
use Rattle.m36_outside.specs.NameCalls.{refused_tries}
use Rattle.m36_outside.specs.declared.name_calls.NameCall.TheVariants.{Make}
use Rattle.m36_outside.proofs.Replaced.{makes_spare, makes_none, makes_none_of_all, refused_more, tried_more, tried_none, refused_none}
use Rattle.m36_outside.proofs.name_calls.make_spare.Goals as goal

pub loop-number-init : goal.loop-number-init
loop-number-init g c =
    record { refused_tries = tried_none c.args.calls.now.entries; refused = refused_none c.args.errors.now.entries }

pub loop-number-preserved : goal.loop-number-preserved
loop-number-preserved g c = record {
  refused_tries = tried_more c.args.calls.now.entries c.loop-number.calls.entries c.make_new.new.calls.entries c.loop-number.number c.as_str.result.now
      c.loop-number.invariant.refused_tries (c.as_str.ensures.value ∙ c.spare_name-name.ensures) c.in-Err-AlreadyExists.ensures.calls;
  refused = refused_more c.args.errors.now.entries c.loop-number.errors.entries c.make_new.new.errors.entries c.loop-number.number
      c.loop-number.invariant.refused
      (c.in-Err-AlreadyExists.ensures.errors ∙ ap (λ (k : ErrorKind). c.loop-number.errors.entries ++ k ∷ []) c.in-Err-AlreadyExists.field-0-is);
}

pub returns-in-Ok : goal.returns-in-Ok
returns-in-Ok g c =
    makes_spare c.spare_name-name.result.bytes c.loop-number.number c.args.calls.now.entries c.loop-number.calls.entries c.make_new.new.calls.entries c.args.errors.now.entries c.make_new.new.errors.entries
    c.loop-number.invariant.refused_tries c.spare_name-name.ensures
    (c.in-Ok.ensures.calls ∙ ap (λ n. c.loop-number.calls.entries ++ Make n true ∷ []) c.as_str.ensures.value)
    (c.in-Ok.ensures.errors ∙ c.loop-number.invariant.refused)

pub returns-in-Err : goal.returns-in-Err
returns-in-Err g c =
    makes_none c.as_str.result.now c.loop-number.number c.in-Err.field-0 c.args.calls.now.entries c.loop-number.calls.entries c.make_new.new.calls.entries
    c.args.errors.now.entries c.loop-number.errors.entries c.make_new.new.errors.entries
    c.loop-number.invariant.refused_tries (c.as_str.ensures.value ∙ c.spare_name-name.ensures) c.in-Err.ensures.calls
    c.loop-number.invariant.refused c.in-Err.ensures.errors

pub returns : goal.returns
returns g c =
    let all : c.loop-number.number ≡ 1000 = omega arith in
    makes_none_of_all 999 c.args.calls.now.entries c.loop-number.calls.entries c.args.errors.now.entries c.loop-number.errors.entries
    (subst (λ (n : ℕ). c.loop-number.calls.entries ≡ c.args.calls.now.entries ++ refused_tries n) all c.loop-number.invariant.refused_tries)
    (subst (λ (n : ℕ). c.loop-number.errors.entries ≡ c.args.errors.now.entries ++ replicate n AlreadyExists) all c.loop-number.invariant.refused)
