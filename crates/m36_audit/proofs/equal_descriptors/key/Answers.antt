-- There is a key exactly if a descriptor is found and both its words are in core.
use Rattle.std.proofs.Common.{◌∙◌, arith}
use Rattle.m36_audit.proofs.SameDescriptors.{key_refused, key_cut, key_halved, key_there, key_odd}
use Rattle.m36_audit.proofs.equal_descriptors.key.Goals as goal

pub returns-in-Err-clause-value : goal.returns-in-Err-clause-value
returns-in-Err-clause-value c = key_refused c.args.core.now c.args.dbr c.args.seg _ c.in-Err.ensures.value

pub returns-in-Err-clause-small : goal.returns-in-Err-clause-small
returns-in-Err-clause-small c = λ key h. absurd (key_refused c.args.core.now c.args.dbr c.args.seg _ c.in-Err.ensures.value key h)

pub returns-then-at-size-clause-value : goal.returns-then-at-size-clause-value
returns-then-at-size-clause-value c =
    key_cut c.args.core.now c.args.dbr c.args.seg c.in-Ok.at c.in-Ok.ensures.value (omega arith)

pub returns-then-at-size-clause-small : goal.returns-then-at-size-clause-small
returns-then-at-size-clause-small c =
    λ key h. absurd (key_cut c.args.core.now c.args.dbr c.args.seg c.in-Ok.at c.in-Ok.ensures.value (omega arith) key h)

pub returns-then-next-size-clause-value : goal.returns-then-next-size-clause-value
returns-then-next-size-clause-value c =
    key_halved c.args.core.now c.args.dbr c.args.seg c.in-Ok.at c.in-Ok.ensures.value (omega arith)

pub returns-then-next-size-clause-small : goal.returns-then-next-size-clause-small
returns-then-next-size-clause-small c =
    λ key h. absurd (key_halved c.args.core.now c.args.dbr c.args.seg c.in-Ok.at c.in-Ok.ensures.value (omega arith) key h)

pub returns-clause-value : goal.returns-clause-value
returns-clause-value c =
    key_there c.args.core.now c.args.dbr c.args.seg c.in-Ok.at c.wrapped_address-next.result c.value-even.result c.value-odd.result c.in-Ok.ensures.value c.wrapped_address-next.ensures.value (omega arith) (omega arith) (c.value-even.ensures.value ∙ c.peek.ensures) (c.value-odd.ensures.value ∙ c.peek-2.ensures)

pub returns-clause-small : goal.returns-clause-small
returns-clause-small c =
    key_odd c.args.core.now c.args.dbr c.args.seg c.in-Ok.at c.wrapped_address-next.result c.value-odd.result c.in-Ok.ensures.value c.wrapped_address-next.ensures.value (omega arith) (c.value-odd.ensures.value ∙ c.peek-2.ensures) (omega arith)
