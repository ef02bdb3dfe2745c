use Rattle.std.proofs.Common.{◌+◌, ◌-◌, ◌^◌, ◌<◌, ◌*◌, ◌/◌, ◌%◌, arith, ap, ◌∙◌}
use Rattle.std.proofs.Math.Nat.{mod-eq_of_lt}
use Rattle.m36_word.proofs.FieldLaws.{above_fits, put_below, put_is}
use Rattle.m36_word.specs.Field.{with_field}
use Rattle.m36_word.proofs.field.Field.put.Goals as goal

pub overflow_add-above : goal.overflow_add-above
overflow_add-above g c =
    let fits : c.value-value.result / 2 ^ (36 - g.row.FIRST) * 2 ^ g.row.LEN % 2 ^ 64 + c.args.v < 2 ^ 64 =
    above_fits c.value-value.result g.row.FIRST g.row.LEN c.args.v (omega arith) c.requires.inside c.requires.fits in
    omega arith

pub overflow_add-above-2 : goal.overflow_add-above-2
overflow_add-above-2 g c =
    rw (put_is c.value-value.result g.row.FIRST g.row.LEN c.args.v (omega arith) c.requires.some c.requires.inside c.requires.fits)
    (let below : with_field c.value-value.result g.row.FIRST g.row.LEN c.args.v < 2 ^ 36 =
    put_below c.value-value.result g.row.FIRST g.row.LEN c.args.v (omega arith) c.requires.inside c.requires.fits in
    omega arith)

pub returns : goal.returns
returns g c =
    c.low.ensures
    ∙ (ap (λ n. n % 2 ^ 36) (put_is c.value-value.result g.row.FIRST g.row.LEN c.args.v (omega arith) c.requires.some c.requires.inside c.requires.fits)
    ∙ (mod-eq_of_lt (put_below c.value-value.result g.row.FIRST g.row.LEN c.args.v (omega arith) c.requires.inside c.requires.fits)
    ∙ ap (λ w. with_field w g.row.FIRST g.row.LEN c.args.v) c.value-value.ensures.value))
