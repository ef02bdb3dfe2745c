use Rattle.std.proofs.Common.{◌-◌, ◌%◌, ◌^◌, sym, ap, ◌∙◌}
use Rattle.m36_page.proofs.Frames.{unused}
use Rattle.m36_page.proofs.choice.clear_used.Goals as goal

pub returns : goal.returns
returns c =
    unused c.args.core.now c.poke.new.self c.args.spot c.peek-word.result c.low.result c.requires c.peek-word.ensures
    c.value.ensures.bound (sym c.is_used.ensures ∙ c.if-not-is_used.false)
    (c.low.ensures ∙ ap (λ n. (n - 512) % 2 ^ 36) c.value.ensures.value) c.poke.ensures
