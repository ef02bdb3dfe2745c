use Rattle.std.proofs.Common.{ℕ, ◌≡◌, ◌+◌, ◌<◌, inl, inr, length, get_or, ◌∙◌, subst, rules, arith}
use Rattle.m36_associative.specs.declared.kept.SdwEntry.{SdwEntry}
use Rattle.m36_associative.proofs.Keeping.{watches_on, is_item, before_or_here}
use Rattle.m36_associative.proofs.watched_words.watch_descriptors.Goals as goal

pub loop-kept-preserved : goal.loop-kept-preserved
loop-kept-preserved c = λ k e seg b i n.
    let here = c.loop-kept.kept-index in
    let within : here < length c.args.sdws.now = omega arith in
    elim (before_or_here k here (omega arith)) [
      | inl l ↦ watches_on c.args.core.now c.args.dbr c.loop-kept.words c.loop-kept.tables c.watch_kept.new.words c.watch_kept.new.tables c.watch_kept.ensures.words c.watch_kept.ensures.tables seg (c.loop-kept.invariant k e seg l i n)
      | inr is ↦
          let at : get_or c.args.sdws.now here e ≡ e = subst (λ (j : ℕ). get_or c.args.sdws.now j e ≡ e) is i in
          let same : e ≡ get_or c.args.sdws.now here c.kept-item.result = is_item c.args.sdws.now here e c.kept-item.result within c.kept-item.is at ∙ c.kept-item.is in
          c.watch_kept.ensures.watches (search rules) seg (subst (λ (x : SdwEntry). x.key ≡ seg + 1) same n)
    ]
