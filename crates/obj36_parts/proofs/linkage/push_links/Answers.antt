use Rattle.std.proofs.Common.{ℕ, ◌++◌, ◌∷◌, [], ap, ◌∙◌, arith}
use Rattle.obj36_parts.specs.Fields.{LinkFields}
use Rattle.obj36_parts.specs.Halves.{word_with_halves}
use Rattle.obj36_parts.specs.ObjectSegment.{link_words}
use Rattle.obj36_parts.proofs.SectionLoops.{link_more, links_done}
use Rattle.obj36_parts.proofs.linkage.push_links.Goals as goal

pub loop-link-preserved : goal.loop-link-preserved
loop-link-preserved c = record {
  rest =
      link_more c.args.links.now c.loop-link.link-index c.loop-link.at c.loop-link.expression c.link-item.result c.loop-link.out c.push_pair.new.out
      (c.args.out.now ++ link_words c.args.links.now c.args.first c.args.expressions) c.loop-link-test.true c.link-item.is
      (c.in_ok-push_pair.ensures
      ∙ ap (λ (w : ℕ × ℕ). c.loop-link.out ++ w.0 ∷ w.1 ∷ []) (λ i. (
        (c.word_of_halves.ensures ∙ ap (λ n. word_with_halves n 38) c.saturating_sub-offset.ensures) i,
        (c.word_of_halves-in-loop-link.ensures ∙ ap (λ (x : LinkFields). word_with_halves c.loop-link.expression x.modifier) c.link.view_is) i,
      )))
      c.loop-link.invariant.rest;
  place = omega arith;
  behind = omega arith;
}

pub returns : goal.returns
returns c = links_done c.args.links.now c.loop-link.link-index c.loop-link.at c.loop-link.expression c.loop-link.out _ c.loop-link-test.false c.loop-link.invariant.rest
