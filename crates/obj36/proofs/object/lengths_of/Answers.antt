use Rattle.std.proofs.Common.{◌≡◌, ap, ◌∙◌, length, arith}
use Rattle.obj36_parts.specs.PartsFields.{PartsFields}
use Rattle.obj36_parts.specs.ObjectSegment.{definition_section, linkage_section, outer_statics, symbol_section}
use Rattle.obj36_parts.proofs.LengthLaws.{small_sections}
use Rattle.obj36.proofs.object.lengths_of.Goals as goal

pub returns-clause-small : goal.returns-clause-small
returns-clause-small c =
    let p = c.args.parts.now in
    let s = small_sections p c.requires.formed in
    let text : length c.slice.result.now ≡ length p.text = ap length c.slice.ensures.value ∙ ap (λ (q : PartsFields). length q.text) c.parts.view_is in
    let definition : length c.args.definition.now ≡ length (definition_section p) = ap length c.requires.definition in
    let linkage : length c.args.linkage.now ≡ length (linkage_section p) = ap length c.requires.linkage in
    let outer : length c.outer_statics.result.now ≡ length (outer_statics p) = ap length c.outer_statics.ensures in
    let symbol : length c.args.symbol.now ≡ length (symbol_section p) = ap length c.requires.symbol in
    record {
      text = omega (arith, s.text);
      definition = omega (arith, s.definition);
      linkage = omega (arith, s.linkage);
      statics = omega (arith, s.outer);
      symbol = omega (arith, s.symbol);
    }
