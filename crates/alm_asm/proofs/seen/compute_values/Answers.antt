-- With one more line, its values and those of the rest are all values.
use Rattle.std.proofs.Common.{rules, arith, ◌≡◌, ◌+◌, ◌-◌, List, [], ◌∷◌, ◌++◌, length, take, drop, sym, ap, ◌∙◌}
use Rattle.std.proofs.lemmas.Grind.{common_steps}
use Rattle.std.proofs.lemmas.List.{length-take, length-drop, append-nil}
use Rattle.alm_parse.specs.declared.line.Line36.{Line36}
use Rattle.alm_lines.specs.Spots.{start, next_line_spot}
use Rattle.alm_lines.proofs.Rooms.{room_below}
use Rattle.alm_asm.specs.Links.{links_after, links_from}
use Rattle.alm_asm.specs.LineValues.{values_from, with_values}
use Rattle.alm_asm.proofs.LinksApart.{apart_at_end}
use Rattle.alm_asm.proofs.LinksSoFar.{kept_at_end}
use Rattle.alm_asm.proofs.SeenLaws.{seen_more, links_more}
use Rattle.alm_asm.proofs.seen.compute_values.Goals as goal

pub loop-rest-preserved : goal.loop-rest-preserved
loop-rest-preserved c =
    let text = c.args.text.now in
    let symbols = c.args.symbols.now in
    let whole = links_from text symbols c.args.links.now start c.args.lines.now in
    let spot = c.loop-rest.spot in
    let rest = c.loop-rest.rest.now in
    let more = take (length rest - 1) (drop 1 rest) in
    let line = c.line-item.result in
    let seen = c.in_ok-seen.seen in
    let split : rest ≡ line ∷ more = first_of (search rules, grind (arith, common_steps)) in
    let given : links_from text symbols c.loop-rest.links spot (line ∷ more) ≡ whole =
    ap (λ (lines : List Line36). links_from text symbols c.loop-rest.links spot lines) (sym split) ∙ c.loop-rest.invariant.links in
    let before : c.loop-rest.all ++ values_from text symbols whole spot (line ∷ more) ≡ values_from text symbols whole start c.args.lines.now =
    ap (λ (lines : List Line36). c.loop-rest.all ++ values_from text symbols whole spot lines) (sym split) ∙ c.loop-rest.invariant.seen in
    let one : length rest ≡ length more + 1 = omega (arith, c.in-len1-up.len_at_least, length-drop 1 rest, length-take (length rest - 1) (drop 1 rest)) in
    let spot_is : c.in_ok-spot.spot ≡ next_line_spot text spot line = c.in_ok-spot.ensures.value in
    let after : c.compute_line_values.new.links ≡ links_after text symbols c.loop-rest.links spot line = c.in_ok-seen.ensures.links in
    let kept : c.push_line_values.new.all ≡ with_values c.loop-rest.all line.args seen = first_of (search rules, cc) in
    record {
      room = room_below (length rest) (length more) spot c.in_ok-spot.spot one c.loop-rest.invariant.room c.in_ok-spot.ensures.near;
      links = ap (λ at. links_from text symbols c.compute_line_values.new.links at more) spot_is ∙ links_more text symbols c.loop-rest.links c.compute_line_values.new.links whole spot line more given after;
      seen =
          ap (λ at. c.push_line_values.new.all ++ values_from text symbols whole at more) spot_is
          ∙ seen_more text symbols c.loop-rest.links c.compute_line_values.new.links whole spot line more c.loop-rest.all seen (values_from text symbols whole start c.args.lines.now) c.push_line_values.new.all
          given after c.in_ok-seen.ensures.value c.in_ok-seen.ensures.place before kept;
    }

pub returns-clause-seen : goal.returns-clause-seen
unfolding values_from
returns-clause-seen c =
    let text = c.args.text.now in
    let symbols = c.args.symbols.now in
    let whole = links_from text symbols c.args.links.now start c.args.lines.now in
    let rest = c.loop-rest.rest.now in
    let none : rest ≡ [] = first_of (search rules, grind (arith, common_steps)) in
    sym (append-nil c.loop-rest.all)
    ∙ ap (λ (lines : List Line36). c.loop-rest.all ++ values_from text symbols whole c.loop-rest.spot lines) (sym none)
    ∙ c.loop-rest.invariant.seen

pub returns-clause-kept : goal.returns-clause-kept
returns-clause-kept c =
    let none : c.loop-rest.rest.now ≡ [] = first_of (search rules, grind (arith, common_steps)) in
    kept_at_end c.args.text.now c.args.symbols.now c.args.links.now c.loop-rest.links start c.loop-rest.spot c.args.lines.now c.loop-rest.rest.now none
    c.loop-rest.invariant.links

pub returns-clause-apart : goal.returns-clause-apart
returns-clause-apart c = λ apart.
    let none : c.loop-rest.rest.now ≡ [] = first_of (search rules, grind (arith, common_steps)) in
    apart_at_end c.args.text.now c.args.symbols.now c.args.links.now c.loop-rest.links start c.loop-rest.spot c.args.lines.now c.loop-rest.rest.now none
    c.loop-rest.invariant.links apart
