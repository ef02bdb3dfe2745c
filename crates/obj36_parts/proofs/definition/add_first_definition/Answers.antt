use Rattle.std.proofs.Common.{sym, ◌∙◌}
use Rattle.obj36_parts.proofs.FirstLaws.{first_kept, first_added}
use Rattle.obj36_parts.proofs.definition.add_first_definition.Goals as goal

pub returns-then-contains_key-clause-ok : goal.returns-then-contains_key-clause-ok
returns-then-contains_key-clause-ok c = first_kept c.args.firsts.now.entries c.args.definition.now (sym c.contains_key.ensures ∙ c.if-contains_key.true)

pub returns-clause-ok : goal.returns-clause-ok
returns-clause-ok c =
    first_added c.args.firsts.now.entries c.insert.new.self.entries c.args.definition.now c.copied.result
    (sym c.contains_key.ensures ∙ c.if-contains_key.false) c.copied.ensures c.in_ok-insert.ensures.entries
