-- The retained definitions are among all definitions.
use Rattle.std.proofs.Common.{List, ℕ, [], ap, subst, ◌∙◌}
use Rattle.m36_relocate.specs.declared.exports.Export.{Export}
use Rattle.m36_bindfile.specs.BindFile.{BindResult}
use Rattle.m36_bind.specs.Kept.{exports_from, with_retain_lines}
use Rattle.m36_bind.proofs.binding.retained_definitions.Goals as goal

pub returns : goal.returns
returns c =
    subst (λ (e : List (List ℕ × Export)). BindResult c.definitions_of_retain_lines.result (with_retain_lines e [] 1 c.args.lines.now))
    (c.in_ok-exports.ensures ∙ ap (exports_from c.args.frame.now []) c.items.ensures) c.definitions_of_retain_lines.ensures
