-- All files were made.
use Rattle.std.proofs.Common.{◌≡◌, ◌∙◌, ap, subst, ◌++◌, map, List, Ok}
use Rattle.m36_gen.specs.declared.files.File.{File}
use Rattle.m36_status.specs.declared.setting.Set.{Set}
use Rattle.cmd_make.specs.Making.{set_of, with_objects}
use Rattle.cmd_make.proofs.AllFiles.{made_all}
use Rattle.cmd_make.proofs.making.files_of_seed.Goals as goal

pub returns : goal.returns
returns c =
    made_all c.args.seed c.in_ok-draw_of.draw_of c.in_ok-sets.sets c.in_ok-sets-2.sets c.in_ok-sets-3.sets
    c.in_ok-draw_of.ensures
    (c.in_ok-sets.ensures ∙ ap (λ (s : List Set). s ++ map set_of c.items.result.now) c.new.ensures
    ∙ ap (λ (l : List File). map set_of l) c.items.ensures)
    (subst (λ (l : List File). with_objects c.in_ok-sets.sets l ≡ Ok c.in_ok-sets-2.sets) c.items-2.ensures
    c.in_ok-sets-2.ensures)
    c.in_ok-sets-3.ensures
