use Rattle.std.proofs.Common.{Some, None, sym, ◌∙◌}
use Rattle.m36_dir.proofs.DirectoriesOnce.{number_inverse}
use Rattle.m36_dir.proofs.building.directory_number_in.Goals as goal

pub returns-in-Some-clause-inverse : goal.returns-in-Some-clause-inverse
returns-in-Some-clause-inverse c = λ has.
    number_inverse c.args.dirs.now c.args.dir.now (Some c.in-Some.place) (sym c.in-Some.is ∙ c.place_of.ensures.place) has

pub returns-in-None-clause-inverse : goal.returns-in-None-clause-inverse
returns-in-None-clause-inverse c = λ has.
    number_inverse c.args.dirs.now c.args.dir.now None (sym c.in-None.is ∙ c.place_of.ensures.place) has
