use Rattle.std.proofs.Common.{◌∙◌}
use Rattle.m36_link.proofs.KnownNames.{goes_last, names_more}
use Rattle.m36_link.proofs.known.insert_name.Goals as goal

pub returns-clause-ok : goal.returns-clause-ok
returns-clause-ok c = c.in_ok-insert.ensures.entries ∙ goes_last c.args.names.now c.args.name c.args.target c.requires.absent

pub returns-clause-names : goal.returns-clause-names
returns-clause-names c =
    names_more c.args.names.now.entries c.insert.new.self.entries c.args.name c.args.target
    (c.in_ok-insert.ensures.entries ∙ goes_last c.args.names.now c.args.name c.args.target c.requires.absent) c.requires.names c.requires.fits c.requires.target
