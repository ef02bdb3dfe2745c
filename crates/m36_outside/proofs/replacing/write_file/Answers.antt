-- A spare file was made and used, or none could be made; or the name names no file.
use Rattle.m36_outside.proofs.Names.{not_written}
use Rattle.m36_outside.proofs.Replaced.{replaced_as, replaced_not, replaced_errors, replaced_errors_not, untouched}
use Rattle.m36_outside.specs.declared.sink.Put.TheVariants.{Failed}
use Rattle.m36_outside.proofs.replacing.write_file.Goals as goal

pub returns-in_default-clause-names : goal.returns-in_default-clause-names
returns-in_default-clause-names g c = untouched c.args.name.now c.args.notes.now.names.entries

pub returns-in-None-clause-error : goal.returns-in-None-clause-error
returns-in-None-clause-error g c =
    replaced_errors_not c.args.name.now c.args.notes.now.names.entries c.make_spare.new.calls.entries c.args.notes.now.errors.entries c.make_spare.new.errors.entries c.in-None.ensures

pub returns-in-None-clause-names : goal.returns-in-None-clause-names
returns-in-None-clause-names g c =
    replaced_not c.args.name.now c.args.notes.now.names.entries c.make_spare.new.calls.entries c.args.notes.now.errors.entries c.make_spare.new.errors.entries c.in-None.ensures

pub returns-in-None-clause-outside : goal.returns-in-None-clause-outside
returns-in-None-clause-outside g c =
    λ none. not_written c.args.name.now Failed c.args.notes.now.taken.entries c.args.notes.now.taken.entries c.args.notes.now.names.entries c.make_spare.new.calls.entries c.in-Some.ensures.1 none

pub returns-in-Some-make_spare-clause-outside : goal.returns-in-Some-make_spare-clause-outside
returns-in-Some-make_spare-clause-outside g c =
    λ none. not_written c.args.name.now c.replace.result c.args.notes.now.taken.entries c.replace.new.notes.taken.entries c.args.notes.now.names.entries c.replace.new.notes.names.entries c.in-Some.ensures.1 none

pub returns-in-Some-make_spare-clause-names : goal.returns-in-Some-make_spare-clause-names
returns-in-Some-make_spare-clause-names g c =
    replaced_as c.replace.result c.as_str.result.now _ c.in-Some.name.now c.args.name.now c.args.notes.now.names.entries c.make_spare.new.calls.entries c.replace.new.notes.names.entries c.args.notes.now.errors.entries c.make_spare.new.errors.entries
    c.in-Some-make_spare.ensures c.as_str.ensures.value c.in-Some.ensures.0 c.replace.ensures.names

pub returns-in-Some-make_spare-clause-error : goal.returns-in-Some-make_spare-clause-error
returns-in-Some-make_spare-clause-error g c =
    replaced_errors c.replace.result _ c.args.name.now c.args.notes.now.names.entries c.make_spare.new.calls.entries c.args.notes.now.errors.entries c.make_spare.new.errors.entries c.replace.new.notes.errors.entries
    c.in-Some-make_spare.ensures c.replace.ensures.error
