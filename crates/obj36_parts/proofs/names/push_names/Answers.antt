use Rattle.std.proofs.Common.{◌++◌}
use Rattle.obj36_parts.specs.Names.{all_name_words}
use Rattle.obj36_parts.proofs.NameTables.{name_pushed, no_name_pushed}
use Rattle.obj36_parts.proofs.names.push_names.Goals as goal

pub loop-name-preserved : goal.loop-name-preserved
loop-name-preserved c =
    name_pushed c.loop-name.out c.push_name.new.out (c.args.out.now ++ all_name_words c.args.names.now) c.name-item.result c.args.names.now c.loop-name.name-index c.loop-name-test.true c.name-item.is
    c.in_ok-push_name.ensures c.loop-name.invariant

pub returns : goal.returns
returns c = no_name_pushed c.loop-name.out _ c.args.names.now c.loop-name.name-index c.loop-name-test.false c.loop-name.invariant
