use Rattle.m36_associative.proofs.Found.{passes}
use Rattle.m36_associative.proofs.reading.recalled_descriptor.Goals as goal

pub returns-clause-passes : goal.returns-clause-passes
returns-clause-passes c = passes c.args._core.now c.args._dbr c.args.seg _ c.in_ok-e.ensures.kept.found
