use Rattle.std.proofs.Common.{◌≤◌, arith}
use Rattle.m36_boot.proofs.LayAnswers.{lay_gates}
use Rattle.m36_boot.proofs.image.lay.Goals as goal

pub returns-in-Err-clause-says : goal.returns-in-Err-clause-says
returns-in-Err-clause-says c =
    let many : 24 ≤ c.args.catalog.now.frames = grind arith in
    lay_gates c.args.catalog.now c.args.files.now _ many c.in-Err.ensures.told
