use Rattle.std.proofs.Common.{◌≤◌, length, rules}
use Rattle.m36_dir.proofs.WordsOfModes.{letters_inverse}
use Rattle.m36_dir.proofs.words.mode_of.Goals as goal

pub returns-clause-inverse : goal.returns-clause-inverse
returns-clause-inverse c =
    let some : 1 ≤ length c.args.word.now = search rules in
    letters_inverse c.args.word.now c.mode_of_letters.result c.mode_of_letters.ensures some
