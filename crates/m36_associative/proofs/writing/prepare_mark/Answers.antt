use Rattle.std.proofs.Common.{rules, ◌≡◌, false}
use Rattle.m36_associative.specs.Watched.{is_watched}
use Rattle.m36_associative.proofs.Written.{right_marked}
use Rattle.m36_associative.proofs.writing.prepare_mark.Goals as goal

pub returns : goal.returns
returns c = λ modified.
    let none : is_watched c.is_of_kept_descriptor.new.memories.words c.args.a ≡ false = c.is_of_kept_descriptor.ensures.none (search rules) in
    right_marked c.args.core.now c.args.dbr.now c.clear_front.new.self c.args.a modified (rw c.clear_front.ensures.words none) c.clear_front.ensures.front c.clear_front.ensures.fetching (c.clear_front.ensures.right c.args.core.now c.args.dbr.now c.is_of_kept_descriptor.ensures.right)
