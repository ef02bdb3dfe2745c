use Rattle.std.proofs.Common.{◌≡◌, ◌/◌, ◌-◌, ◌%◌, refl, arith}
use Rattle.m36_associative.specs.Right.{DescribesPage}
use Rattle.m36_associative.proofs.Keeping.{with_fetching}
use Rattle.m36_associative.proofs.memories.Memories.fetch_from.Goals as goal

pub returns : goal.returns
returns c = λ core dbr h k.
    let first : (c.args.word - c.args.word % 1024) / 1024 ≡ c.args.word / 1024 = omega arith in
    let here : DescribesPage core dbr c.args.self.now.words c.args.self.now.tables c.args.page.now c.args.seg ((c.args.word - c.args.word % 1024) / 1024) = rw first k in
    with_fetching core dbr c.args.self.now _ h refl refl refl refl refl
    (λ n. record { page = c.args.page.now; is = here; first = omega arith; low = omega arith; base = refl; len = omega arith; above = c.requires.above; below = c.requires.below; privileged = refl })
