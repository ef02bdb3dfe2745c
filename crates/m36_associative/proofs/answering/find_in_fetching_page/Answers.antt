use Rattle.std.proofs.Common.{ℕ, ◌≡◌, ◌+◌, ◌-◌, ◌%◌, ◌^◌, ◌<◌, ◌≤◌, false, subst, arith}
use Rattle.m36_associative.specs.Right.{Answers, MayFetch}
use Rattle.m36_associative.proofs.Faces.{answers_fetched}
use Rattle.m36_associative.proofs.answering.find_in_fetching_page.Goals as goal

pub returns : goal.returns
returns c =
    let some : 0 < c.args.memories.now.fetching.len = omega arith in
    let k = c.requires.right.fetching some in
    let low : c.args.memories.now.fetching.first < 2 ^ 18 = k.low in
    let len : c.args.memories.now.fetching.len ≤ k.page.end = k.len in
    let most : k.page.end ≤ 1024 = k.is.page_rights.most in
    let offset : (c.args.word + (2 ^ 32 - c.args.memories.now.fetching.first)) % 2 ^ 32 ≡ c.args.word - c.args.memories.now.fetching.first = omega arith in
    let is = answers_fetched c.args._core.now c.args._dbr c.args.memories.now.words c.args.memories.now.tables c.args.memories.now.fetching k c.args.word (omega arith) (omega arith) in
    rw offset (subst (λ (s : ℕ). Answers c.args._core.now c.args._dbr (λ d. MayFetch c.args.ring d × (c.args.memories.now.fetching.privileged ≡ d.privileged)) false s c.args.word 1 (c.args.memories.now.fetching.base + (c.args.word - c.args.memories.now.fetching.first))) c.if-page-seg.false
    (subst (λ (r : ℕ). Answers c.args._core.now c.args._dbr (λ d. MayFetch r d × (c.args.memories.now.fetching.privileged ≡ d.privileged)) false c.args.memories.now.fetching.seg c.args.word 1 (c.args.memories.now.fetching.base + (c.args.word - c.args.memories.now.fetching.first))) c.if-page-ring.false is))
