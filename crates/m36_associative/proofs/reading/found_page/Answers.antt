use Rattle.std.proofs.Common.{rules, ℕ, ◌≡◌, Bool, true, false, IsTrue, subst}
use Rattle.m36_associative.specs.Right.{IsMarked, IsKeptTableWord}
use Rattle.m36_associative.proofs.Found.{page_unpaged, page_paged}
use Rattle.m36_associative.proofs.reading.found_page.Goals as goal

is_true : (b : Bool) → b ≡ true → IsTrue b
is_true true e = search rules
is_true false e = absurd (cc)

pub returns-then-sdw-clause-page : goal.returns-then-sdw-clause-page
returns-then-sdw-clause-page c =
    let whole : c.in_ok-_entry.sdw.unpaged ≡ true = rw (← c.sdw.view_is) c.if-sdw.true in
    page_unpaged c.args.core.now c.args.dbr c.args.memories.now _ c.args.seg c.args.word c.in_ok-_entry.sdw c.page_of.ensures.page_rights c.in_ok-_entry.ensures.kept whole (c.is_directory_marked.ensures (search rules)) (rw (c.page_of.ensures.base, ← c.sdw.view_is) c.wrapped_address-base.ensures.value) (rw c.page_of.ensures.base c.wrapped_address-base.ensures.bound)

pub returns-clause-page : goal.returns-clause-page
returns-clause-page c =
    let paged : c.in_ok-_entry.sdw.unpaged ≡ false = rw (← c.sdw.view_is) c.if-sdw.false in
    let here : c.ptw.inside.f ≡ true = search rules in
    let there : c.in_ok-_word_entry.ptw.f ≡ true = rw (← c.ptw.view_is) here in
    let used : IsMarked c.args.core.now c.page_at-a.result false = c.is_marked.ensures (search rules) in
    page_paged c.args.core.now c.args.dbr c.args.memories.now _ c.args.seg c.args.word c.in_ok-_entry.sdw c.page_of-2.ensures.page_rights c.in_ok-_word_entry.ptw c.in_ok-_entry.ensures.kept paged (c.is_directory_marked.ensures (search rules))
    (subst (λ (a : ℕ). IsKeptTableWord c.args.core.now c.args.dbr c.args.memories.now.words c.args.memories.now.tables a c.in_ok-_word_entry.ptw) c.page_at-a.ensures.value c.in_ok-_word_entry.ensures.kept)
    there (rw (c.page_of-2.ensures.base, ← c.ptw.view_is) c.wrapped_address-base-2.ensures.value) (rw c.page_of-2.ensures.base c.wrapped_address-base-2.ensures.bound)
    (subst (λ (a : ℕ). IsMarked c.args.core.now a false) c.page_at-a.ensures.value used)
    (λ y. subst (λ (a : ℕ). IsMarked c.args.core.now a true) c.page_at-a.ensures.value (c.is_marked-modified.ensures (is_true c.is_marked-modified.result (c.page_of-2.ensures.modified y))))
