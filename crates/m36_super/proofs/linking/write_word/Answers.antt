use Rattle.std.proofs.Common.{ℕ, List, ap, sym, subst, ◌∙◌}
use Rattle.std.specs.Prelude.{slice_set}
use Rattle.m36_model.specs.Store.{State}
use Rattle.m36_walk.specs.Memory.{Memory}
use Rattle.m36_page.specs.Residence.{AgreesWithCore}
use Rattle.m36_page.specs.Changes.{IsSet}
use Rattle.m36_link.specs.Known.{linkage_segment}
use Rattle.m36_super.proofs.PagedContents.{word_put}
use Rattle.m36_super.proofs.linking.write_word.Goals as goal

pub returns-in-Some-clause-put : goal.returns-in-Some-clause-put
returns-in-Some-clause-put c =
    let now = ap (λ (s : State (List ℕ)). s.store) c.store.ensures.state in
    let is = c.core.ensures ∙ ap (λ (m : Memory). m.core) c.walk.ensures in
    word_put c.args.machine.now.state.store c.store.new.self.state.store c.args.pager.now c.args.pager.now c.args.ring c.args.word c.args.w c.requires.managed c.requires.ring c.requires.fits
    (subst (λ (x : List ℕ). IsSet c.args.pager.now c.args.machine.now.state.store c.args.pager.now x (linkage_segment c.args.ring) c.args.word c.args.w) (sym now)
    (subst (λ (x : List ℕ). IsSet c.args.pager.now x c.args.pager.now (slice_set x c.in-Some.place c.args.w) (linkage_segment c.args.ring) c.args.word c.args.w) is (c.in-Some.ensures.set c.args.w)))
    (subst (λ (x : List ℕ). AgreesWithCore c.args.pager.now x) (sym now)
    (subst (λ (x : List ℕ). AgreesWithCore c.args.pager.now (slice_set x c.in-Some.place c.args.w)) is (c.in-Some.ensures.reads c.args.w))) c.place.ensures.pager

pub returns-in-None-clause-put : goal.returns-in-None-clause-put
returns-in-None-clause-put c =
    let is = c.core-in-None.ensures ∙ ap (λ (m : Memory). m.core) c.walk-in-None.ensures in
    word_put c.args.machine.now.state.store c.args.machine.now.state.store c.args.pager.now c.set_kept.new.self c.args.ring c.args.word c.args.w c.requires.managed c.requires.ring c.requires.fits
    (subst (λ (x : List ℕ). IsSet c.args.pager.now x c.set_kept.new.self x (linkage_segment c.args.ring) c.args.word c.args.w) is c.set_kept.ensures.set)
    (subst (λ (x : List ℕ). AgreesWithCore c.set_kept.new.self x) is c.set_kept.ensures.reads) c.set_kept.ensures.pager
