use Rattle.std.proofs.Common.{◌≡◌, ◌∙◌, sym, ap, subst}
use Rattle.m36_link.specs.Fields.{KnownFields}
use Rattle.m36_link.specs.Known.{nothing_known}
use Rattle.m36_link.specs.Accepted.{known_after}
use Rattle.m36_link.specs.Laws.{IsConsistent}
use Rattle.m36_super.proofs.BootTurns.{start_made}
use Rattle.m36_super.proofs.booting.known_of.Goals as goal

pub returns-clause-made : goal.returns-clause-made
returns-clause-made c =
    let made = start_made c.args.catalog.now c.args.files.now c.args.snap.now c.link_laws.ensures.made_from c.requires in
    let now : c.accept.new.self ≡ known_after nothing_known c.args.snap.now = c.in_ok-accept.ensures.ok ∙ ap (λ (k : KnownFields). known_after k c.args.snap.now) c.in_ok-known.ensures in
    subst (λ (k : KnownFields). IsConsistent c.args.catalog.now c.args.files.now k) (sym now) made
