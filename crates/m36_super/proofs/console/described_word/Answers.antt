use Rattle.std.proofs.Common.{◌≡◌, ℕ, ◌==◌, ◌∙◌, sym, ap, true, false, Err}
use Rattle.m36_desc.specs.Access.{first_violation, read_rows, unless_violation}
use Rattle.m36_model.specs.Fields.{AtFields}
use Rattle.m36_model.specs.Store.{fault_by, is_within_bound}
use Rattle.m36_model.specs.declared.outcome.Refusal.{Refusal}
use Rattle.m36_page.specs.Residence.{content_of}
use Rattle.m36_super.proofs.ConsoleReads.{denied_answer, allowed_answer, denied_word, beyond_word, read_word}
use Rattle.m36_super.proofs.console.described_word.Goals as goal

pub returns-in-Err : goal.returns-in-Err
returns-in-Err c =
    let ring : c.at.inside.ring ≡ c.args.at.ring = ap (λ (a : AtFields). a.ring) c.at.view_is in
    let same : c.is_executing-same.result ≡ (c.args.at.seg == c.args.regs.now.ppr.psr) = c.is_executing-same.ensures in
    let told : denied_answer c.in-Err.field-0.0 ≡ unless_violation tt (first_violation (read_rows c.args.sdw.now c.args.at.ring (c.args.at.seg == c.args.regs.now.ppr.psr))) = c.in-Err.ensures ∙ (λ i. unless_violation tt (first_violation (read_rows c.args.sdw.now (ring i) (same i)))) in
    denied_word c.args.core.now c.args.pager.now c.args.regs.now c.args.at c.requires.dbr c.args.sdw.now c.in-Err.field-0.0 c.requires.live told
    ∙ ap Err (sym (c.fault_of.ensures ∙ ap (λ (v : Refusal). fault_by v c.args.at) c.violation.ensures))

pub returns-then-not-is_within_bound : goal.returns-then-not-is_within_bound
returns-then-not-is_within_bound c =
    let ring : c.at.inside.ring ≡ c.args.at.ring = ap (λ (a : AtFields). a.ring) c.at.view_is in
    let word : c.at.inside.word ≡ c.args.at.word = ap (λ (a : AtFields). a.word) c.at.view_is in
    let same : c.is_executing-same.result ≡ (c.args.at.seg == c.args.regs.now.ppr.psr) = c.is_executing-same.ensures in
    let told : allowed_answer ≡ unless_violation tt (first_violation (read_rows c.args.sdw.now c.args.at.ring (c.args.at.seg == c.args.regs.now.ppr.psr))) = c.in_default.ensures ∙ (λ i. unless_violation tt (first_violation (read_rows c.args.sdw.now (ring i) (same i)))) in
    let out : is_within_bound c.args.sdw.now c.args.at.word ≡ false = ap (λ (w : ℕ). is_within_bound c.args.sdw.now w) (sym word) ∙ sym c.is_within_bound.ensures ∙ c.if-not-is_within_bound.true in
    beyond_word c.args.core.now c.args.pager.now c.args.regs.now c.args.at c.requires.dbr c.args.sdw.now c.requires.live told out
    ∙ ap Err (sym (c.fault_of-then-not-is_within_bound.ensures ∙ ap (λ (v : Refusal). fault_by v c.args.at) c.violation-then-not-is_within_bound.ensures))

pub returns : goal.returns
returns c =
    let ring : c.at.inside.ring ≡ c.args.at.ring = ap (λ (a : AtFields). a.ring) c.at.view_is in
    let seg : c.at.inside.seg ≡ c.args.at.seg = ap (λ (a : AtFields). a.seg) c.at.view_is in
    let word : c.at.inside.word ≡ c.args.at.word = ap (λ (a : AtFields). a.word) c.at.view_is in
    let same : c.is_executing-same.result ≡ (c.args.at.seg == c.args.regs.now.ppr.psr) = c.is_executing-same.ensures in
    let told : allowed_answer ≡ unless_violation tt (first_violation (read_rows c.args.sdw.now c.args.at.ring (c.args.at.seg == c.args.regs.now.ppr.psr))) = c.in_default.ensures ∙ (λ i. unless_violation tt (first_violation (read_rows c.args.sdw.now (ring i) (same i)))) in
    let inside : is_within_bound c.args.sdw.now c.args.at.word ≡ true = ap (λ (w : ℕ). is_within_bound c.args.sdw.now w) (sym word) ∙ sym c.is_within_bound.ensures ∙ c.if-not-is_within_bound.false in
    let here = sym seg in
    let there = sym word in
    let found : content_of c.args.pager.now c.args.core.now c.args.at.seg c.args.at.word ≡ content_of c.args.pager.now c.args.core.now c.at.inside.seg c.at.inside.word = λ i. content_of c.args.pager.now c.args.core.now (here i) (there i) in
    read_word c.args.core.now c.args.pager.now c.args.regs.now c.args.at c.requires.dbr c.args.sdw.now c.found_word.result c.requires.managed c.requires.live told inside (found ∙ c.found_word.ensures)
