use Rattle.std.proofs.lemmas.Result.{err_from_is_err_and}
use Rattle.m36_ea.proofs.Runs.{follows_refused, follows_plain, follows_its, follows_itp, its_refused, itp_refused}
use Rattle.m36_ea.proofs.indirect.follow.Goals as goal

pub returns-in_err-even-clause-follows : goal.returns-in_err-even-clause-follows
returns-in_err-even-clause-follows c =
    let r = err_from_is_err_and c.from_residual.result c.from_residual.ensures.1 in
    rw (r.1, r.2) (λ next. follows_refused c.args.regs.now c.args.tpr.now c.args.word c.args.held c.args.walk.now c.indirect_word.new.walk c.args.refs.now.items next c.in_err-even.field-0.0 (c.in_err-even.ensures {u = tt}).serves)

pub returns-in_err-odd-in-Its-clause-follows : goal.returns-in_err-odd-in-Its-clause-follows
returns-in_err-odd-in-Its-clause-follows c =
    let r = err_from_is_err_and c.from_residual-in_err-odd-in-Its.result c.from_residual-in_err-odd-in-Its.ensures.1 in
    rw (r.1, r.2) (λ next. its_refused c.args.regs.now c.args.tpr.now c.args.word c.args.held c.args.walk.now c.indirect_word.new.walk c.args.refs.now.items next c.in_ok-even.even c.in_ok-even.r1 (c.in_ok-even.ensures {u = tt}).serves (c.in_ok-even.ensures {u = tt}).ring c.odd_word.new.walk.core c.odd_word.new.refs.items c.in_err-odd-in-Its.field-0.0 (c.in-Its.ensures {u = tt}).found (c.in_err-odd-in-Its.ensures {u = tt}).serves)

pub returns-in_err-odd-in-Itp-clause-follows : goal.returns-in_err-odd-in-Itp-clause-follows
returns-in_err-odd-in-Itp-clause-follows c =
    let r = err_from_is_err_and c.from_residual-in_err-odd-in-Itp.result c.from_residual-in_err-odd-in-Itp.ensures.1 in
    rw (r.1, r.2) (λ next. itp_refused c.args.regs.now c.args.tpr.now c.args.word c.args.held c.args.walk.now c.indirect_word.new.walk c.args.refs.now.items next c.in_ok-even.even c.in_ok-even.r1 (c.in_ok-even.ensures {u = tt}).serves (c.in_ok-even.ensures {u = tt}).ring c.odd_word-in-Itp.new.walk.core c.odd_word-in-Itp.new.refs.items c.in_err-odd-in-Itp.field-0.0 (c.in-Itp.ensures {u = tt}).found (c.in_err-odd-in-Itp.ensures {u = tt}).serves)

pub returns-in-Plain-clause-follows : goal.returns-in-Plain-clause-follows
returns-in-Plain-clause-follows c =
    rw (c.after_plain.ensures, c.add_reference.ensures.items, c.at.ensures) (λ next. follows_plain c.args.regs.now c.args.tpr.now c.args.word c.args.held c.args.walk.now c.indirect_word.new.walk c.args.refs.now.items next c.in_ok-even.even c.in_ok-even.r1 (c.in_ok-even.ensures {u = tt}).serves (c.in_ok-even.ensures {u = tt}).ring (c.in-Plain.ensures {u = tt}).found)

pub returns-in_ok-odd-in-Its-clause-follows : goal.returns-in_ok-odd-in-Its-clause-follows
returns-in_ok-odd-in-Its-clause-follows c =
    rw c.after_its.ensures (λ next. follows_its c.args.regs.now c.args.tpr.now c.args.word c.args.held c.args.walk.now c.indirect_word.new.walk c.args.refs.now.items next c.in_ok-even.even c.in_ok-even.r1 (c.in_ok-even.ensures {u = tt}).serves (c.in_ok-even.ensures {u = tt}).ring c.odd_word.new.walk.core c.odd_word.new.refs.items c.in_ok-odd-in-Its.odd (c.in-Its.ensures {u = tt}).found (c.in_ok-odd-in-Its.ensures {u = tt}).serves)

pub returns-in_ok-odd-in-Itp-clause-follows : goal.returns-in_ok-odd-in-Itp-clause-follows
returns-in_ok-odd-in-Itp-clause-follows c =
    rw c.after_itp.ensures (λ next. follows_itp c.args.regs.now c.args.tpr.now c.args.word c.args.held c.args.walk.now c.indirect_word.new.walk c.args.refs.now.items next c.in_ok-even.even c.in_ok-even.r1 (c.in_ok-even.ensures {u = tt}).serves (c.in_ok-even.ensures {u = tt}).ring c.odd_word-in-Itp.new.walk.core c.odd_word-in-Itp.new.refs.items c.in_ok-odd-in-Itp.odd (c.in-Itp.ensures {u = tt}).found (c.in_ok-odd-in-Itp.ensures {u = tt}).serves)
