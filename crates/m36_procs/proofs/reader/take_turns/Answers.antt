-- The turns are appended to the schedule.
use Rattle.std.proofs.Common.{◌≡◌, ◌+◌, ◌*◌, ◌<◌, ◌≤◌, true, length, refl, sym, ap, ◌∙◌, arith, length-append}
use Rattle.std.specs.Vec.{vec_len}
use Rattle.std.proofs.lemmas.Bool.{eqb-false}
use Rattle.std.proofs.lemmas.List.{append-nil}
use Rattle.std.specs.List.{repeat}
use Rattle.m36_procs.specs.ProcsFile.{are_process_numbers}
use Rattle.m36_procs.specs.ReaderSays.{parse_state_of}
use Rattle.m36_procs.proofs.Taking.{turns_taken, length-repeated}
use Rattle.m36_procs.proofs.reader.take_turns.Goals as goal

pub returns-in_ok-push_turns : goal.returns-in_ok-push_turns
returns-in_ok-push_turns c =
    let reader = c.args.reader.now in
    let turns = c.args.turns.now in
    let some : 0 < length reader.regs.items = omega (arith, eqb-false (vec_len reader.regs) 0 (sym c.if-is_empty.ensures), reader.regs.ok.0) in
    let most : length reader.schedule.items + turns.times * length turns.order ≤ 10000000 = omega arith in
    let named : are_process_numbers (length reader.regs.items) turns.order ≡ true = cc in
    let pushed = c.in_ok-push_turns.ensures in
    let events : length c.push_turns.new.schedule.items ≡ length reader.schedule.items + turns.times * length turns.order = ap length pushed ∙ length-append reader.schedule.items (repeat turns.times turns.order) ∙ ap (λ n. length reader.schedule.items + n) (length-repeated turns.times turns.order) in
    record {
      stands = turns_taken (parse_state_of reader) turns (length c.push_turns.new.schedule.items) some most named events;
      regs = sym (append-nil reader.regs.items);
      core = refl;
      schedule = pushed;
    }
