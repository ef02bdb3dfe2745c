-- The world still holds the three references, so what it has seen is what the objects have seen.
use Rattle.std.proofs.Common.{rules, ap, get_or}
use Rattle.m36_program.proofs.Objects.{same_now}
use Rattle.m36_top.specs.Words.{command_of}
use Rattle.m36_top.proofs.TopCalls.{call_over, same_references, no_fault}
use Rattle.m36_top.proofs.top.m36.Goals as goal

pub returns-clause-call : goal.returns-clause-call
returns-clause-call g c =
    let asked = command_of c.args.words.now in
    let all = same_references asked c.m36_in.result _ _ c.m36_in.ensures.performs in
    let in_folder = ap (λ l. get_or l 0 0) all in
    let in_lines = ap (λ l. get_or l 1 0) all in
    let in_out = ap (λ l. get_or l 2 0) all in
    let begun = c.new-world.ensures in
    let f = g.F.Folder in
    let l = g.L.Lines in
    let s = g.S.Sink in
    call_over asked c.m36_in.result _ _ _ _ begun.events
    (same_now f.asked f.wrote f.files f.read_faults f.write_faults l.given l.left l.faults s.taken s.written s.faults
    _ _ _ _ _ _ _ _ begun.folder begun.input begun.output)
    (same_now f.asked f.wrote f.files f.read_faults f.write_faults l.given l.left l.faults s.taken s.written s.faults
    _ _ _ _ _ _ _ _ (search rules) (search rules) (search rules))
    c.m36_in.ensures.usage c.m36_in.ensures.performs

pub returns-clause-sure : goal.returns-clause-sure
returns-clause-sure g c = λ never.
    let call = returns-clause-call g c in
    no_fault c.m36_in.result _ _ call.cause (record {
      reads = (never.read_faults _, never.read_faults _);
      writes = (never.write_faults _, never.write_faults _);
      outputs = (never.put_faults _, never.put_faults _);
      inputs = (never.input_faults _, never.input_faults _);
    })
