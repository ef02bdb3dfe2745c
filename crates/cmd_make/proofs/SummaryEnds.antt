-- What the program puts of a system if it ends by itself: the lines of a run, or those of findings.
use Rattle.std.proofs.Common.{◌≡◌, ℕ, false, List, [], ◌∷◌, ◌++◌, Some, Result, Ok, Err, sym, ap, subst, ◌∙◌, inl}
use Rattle.std.proofs.Common.{inr, zero-add}
use Rattle.m36_world.specs.declared.event.Event.{Event}
use Rattle.m36_world.specs.Follow.{outputs}
use Rattle.m36_step.specs.declared.turns.Turn.{Turn}
use Rattle.m36_super.specs.Library.{Library}
use Rattle.m36_super.specs.declared.next_event.NextEvent.TheVariants.{Step}
use Rattle.m36_super.specs.BootedRun.{Booted}
use Rattle.m36_status.specs.declared.setting.Set.{Set}
use Rattle.m36_status.specs.declared.status.Status.{Status}
use Rattle.m36_status.specs.declared.status.Status.TheVariants.{AuditNo}
use Rattle.m36_program.specs.Alike.{IsEnd}
use Rattle.m36_program.specs.Early.{MayEnd, ends}
use Rattle.m36_program.specs.Goes.{Goes}
use Rattle.m36_program.specs.Program.{May, quiet, Program, puts_all}
use Rattle.m36_program.specs.Split.{Split}
use Rattle.m36_program.proofs.Gathered.{outputs_both}
use Rattle.m36_program.proofs.GoesLaws.{goes_failed}
use Rattle.m36_program.proofs.PieceLaws.{ThenGoes, puts_gone, PutsWhole, puts_ended}
use Rattle.m36_program.proofs.SplitLaws.{goes_split}
use Rattle.m36_program.proofs.TextLaws.{trail_put}
use Rattle.m36_program.proofs.TrailLaws.{goes_trail}
use Rattle.cmd_image.specs.ImageAudit.{audit_status}
use Rattle.cmd_folder.specs.declared.finish.Finish.{Finish}
use Rattle.cmd_folder.specs.RunText.{turns_step_count, finish_status}
use Rattle.cmd_folder.specs.Runs.{Finishes}
use Rattle.cmd_folder.specs.Runs as runs
use Rattle.cmd_image.specs.ImageProgram.{audit_may_end}
use Rattle.cmd_folder.specs.RunProgram.{finish_may_end}
use Rattle.cmd_make.specs.MadeLaw.{all_written, WritesAndPuts, PutsRun}
use Rattle.cmd_make.specs.MakeProgram.{put_summary, run_and_summarise, make_after_audit}
use Rattle.cmd_make.specs.QuietRun.{RunSummary, run_from}
use Rattle.cmd_make.specs.Summary.{run_limit, segment_count, head_pieces, end_pieces}
use Rattle.cmd_make.proofs.RunGoes.{HasRun, run_goes}

-- ---- pieces are put, and no put fails

-- a result that is an end, and one of these statuses
pub end_is :
    {A : Type 0} (result : Result A Status) (s : Status) → result ≡ Err s → IsEnd result → IsEnd {A = A} (Err s)
end_is {A} result s is ended = subst (IsEnd {A = A}) is ended

pub puts_end :
    {may : May} {A : Type 0} (pieces : List (List ℕ)) (rest : Program may A) (events : List Event)
    (result : Result A Status)
    → IsEnd result → Goes (puts_all pieces rest) events result → ThenGoes pieces rest events result
puts_end {may} pieces rest events result ended goes =
    puts_gone pieces rest events result
    (trail_put may events result (λ failed. end_is result _ failed ended)
    (goes_trail (puts_all pieces rest) events result goes)) goes

pub puts_whole :
    (pieces : List (List ℕ)) (s : Status) (own : MayEnd s) (events : List Event) (result : Result (Unit {0}) Status)
    → IsEnd result → Goes {may = quiet} (puts_all pieces (ends s own)) events result → PutsWhole pieces s events result
puts_whole pieces s own events result ended goes =
    elim (puts_ended quiet pieces s own events result goes) [
      | inl whole ↦ whole
      | inr part ↦ absurd (end_is result _ part.result_is ended)
    ]

-- ---- a run, and its lines

pub record RunPuts (lib : Library) (limit : ℕ) (first : Booted) (events : List Event)
    (result : Result (Unit {0}) Status)
    : Type 0 where
  pub turns : List Turn
  pub last : Booted
  pub how : Finish
  pub goes : runs.Goes lib limit first turns last
  pub finishes : Finishes how lib limit turns last
  pub puts : PutsWhole (end_pieces (Some how) (turns_step_count turns) last.state.regs) (finish_status (Some how)) events result

-- the lines by the turns
lines_are :
    (lib : Library) (limit : ℕ) (first : Booted) (r : RunSummary) (run : HasRun lib 0 limit first r)
    → end_pieces (Some r.how) r.steps r.regs ≡ end_pieces (Some r.how) (turns_step_count run.turns) run.last.state.regs
lines_are lib limit first r run =
    let steps : r.steps ≡ turns_step_count run.turns = run.steps ∙ zero-add (turns_step_count run.turns) in
    let regs = run.regs in
    λ i. end_pieces (Some r.how) (steps i) (regs i)

run_ended :
    (lib : Library) (limit : ℕ) (first : Booted) (r : RunSummary) (events : List Event) (result : Result (Unit {0}) Status)
    → IsEnd result → HasRun lib 0 limit first r → Goes (put_summary r) events result
    → RunPuts lib limit first events result
unfolding put_summary
run_ended lib limit first r events result ended run goes = record {
  turns = run.turns;
  last = run.last;
  how = r.how;
  goes = run.made;
  finishes = run.finishes;
  puts = subst (λ l. PutsWhole l (finish_status (Some r.how)) events result) (lines_are lib limit first r run)
      (puts_whole (end_pieces (Some r.how) r.steps r.regs) (finish_status (Some r.how))
      (finish_may_end r.how) events result ended goes);
}

run_split :
    (lib : Library) (limit : ℕ) (first : Booted) (events : List Event) (result : Result (Unit {0}) Status)
    → first.next_event ≡ Step → IsEnd result → Split (run_from lib 0 limit first) put_summary events result
    → RunPuts lib limit first events result
run_split lib limit first events result next ended (inl both) =
    let run = run_goes lib limit 0 first both.first (Ok both.value) next both.begins in
    let same : events ≡ both.more = both.is ∙ ap (λ l. l ++ both.more) run.none in
    run_ended lib limit first both.value events result ended run.run
    (subst (λ e. Goes (put_summary both.value) e result) (sym same) both.goes_on)
run_split lib limit first events result next ended (inr (inl stops)) =
    let run = run_goes lib limit 0 first events (Err stops.status) next stops.goes in
    let memory = run.run in
    absurd (end_is result _ (stops.result_is ∙ ap (λ (s : Status). let failed : Result (Unit {0}) Status = Err s in
    failed) memory) ended)
run_split lib limit first events result next ended (inr (inr across)) =
    absurd (end_is result _ (goes_failed (put_summary across.value) across.rest result across.goes_on) ended)

run_puts :
    (lib : Library) (limit : ℕ) (first : Booted) (events : List Event) (result : Result (Unit {0}) Status)
    → first.next_event ≡ Step → IsEnd result → Goes (run_and_summarise lib limit first) events result
    → RunPuts lib limit first events result
unfolding run_and_summarise
run_puts lib limit first events result next ended goes =
    run_split lib limit first events result next ended
    (goes_split (run_from lib 0 limit first) put_summary events result goes)

-- ---- by the findings

-- What is put after the files for these findings: the lines without findings and those of a run, or the lines of the
-- findings.
abbrev pub PutsFor : List (ℕ × ℕ) → List Set → Library → Booted → List Event → Result (Unit {0}) Status → Type 0
PutsFor [] sets lib first events result = PutsRun sets lib first events result
PutsFor (f ∷ findings) sets lib first events result =
    WritesAndPuts sets (head_pieces (segment_count lib) (f ∷ findings)) AuditNo events result

run_after :
    (sets : List Set) (lib : Library) (first : Booted) (more events : List Event) (result : Result (Unit {0}) Status)
    → events ≡ all_written sets ++ more → ThenGoes (head_pieces (segment_count lib) []) (run_and_summarise lib run_limit first)
    more result
    → ((rest : List Event) → Goes (run_and_summarise lib run_limit first) rest result
    → RunPuts lib run_limit first rest result)
    → PutsRun sets lib first events result
run_after sets lib first more events result is then on =
    let run = on then.more then.goes in
    let head = head_pieces (segment_count lib) [] in
    let tail = end_pieces (Some run.how) (turns_step_count run.turns) run.last.state.regs in
    record {
      turns = run.turns;
      last = run.last;
      how = run.how;
      goes = run.goes;
      finishes = run.finishes;
      puts = record {
        events_are =
            is ∙ ap (λ l. all_written sets ++ l)
            (then.is ∙ ap (λ l. outputs head ++ l) run.puts.events_are ∙ sym (outputs_both head tail));
        result_is = run.puts.result_is;
      };
    }

pub found_puts :
    (findings : List (ℕ × ℕ)) (sets : List Set) (lib : Library) (first : Booted) (more events : List Event)
    (result : Result (Unit {0}) Status)
    → first.next_event ≡ Step → IsEnd result → events ≡ all_written sets ++ more
    → Goes (make_after_audit lib first findings) more result
    → PutsFor findings sets lib first events result
unfolding make_after_audit
found_puts [] sets lib first more events result next ended is goes =
    run_after sets lib first more events result is
    (puts_end (head_pieces (segment_count lib) []) (run_and_summarise lib run_limit first) more result ended goes)
    (λ rest on. run_puts lib run_limit first rest result next ended on)
found_puts (f ∷ findings) sets lib first more events result next ended is goes =
    let whole =
    puts_whole (head_pieces (segment_count lib) (f ∷ findings)) (audit_status false)
    (audit_may_end false) more result ended goes in
    record { events_are = is ∙ ap (λ l. all_written sets ++ l) whole.events_are; result_is = whole.result_is }
