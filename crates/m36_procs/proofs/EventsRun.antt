-- A run of a schedule, event by event: what is left of its text, and the state of the processes.
use Rattle.std.proofs.Common.{◌≡◌, ℕ, zero, suc, ◌+◌, ◌<◌, true, List, [], ◌∷◌, ◌++◌, length, Option, Some, refl, sym, ap, subst, ◌∙◌, arith, append_assoc}
use Rattle.std.specs.Prelude.{slice_get, nat_lt}
use Rattle.std.proofs.lemmas.Bool.{and_parts, ltb-true}
use Rattle.std.proofs.lemmas.List.{append-nil, nil_from_length}
use Rattle.m36_outside.specs.Gathered.{Gathers, FailsPartway}
use Rattle.m36_outside.specs.Passing.{joined}
use Rattle.m36_outside.specs.Written.{Grew, GrewWithin}
use Rattle.m36_outside.proofs.Completes.{Completes, completes_all}
use Rattle.m36_outside.proofs.Gathered.{completes_added, completes_lost, completes_finished, completes_finished_cut}
use Rattle.m36_model.specs.Core.{core_store}
use Rattle.m36_model.specs.Registers.{RegsFields}
use Rattle.m36_model.specs.Schedule.{Processes, Event, process_of, processes_after, event, events, events_by}
use Rattle.m36_model.specs.Step.{record_of}
use Rattle.m36_model.specs.declared.record.StepRecord.{StepRecord}
use Rattle.m36_procs.specs.EventResult.{EventResult, IsEvent}
use Rattle.m36_procs.specs.ProcsFile.{are_process_numbers}
use Rattle.m36_procs.specs.RunResult.{IsRun, IsPartRun}
use Rattle.m36_procs.specs.ScheduleText.{event_line, event_pieces, end_line, pieces_from, schedule_pieces, schedule_text, state_after_events, last_state}

-- the events of a schedule that begins with a process
pub events_first :
    (i : ℕ) (schedule : List ℕ) (s : Processes (List ℕ)) (g : RegsFields)
    → slice_get s.regs i ≡ Some g
    → events core_store (i ∷ schedule) s ≡ event core_store s i g ∷ events core_store schedule (processes_after core_store s i g)
unfolding events
events_first i schedule s g there = ap (λ o. events_by core_store s i o (events core_store schedule)) there

last_first :
    (i : ℕ) (schedule : List ℕ) (s : Processes (List ℕ)) (g : RegsFields)
    → slice_get s.regs i ≡ Some g → last_state (i ∷ schedule) s ≡ last_state schedule (processes_after core_store s i g)
unfolding last_state
last_first i schedule s g there = ap (state_after_events s) (events_first i schedule s g there)

-- the pieces of a schedule that begins with a process
piece_first :
    (n : ℕ) (e : Event (List ℕ)) (more : List (Event (List ℕ)))
    → event_pieces n (e ∷ more) ≡ event_line n e.process e.told ∷ event_pieces (n + 1) more
unfolding event_pieces
piece_first n e more = refl

pub pieces_first :
    (total n i : ℕ) (schedule : List ℕ) (s : Processes (List ℕ)) (g : RegsFields)
    → slice_get s.regs i ≡ Some g
    → pieces_from total n (i ∷ schedule) s
    ≡ event_line n i (record_of core_store (process_of s g)) ∷ pieces_from total (n + 1) schedule (processes_after core_store s i g)
pieces_first total n i schedule s g there =
    ap (λ e. event_pieces n e ++ end_line total ∷ []) (events_first i schedule s g there)
    ∙ ap (λ t. t ++ end_line total ∷ []) (piece_first n (event core_store s i g) (events core_store schedule (processes_after core_store s i g)))

pub pieces_last : (total n : ℕ) (s : Processes (List ℕ)) → pieces_from total n [] s ≡ end_line total ∷ []
unfolding events event_pieces
pieces_last total n s = refl

-- the text of the pieces that are left
abbrev pub text_from : ℕ → ℕ → List ℕ → Processes (List ℕ) → List ℕ
text_from total n schedule s = joined (pieces_from total n schedule s)

text_first :
    (total n i : ℕ) (schedule : List ℕ) (s : Processes (List ℕ)) (g : RegsFields)
    → slice_get s.regs i ≡ Some g
    → text_from total n (i ∷ schedule) s
    ≡ event_line n i (record_of core_store (process_of s g)) ++ text_from total (n + 1) schedule (processes_after core_store s i g)
text_first total n i schedule s g there = ap joined (pieces_first total n i schedule s g there)

text_last : (total n : ℕ) (s : Processes (List ℕ)) → text_from total n [] s ≡ end_line total
text_last total n s = ap joined (pieces_last total n s) ∙ append-nil (end_line total)

last_last : (s : Processes (List ℕ)) → last_state [] s ≡ s
unfolding last_state events
last_last s = refl

-- A run of the schedule `all` from state `first` has made n events and reached state s. `left` is left of the schedule,
-- and its events from s are those that follow the ones made. The text written since `start`, the lines gathered in the
-- block and the text that is left are the whole text.
pub record Runs (all : List ℕ) (first : Processes (List ℕ)) (start now : Option (List ℕ)) (gathered : List (List ℕ)) (n : ℕ) (left : List ℕ) (s : Processes (List ℕ)) : Type 0 where
  pub text : Completes now start (joined gathered ++ text_from (length all) (n + 1) left s) (schedule_text all first)
  pub made : List ℕ
  pub all_is : all ≡ made ++ left
  pub further : (rest : List ℕ) → last_state (made ++ rest) first ≡ last_state rest s
  pub count : n + length left ≡ length all
  pub named : are_process_numbers (length s.regs) left ≡ true
  pub regs : length s.regs ≡ length first.regs

pub runs_start :
    (all : List ℕ) (first : Processes (List ℕ)) (start : Option (List ℕ)) (gathered : List (List ℕ))
    → are_process_numbers (length first.regs) all ≡ true → gathered ≡ [] → Runs all first start start gathered 0 all first
unfolding schedule_text schedule_pieces
runs_start all first start gathered named none = subst (λ l. Runs all first start start l 0 all first) (sym none) (record {
  text = completes_all start (text_from (length all) 1 all first);
  made = [];
  all_is = refl;
  further = λ rest. refl;
  count = omega arith;
  named = named;
  regs = refl;
})

-- the next number is that of a process
pub next_named : (count i : ℕ) (left more : List ℕ) → are_process_numbers count left ≡ true → left ≡ i ∷ more → i < count
next_named count i left more named begins =
    ltb-true i count (and_parts (nat_lt i count) (are_process_numbers count more) (ap (are_process_numbers count) (sym begins) ∙ named)).0

pub get_of : {A : Type 0} (xs : List A) (i : ℕ) → i < length xs → (x : A) × (slice_get xs i ≡ Some x)
get_of [] i within = absurd (omega arith)
get_of (x ∷ xs) zero within = (x, refl)
get_of (x ∷ xs) (suc i) within = get_of xs i (omega arith)

-- an event was made: the state is that after one more number of the schedule
made_more :
    (made : List ℕ) (i : ℕ) (first s new : Processes (List ℕ)) (told : StepRecord) (g : RegsFields)
    → ((rest : List ℕ) → last_state (made ++ rest) first ≡ last_state rest s)
    → slice_get s.regs i ≡ Some g
    → IsEvent i s new told g
    → (rest : List ℕ)
    → last_state ((made ++ i ∷ []) ++ rest) first ≡ last_state rest new
made_more made i first s new told g further there is rest =
    ap (λ l. last_state l first) (append_assoc made (i ∷ []) rest) ∙ further (i ∷ rest) ∙ last_first i rest s g there ∙ ap (last_state rest) (sym is.state)

all_more : (all made : List ℕ) (i : ℕ) (left more : List ℕ) → all ≡ made ++ left → left ≡ i ∷ more → all ≡ (made ++ i ∷ []) ++ more
all_more all made i left more is begins = is ∙ ap (λ l. made ++ l) begins ∙ sym (append_assoc made (i ∷ []) more)

-- the state is that after the events that were made
stand_behind :
    (made : List ℕ) (first s : Processes (List ℕ))
    → ((rest : List ℕ) → last_state (made ++ rest) first ≡ last_state rest s) → s ≡ last_state made first
stand_behind made first s further = sym (last_last s) ∙ sym (further []) ∙ ap (λ l. last_state l first) (append-nil made)

-- the line of the event is added
pub runs_more :
    (all : List ℕ) (first : Processes (List ℕ)) (start now next : Option (List ℕ)) (pieces pieces' gathered gathered' : List (List ℕ)) (n i : ℕ) (left more : List ℕ) (s new : Processes (List ℕ)) (told : StepRecord)
    → Runs all first start now gathered n left s
    → left ≡ i ∷ more
    → EventResult i s new told
    → length new.regs ≡ length s.regs
    → Gathers gathered gathered' (event_line (n + 1) i told ∷ []) now next pieces pieces'
    → Runs all first start next gathered' (n + 1) more new
runs_more all first start now next pieces pieces' gathered gathered' n i left more s new told so_far begins says count added =
    let own = get_of s.regs i (next_named (length s.regs) i left more so_far.named begins) in
    let is : IsEvent i s new told own.0 = says own.0 own.1 in
    let line : event_line (n + 1) i told ≡ event_line (n + 1) i (record_of core_store (process_of s own.0)) = ap (event_line (n + 1) i) is.told_is in
    let here : text_from (length all) (n + 1) left s ≡ event_line (n + 1) i told ++ text_from (length all) (n + 1 + 1) more new = ap (λ l. text_from (length all) (n + 1) l s) begins ∙ text_first (length all) (n + 1) i more s own.0 own.1 ∙ ap (λ l. l ++ text_from (length all) (n + 1 + 1) more (processes_after core_store s i own.0)) (sym line) ∙ ap (λ p. event_line (n + 1) i told ++ text_from (length all) (n + 1 + 1) more p) (sym is.state) in
    record {
      text = completes_added now next start pieces pieces' gathered gathered' (event_line (n + 1) i told) (text_from (length all) (n + 1) left s) (text_from (length all) (n + 1 + 1) more new) (schedule_text all first) so_far.text here added;
      made = so_far.made ++ i ∷ [];
      all_is = all_more all so_far.made i left more so_far.all_is begins;
      further = made_more so_far.made i first s new told own.0 so_far.further own.1 is;
      count = omega (arith, so_far.count, ap length begins);
      named = ap (λ k. are_process_numbers k more) count ∙ (and_parts (nat_lt i (length s.regs)) (are_process_numbers (length s.regs) more) (ap (are_process_numbers (length s.regs)) (sym begins) ∙ so_far.named)).1;
      regs = count ∙ so_far.regs;
    }

-- the line of an event, or one before it, was not written whole
pub runs_cut :
    (all : List ℕ) (first : Processes (List ℕ)) (start now next : Option (List ℕ)) (pieces pieces' gathered : List (List ℕ)) (n i : ℕ) (left more : List ℕ) (s new : Processes (List ℕ)) (told : StepRecord)
    → Runs all first start now gathered n left s
    → left ≡ i ∷ more
    → EventResult i s new told
    → FailsPartway (gathered ++ event_line (n + 1) i told ∷ []) now next pieces pieces'
    → IsPartRun all first new start next
runs_cut all first start now next pieces pieces' gathered n i left more s new told so_far begins says lost =
    let own = get_of s.regs i (next_named (length s.regs) i left more so_far.named begins) in
    let is : IsEvent i s new told own.0 = says own.0 own.1 in
    let line : event_line (n + 1) i told ≡ event_line (n + 1) i (record_of core_store (process_of s own.0)) = ap (event_line (n + 1) i) is.told_is in
    let here : text_from (length all) (n + 1) left s ≡ event_line (n + 1) i told ++ text_from (length all) (n + 1 + 1) more (processes_after core_store s i own.0) = ap (λ l. text_from (length all) (n + 1) l s) begins ∙ text_first (length all) (n + 1) i more s own.0 own.1 ∙ ap (λ l. l ++ text_from (length all) (n + 1 + 1) more (processes_after core_store s i own.0)) (sym line) in
    record {
      made = so_far.made ++ i ∷ [];
      rest = more;
      schedule_is = all_more all so_far.made i left more so_far.all_is begins;
      state = stand_behind (so_far.made ++ i ∷ []) first new (made_more so_far.made i first s new told own.0 so_far.further own.1 is);
      grew = completes_lost now next start pieces pieces' gathered (event_line (n + 1) i told) (text_from (length all) (n + 1) left s) (text_from (length all) (n + 1 + 1) more (processes_after core_store s i own.0)) (schedule_text all first) so_far.text here lost;
    }

ended_text :
    (all : List ℕ) (first : Processes (List ℕ)) (start now : Option (List ℕ)) (gathered : List (List ℕ)) (n : ℕ) (left : List ℕ) (s : Processes (List ℕ))
    → Runs all first start now gathered n left s → left ≡ [] → Completes now start (joined gathered ++ end_line n) (schedule_text all first)
ended_text all first start now gathered n left s so_far none =
    let total : length all ≡ n = omega (arith, so_far.count, ap length none) in
    let text : text_from (length all) (n + 1) left s ≡ end_line n = ap (λ l. text_from (length all) (n + 1) l s) none ∙ text_last (length all) (n + 1) s ∙ ap end_line total in
    subst (λ t. Completes now start (joined gathered ++ t) (schedule_text all first)) text so_far.text

-- all events were made, and the last line was put
pub runs_done :
    (all : List ℕ) (first : Processes (List ℕ)) (start now next : Option (List ℕ)) (gathered : List (List ℕ)) (n : ℕ) (left : List ℕ) (s : Processes (List ℕ))
    → Runs all first start now gathered n left s → length left ≡ 0 → Grew now next (joined (gathered ++ end_line n ∷ [])) → IsRun all first s start next
runs_done all first start now next gathered n left s so_far empty grew =
    let none : left ≡ [] = nil_from_length left empty in
    record {
      state = sym (last_last s) ∙ ap (λ l. last_state l s) (sym none) ∙ sym (so_far.further left) ∙ ap (λ l. last_state l first) (sym so_far.all_is);
      grew = completes_finished now next start gathered (end_line n) (schedule_text all first) (ended_text all first start now gathered n left s so_far none) grew;
    }

pub runs_cut_last :
    (all : List ℕ) (first : Processes (List ℕ)) (start now next : Option (List ℕ)) (gathered : List (List ℕ)) (n : ℕ) (left : List ℕ) (s : Processes (List ℕ))
    → Runs all first start now gathered n left s → length left ≡ 0 → GrewWithin now next (joined (gathered ++ end_line n ∷ [])) → IsPartRun all first s start next
runs_cut_last all first start now next gathered n left s so_far empty cut = record {
  made = so_far.made;
  rest = left;
  schedule_is = so_far.all_is;
  state = stand_behind so_far.made first s so_far.further;
  grew = completes_finished_cut now next start gathered (end_line n) (schedule_text all first) (ended_text all first start now gathered n left s so_far (nil_from_length left empty)) cut;
}

pub ruleset running = (runs_start, next_named, runs_more, runs_cut, runs_done, runs_cut_last)
