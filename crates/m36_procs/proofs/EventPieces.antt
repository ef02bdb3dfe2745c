-- The pieces of a run of a schedule, event by event: what is left of them.
use Rattle.std.proofs.Common.{◌≡◌, ℕ, ◌+◌, List, [], ◌∷◌, ◌++◌, length, Option, sym, ap, subst, ◌∙◌, arith}
use Rattle.std.proofs.lemmas.List.{nil_from_length}
use Rattle.m36_outside.specs.Gathered.{Gathers, FailsPartway, Adds}
use Rattle.m36_outside.specs.Passing.{joined, TakesSome, TakesLines}
use Rattle.m36_outside.specs.Put.{PutResult}
use Rattle.m36_outside.specs.declared.sink.Put.{Put}
use Rattle.m36_outside.proofs.Gathered.{lines_added, lines_lost}
use Rattle.m36_outside.proofs.LinesTaken.{CompletesLines, completes_lines_all, completes_lines_whole, completes_lines_cut_last}
use Rattle.m36_model.specs.Core.{core_store}
use Rattle.m36_model.specs.Schedule.{Processes, process_of, processes_after}
use Rattle.m36_model.specs.Step.{record_of}
use Rattle.m36_model.specs.declared.record.StepRecord.{StepRecord}
use Rattle.m36_procs.specs.EventResult.{EventResult, IsEvent}
use Rattle.m36_procs.specs.ScheduleText.{event_line, end_line, pieces_from, schedule_pieces}
use Rattle.m36_procs.proofs.EventsRun.{pieces_first, pieces_last, get_of, next_named, Runs}

-- A line was added to a block.
pub line_adds :
    (answer : Put) (written written' : Option (List ℕ)) (taken taken' old new : List (List ℕ)) (line lent : List ℕ)
    → lent ≡ line → Adds answer old new (lent ∷ []) written written' taken taken'
    → Adds answer old new (line ∷ []) written written' taken taken'
line_adds answer written written' taken taken' old new line lent is added =
    subst (λ l. Adds answer old new (l ∷ []) written written' taken taken') is added

-- The last line was added and the block was handed over.
pub last_says :
    (answer : Put) (written written' : Option (List ℕ)) (old : List (List ℕ)) (line lent : List ℕ)
    → lent ≡ line → PutResult answer written written' (joined (old ++ lent ∷ []))
    → PutResult answer written written' (joined (old ++ line ∷ []))
last_says answer written written' old line lent is said =
    subst (λ l. PutResult answer written written' (joined (old ++ l ∷ []))) is said

pub last_takes :
    (answer : Put) (taken taken' old : List (List ℕ)) (line lent : List ℕ)
    → lent ≡ line → TakesLines answer taken taken' (old ++ lent ∷ []) → TakesLines answer taken taken' (old ++ line ∷ [])
last_takes answer taken taken' old line lent is took =
    subst (λ l. TakesLines answer taken taken' (old ++ l ∷ [])) is took

pub ruleset one_line = (line_adds, last_says, last_takes)

-- at the beginning all pieces are left
pub pieces_start :
    (all : List ℕ) (first : Processes (List ℕ)) (start gathered : List (List ℕ))
    → gathered ≡ [] → CompletesLines start start (gathered ++ pieces_from (length all) 1 all first) (schedule_pieces all first)
unfolding schedule_pieces
pieces_start all first start gathered none =
    subst (λ l. CompletesLines start start (l ++ pieces_from (length all) 1 all first) (schedule_pieces all first)) (sym none)
    (completes_lines_all start (pieces_from (length all) 1 all first))

-- an event was made, and its line was added
pub pieces_more :
    (all : List ℕ) (first : Processes (List ℕ)) (before after later : Option (List ℕ)) (start now next gathered gathered' : List (List ℕ)) (n i : ℕ) (left more : List ℕ) (s new : Processes (List ℕ)) (told : StepRecord)
    → Runs all first before after gathered n left s
    → CompletesLines now start (gathered ++ pieces_from (length all) (n + 1) left s) (schedule_pieces all first)
    → left ≡ i ∷ more
    → EventResult i s new told
    → Gathers gathered gathered' (event_line (n + 1) i told ∷ []) after later now next
    → CompletesLines next start (gathered' ++ pieces_from (length all) (n + 1 + 1) more new) (schedule_pieces all first)
pieces_more all first before after later start now next gathered gathered' n i left more s new told so_far pieces begins says added =
    let own = get_of s.regs i (next_named (length s.regs) i left more so_far.named begins) in
    let is : IsEvent i s new told own.0 = says own.0 own.1 in
    let line : event_line (n + 1) i told ≡ event_line (n + 1) i (record_of core_store (process_of s own.0)) = ap (event_line (n + 1) i) is.told_is in
    let here : pieces_from (length all) (n + 1) left s ≡ event_line (n + 1) i told ∷ pieces_from (length all) (n + 1 + 1) more new = ap (λ l. pieces_from (length all) (n + 1) l s) begins ∙ pieces_first (length all) (n + 1) i more s own.0 own.1 ∙ ap (λ l. l ∷ pieces_from (length all) (n + 1 + 1) more (processes_after core_store s i own.0)) (sym line) ∙ ap (λ p. event_line (n + 1) i told ∷ pieces_from (length all) (n + 1 + 1) more p) (sym is.state) in
    lines_added after later now next start gathered gathered' (event_line (n + 1) i told) (pieces_from (length all) (n + 1) left s) (pieces_from (length all) (n + 1 + 1) more new) (schedule_pieces all first) pieces here added

-- the line of an event, or one before it, was not taken whole
pub pieces_cut :
    (all : List ℕ) (first : Processes (List ℕ)) (before after later : Option (List ℕ)) (start now new gathered : List (List ℕ)) (n i : ℕ) (left more : List ℕ) (s s' : Processes (List ℕ)) (told : StepRecord)
    → Runs all first before after gathered n left s
    → CompletesLines now start (gathered ++ pieces_from (length all) (n + 1) left s) (schedule_pieces all first)
    → left ≡ i ∷ more
    → EventResult i s s' told
    → FailsPartway (gathered ++ event_line (n + 1) i told ∷ []) after later now new
    → TakesSome start new (schedule_pieces all first)
pieces_cut all first before after later start now new gathered n i left more s s' told so_far pieces begins says lost =
    let own = get_of s.regs i (next_named (length s.regs) i left more so_far.named begins) in
    let is : IsEvent i s s' told own.0 = says own.0 own.1 in
    let line : event_line (n + 1) i told ≡ event_line (n + 1) i (record_of core_store (process_of s own.0)) = ap (event_line (n + 1) i) is.told_is in
    let here : pieces_from (length all) (n + 1) left s ≡ event_line (n + 1) i told ∷ pieces_from (length all) (n + 1 + 1) more (processes_after core_store s i own.0) = ap (λ l. pieces_from (length all) (n + 1) l s) begins ∙ pieces_first (length all) (n + 1) i more s own.0 own.1 ∙ ap (λ l. l ∷ pieces_from (length all) (n + 1 + 1) more (processes_after core_store s i own.0)) (sym line) in
    lines_lost after later now new start gathered (event_line (n + 1) i told) (pieces_from (length all) (n + 1) left s) (pieces_from (length all) (n + 1 + 1) more (processes_after core_store s i own.0)) (schedule_pieces all first) pieces here lost

-- all events were made: the last line is left
pieces_ended :
    (all : List ℕ) (first : Processes (List ℕ)) (before after : Option (List ℕ)) (start now gathered : List (List ℕ)) (n : ℕ) (left : List ℕ) (s : Processes (List ℕ))
    → Runs all first before after gathered n left s
    → CompletesLines now start (gathered ++ pieces_from (length all) (n + 1) left s) (schedule_pieces all first)
    → left ≡ [] → CompletesLines now start (gathered ++ end_line n ∷ []) (schedule_pieces all first)
pieces_ended all first before after start now gathered n left s so_far pieces none =
    let total : length all ≡ n = omega (arith, so_far.count, ap length none) in
    let last : pieces_from (length all) (n + 1) left s ≡ end_line n ∷ [] = ap (λ l. pieces_from (length all) (n + 1) l s) none ∙ pieces_last (length all) (n + 1) s ∙ ap (λ m. end_line m ∷ []) total in
    subst (λ t. CompletesLines now start (gathered ++ t) (schedule_pieces all first)) last pieces

pub pieces_done :
    (all : List ℕ) (first : Processes (List ℕ)) (before after : Option (List ℕ)) (start now new gathered : List (List ℕ)) (n : ℕ) (left : List ℕ) (s : Processes (List ℕ))
    → Runs all first before after gathered n left s
    → CompletesLines now start (gathered ++ pieces_from (length all) (n + 1) left s) (schedule_pieces all first)
    → length left ≡ 0 → new ≡ now ++ (gathered ++ end_line n ∷ []) → new ≡ start ++ schedule_pieces all first
pieces_done all first before after start now new gathered n left s so_far pieces empty took =
    completes_lines_whole now new start (gathered ++ end_line n ∷ []) (schedule_pieces all first) (pieces_ended all first before after start now gathered n left s so_far pieces (nil_from_length left empty)) took

pub pieces_cut_last :
    (all : List ℕ) (first : Processes (List ℕ)) (before after : Option (List ℕ)) (start now new gathered : List (List ℕ)) (n : ℕ) (left : List ℕ) (s : Processes (List ℕ))
    → Runs all first before after gathered n left s
    → CompletesLines now start (gathered ++ pieces_from (length all) (n + 1) left s) (schedule_pieces all first)
    → length left ≡ 0 → TakesSome now new (gathered ++ end_line n ∷ []) → TakesSome start new (schedule_pieces all first)
pieces_cut_last all first before after start now new gathered n left s so_far pieces empty cut =
    completes_lines_cut_last now new start (gathered ++ end_line n ∷ []) (schedule_pieces all first) (pieces_ended all first before after start now gathered n left s so_far pieces (nil_from_length left empty)) cut

pub ruleset running = (pieces_start, pieces_more, pieces_cut, pieces_done, pieces_cut_last)
