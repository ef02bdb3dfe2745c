-- The result of taking a line, for each form of the line.
use Rattle.std.proofs.Common.{◌≡◌, ℕ, zero, suc, ◌*◌, ◌<◌, ◌≤◌, Bool, true, false, cond, ◌&&◌, List, length, Option, Result, Ok, Err, refl, sym, ap, ◌∙◌, arith, length-append}
use Rattle.std.specs.Prelude.{nat_le, nat_lt}
use Rattle.std.proofs.lemmas.Bool.{le-leb, lt-ltb}
use Rattle.m36_image.specs.PlacedWords.{PlacedWords}
use Rattle.m36_image.specs.LineByLine.{end_of_at_line}
use Rattle.m36_procs.specs.ProcsFields.{TurnsFields}
use Rattle.m36_procs.specs.ProcsFile.{ParseState, state_after_line, state_after_at_line, events_with, are_process_numbers}
use Rattle.std.specs.List.{repeat}
use Rattle.m36_procs.specs.ProcsFile.Line.{TurnsLine}
use Rattle.m36_procs.specs.declared.fault.ProcsCode.{ProcsCode}
use Rattle.m36_procs.specs.declared.fault.ProcsCode.TheVariants.{P1, P2}
use Rattle.m36_procs.specs.declared.reader.Stage.TheVariants.{Turning}

abbrev pub in_order : ParseState → ℕ → Result ParseState ProcsCode
in_order s n = Ok (record s { stage = Turning; events = n })

-- `times` turns of these processes make `times` times their number of events
pub length-repeated : (times : ℕ) (order : List ℕ) → length (repeat times order) ≡ times * length order
length-repeated zero order = omega arith
length-repeated (suc times) order =
    length-append order (repeat times order) ∙ omega (arith, length-repeated times order)

pub few_events : (times count : ℕ) → times ≤ 1000000 → count ≤ 16 → times * count ≤ 16000000
few_events times count a b = grind arith

chosen : {A : Type 0} (a b c : Bool) (x y z : A) → a ≡ true → b ≡ true → c ≡ true → cond (a && b) (cond c x y) z ≡ x
chosen a b c x y z i j k = rw (i, j, k)

-- a `turns` line is taken
pub turns_taken :
    (s : ParseState) (t : TurnsFields) (events : ℕ)
    → 0 < s.processes → events_with s.events t ≤ 10000000 → are_process_numbers s.processes t.order ≡ true → events ≡ events_with s.events t
    → state_after_line s (TurnsLine t) ≡ Ok (record s { stage = Turning; events = events })
unfolding state_after_line
turns_taken s t events some most named count =
    chosen (nat_lt 0 s.processes) (nat_le (events_with s.events t) 10000000) (are_process_numbers s.processes t.order) (Ok (record s { stage = Turning; events = events_with s.events t })) (Err P2) (Err P1) (lt-ltb 0 s.processes some) (le-leb (events_with s.events t) 10000000 most) named ∙ ap (λ n. in_order s n) (sym count)

-- a line that is neither a `process` nor a `turns` line, if an `at` line may follow
pub words_judged :
    (s : ParseState) (o : Option PlacedWords) (b : Bool)
    → b ≡ true
    → cond b (state_after_at_line s (end_of_at_line s.size s.next o)) (Err P1) ≡ state_after_at_line s (end_of_at_line s.size s.next o)
words_judged s o true e = refl
words_judged s o false e = cc

pub ruleset taking = (few_events, words_judged)
