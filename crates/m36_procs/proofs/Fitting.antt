-- Taking a line keeps the invariant `IsReaderInvariant`.
use Rattle.std.proofs.Common.{◌≡◌, ℕ, zero, suc, ◌+◌, ◌<◌, ◌≤◌, Bool, true, false, cond, ◌&&◌, List, [], ◌∷◌, ◌++◌, length, Some, Result, Ok, Err, refl, sym, ap, ◌∙◌, arith}
use Rattle.std.specs.Prelude.{nat_le, nat_lt}
use Rattle.std.proofs.lemmas.Bool.{leb-true, ltb-true, lt-ltb, and_parts, and_from}
use Rattle.std.proofs.lemmas.List.{append-nil}
use Rattle.std.proofs.lemmas.List.Folds.{list_all-append}
use Rattle.m36_model.specs.Registers.{RegsFields}
use Rattle.m36_image.specs.PlacedWords.{PlacedWords}
use Rattle.m36_image.specs.declared.refusal.ImageCode.{ImageCode}
use Rattle.m36_image.specs.LineByLine.{end_of_at_line}
use Rattle.m36_procs.specs.ProcsFields.{TurnsFields}
use Rattle.m36_procs.specs.ProcsFile.{Line, ParseState, may_have_process_line, may_have_at_line, may_end, state_after_at_line, events_with, are_process_numbers, state_after_line}
use Rattle.std.specs.List.{repeat}
use Rattle.m36_procs.specs.ProcsFile.Line.{ProcessLine, TurnsLine, AtLine, OtherLine}
use Rattle.m36_procs.specs.ReaderSays.{parse_state_of, IsReaderInvariant, TookLine}
use Rattle.m36_procs.specs.declared.fault.ProcsCode.{ProcsCode}
use Rattle.m36_procs.specs.declared.fault.ProcsCode.TheVariants.{P1, P2}
use Rattle.m36_procs.specs.declared.reader.Reader.{Reader}
use Rattle.m36_procs.specs.declared.reader.Stage.TheVariants.{Placing, Turning}

-- if a choice between a result and an error is no error, the condition holds and it is the result
was_tested : {A E : Type 0} (b : Bool) (r : Result A E) (e : E) (y : A) → cond b r (Err e) ≡ Ok y → b ≡ true
was_tested true r e y h = refl
was_tested false r e y h = cc

was_chosen : {A E : Type 0} (b : Bool) (r : Result A E) (e : E) (y : A) → cond b r (Err e) ≡ Ok y → r ≡ Ok y
was_chosen true r e y h = h
was_chosen false r e y h = cc

abbrev fine : ParseState → Result ParseState ProcsCode
fine s = Ok s

abbrev refused : ProcsCode → Result ParseState ProcsCode
refused code = Err code

ok_same : (x y : ParseState) → fine x ≡ fine y → x ≡ y
ok_same x y h = cc

was_placed :
    (s y : ParseState) (r : Result ℕ ImageCode)
    → state_after_at_line s r ≡ Ok y → (end : ℕ) × (record s { stage = Placing; next = end } ≡ y)
was_placed s y (Ok end) h = (end, ok_same (record s { stage = Placing; next = end }) y h)
was_placed s y (Err code) h = cc

-- the number of one of `count` processes is that of one of `count + 1`
lt_more : (n count : ℕ) → nat_lt n count ≡ true → nat_lt n (count + 1) ≡ true
lt_more n count e = let below = ltb-true n count e in lt-ltb n (count + 1) (omega arith)

named_more : (numbers : List ℕ) (count : ℕ) → are_process_numbers count numbers ≡ true → are_process_numbers (count + 1) numbers ≡ true
named_more [] count e = refl
named_more (n ∷ numbers) count e =
    let parts = and_parts (nat_lt n count) (are_process_numbers count numbers) e in
    and_from (nat_lt n (count + 1)) (are_process_numbers (count + 1) numbers) (lt_more n count parts.0) (named_more numbers count parts.1)

named_both : (count : ℕ) (front back : List ℕ) → are_process_numbers count front ≡ true → are_process_numbers count back ≡ true → are_process_numbers count (front ++ back) ≡ true
named_both count front back e f =
    list_all-append (λ n. nat_lt n count) front back ∙ and_from (are_process_numbers count front) (are_process_numbers count back) e f

named_repeated : (times count : ℕ) (order : List ℕ) → are_process_numbers count order ≡ true → are_process_numbers count (repeat times order) ≡ true
named_repeated zero count order e = refl
named_repeated (suc times) count order e = named_both count order (repeat times order) e (named_repeated times count order e)

-- the schedule and the count of processes are unchanged
named_still :
    (old new : Reader) (count : ℕ)
    → new.schedule.items ≡ old.schedule.items ++ [] → length new.regs.items ≡ count
    → are_process_numbers count old.schedule.items ≡ true → are_process_numbers (length new.regs.items) new.schedule.items ≡ true
named_still old new count same counted e =
    ap (are_process_numbers (length new.regs.items)) (same ∙ append-nil old.schedule.items) ∙ ap (λ n. are_process_numbers n old.schedule.items) counted ∙ e

kept_process : (old new : Reader) (g : RegsFields) → IsReaderInvariant old → TookLine old new (ProcessLine g) → IsReaderInvariant new
unfolding state_after_line
kept_process old new g fits took =
    let s : ParseState = parse_state_of old in
    let next : ParseState = record s { processes = s.processes + 1 } in
    let test : may_have_process_line s.stage && nat_lt s.processes 8 ≡ true = was_tested (may_have_process_line s.stage && nat_lt s.processes 8) (Ok next) P1 (parse_state_of new) took.stands in
    let is : next ≡ parse_state_of new = ok_same next (parse_state_of new) (was_chosen (may_have_process_line s.stage && nat_lt s.processes 8) (Ok next) P1 (parse_state_of new) took.stands) in
    let counted : length new.regs.items ≡ length old.regs.items + 1 = sym (ap (λ (t : ParseState). t.processes) is) in
    let events : length new.schedule.items ≡ length old.schedule.items = sym (ap (λ (t : ParseState). t.events) is) in
    let below : length old.regs.items < 8 = ltb-true (length old.regs.items) 8 (and_parts (may_have_process_line s.stage) (nat_lt s.processes 8) test).1 in
    record {
      are = record {
        few = omega (arith, counted, below);
        short = omega (arith, events, fits.are.short);
        named = named_still old new (length old.regs.items + 1) took.schedule counted (named_more old.schedule.items (length old.regs.items) fits.are.named);
      };
      some = λ e. omega (arith, counted);
    }

kept_words : (old new : Reader) (p : PlacedWords) → IsReaderInvariant old → TookLine old new (AtLine p) → IsReaderInvariant new
unfolding state_after_line
kept_words old new p fits took =
    let s : ParseState = parse_state_of old in
    let placed = was_placed s (parse_state_of new) (end_of_at_line s.size s.next (Some p)) (was_chosen (may_have_at_line s.stage && nat_lt 0 s.processes) (state_after_at_line s (end_of_at_line s.size s.next (Some p))) P1 (parse_state_of new) took.stands) in
    let counted : length new.regs.items ≡ length old.regs.items = sym (ap (λ (t : ParseState). t.processes) placed.1) in
    let events : length new.schedule.items ≡ length old.schedule.items = sym (ap (λ (t : ParseState). t.events) placed.1) in
    let stage : false ≡ may_end new.stage = ap (λ (t : ParseState). may_end t.stage) placed.1 in
    record {
      are = record {
        few = omega (arith, counted, fits.are.few);
        short = omega (arith, events, fits.are.short);
        named = named_still old new (length old.regs.items) took.schedule counted fits.are.named;
      };
      some = λ e. no_end (stage ∙ e);
    }
  where
    no_end : {P : Type 0} → false ≡ true → P
    no_end e = cc

kept_turns : (old new : Reader) (t : TurnsFields) → IsReaderInvariant old → TookLine old new (TurnsLine t) → IsReaderInvariant new
unfolding state_after_line
kept_turns old new t fits took =
    let s : ParseState = parse_state_of old in
    let next : ParseState = record s { stage = Turning; events = events_with s.events t } in
    let test : nat_lt 0 s.processes && nat_le (events_with s.events t) 10000000 ≡ true = was_tested (nat_lt 0 s.processes && nat_le (events_with s.events t) 10000000) (cond (are_process_numbers s.processes t.order) (Ok next) (Err P2)) P1 (parse_state_of new) took.stands in
    let inner = was_chosen (nat_lt 0 s.processes && nat_le (events_with s.events t) 10000000) (cond (are_process_numbers s.processes t.order) (Ok next) (Err P2)) P1 (parse_state_of new) took.stands in
    let named : are_process_numbers (length old.regs.items) t.order ≡ true = was_tested (are_process_numbers s.processes t.order) (Ok next) P2 (parse_state_of new) inner in
    let is : next ≡ parse_state_of new = ok_same next (parse_state_of new) (was_chosen (are_process_numbers s.processes t.order) (Ok next) P2 (parse_state_of new) inner) in
    let counted : length new.regs.items ≡ length old.regs.items = sym (ap (λ (u : ParseState). u.processes) is) in
    let events : length new.schedule.items ≡ events_with s.events t = sym (ap (λ (u : ParseState). u.events) is) in
    let most : events_with s.events t ≤ 10000000 = leb-true (events_with s.events t) 10000000 (and_parts (nat_lt 0 s.processes) (nat_le (events_with s.events t) 10000000) test).1 in
    let some : 0 < length old.regs.items = ltb-true 0 (length old.regs.items) (and_parts (nat_lt 0 s.processes) (nat_le (events_with s.events t) 10000000) test).0 in
    record {
      are = record {
        few = omega (arith, counted, fits.are.few);
        short = rw events most;
        named = ap (are_process_numbers (length new.regs.items)) took.schedule ∙ ap (λ n. are_process_numbers n (old.schedule.items ++ repeat t.times t.order)) counted ∙ named_both (length old.regs.items) old.schedule.items (repeat t.times t.order) fits.are.named (named_repeated t.times (length old.regs.items) t.order named);
      };
      some = λ e. omega (arith, counted, some);
    }

kept_other : (old new : Reader) → TookLine old new OtherLine → IsReaderInvariant new
unfolding state_after_line
kept_other old new took = no_line took.stands
  where
    no_line : {P : Type 0} → refused P1 ≡ fine (parse_state_of new) → P
    no_line e = cc

pub fits_kept : (line : Line) (old new : Reader) → IsReaderInvariant old → TookLine old new line → IsReaderInvariant new
fits_kept (ProcessLine g) old new fits took = kept_process old new g fits took
fits_kept (AtLine p) old new fits took = kept_words old new p fits took
fits_kept (TurnsLine t) old new fits took = kept_turns old new t fits took
fits_kept OtherLine old new fits took = kept_other old new took
