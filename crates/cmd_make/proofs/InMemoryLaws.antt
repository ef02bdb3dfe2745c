-- A reader whose files are in memory: it has no events, and ends as the reader does over these files.
use Rattle.std.proofs.Common.{◌≡◌, ◌⊎◌, ℕ, List, [], Some, Result, Ok, Err, refl, sym, ap, subst, inl, inr, arith}
use Rattle.m36_outside.specs.Counts.{Rose}
use Rattle.m36_outside.specs.Files.{Files}
use Rattle.m36_world.specs.Seen.{Seen}
use Rattle.m36_world.specs.declared.event.Event.{Event}
use Rattle.m36_status.specs.declared.status.Status.{Status}
use Rattle.m36_status.specs.declared.status.Status.TheVariants.{NoMemory}
use Rattle.m36_program.specs.Alike.{IsEnd}
use Rattle.m36_program.specs.Ended.{NoneRose}
use Rattle.m36_program.specs.Found.{found_in}
use Rattle.m36_program.specs.Goes.{Goes}
use Rattle.m36_program.specs.Performs.{Performs}
use Rattle.m36_program.specs.Program.{May, Program, done, stops, reads, writes, puts, takes, some, wants}
use Rattle.m36_program.specs.Reader.{IsReader, reader_result}
use Rattle.m36_program.proofs.ReaderLaws.{reader_outcome, performs_unless}
use Rattle.cmd_make.specs.InMemory.{in_memory}

pub in_memory_reader :
    {may : May} {A : Type 0} (files : Files) (p : Program may A) → IsReader p → IsReader (in_memory files p)
unfolding IsReader in_memory
in_memory_reader files (done a) is = tt
in_memory_reader files (stops s own) is = tt
in_memory_reader files (reads name go) is =
    in_memory_reader files (go (found_in (files name))) (is (found_in (files name)))
in_memory_reader files (writes allowed name content p) is = absurd is
in_memory_reader files (puts piece p) is = absurd is
in_memory_reader files (takes allowed go) is = absurd is
in_memory_reader files (some Is go) is = is
in_memory_reader files (wants p) is = in_memory_reader files p is

-- ---- its results

-- There are no events. Memory ran out, or the result is that of the reader over the files.
abbrev pub EndsInMemory :
    {may : May} {A : Type 0} → Files → Program may A → List Event → Result A Status → Type 0
EndsInMemory files p events result = (events ≡ []) × ((result ≡ Err NoMemory) ⊎ (reader_result files p ≡ Some result))

pub in_memory_ends :
    {may : May} {A : Type 0} (files : Files) (p : Program may A) (events : List Event) (result : Result A Status)
    → IsReader p → Goes (in_memory files p) events result → EndsInMemory files p events result
unfolding Goes IsReader in_memory reader_result
in_memory_ends files (done a) events result is goes = (goes.none, inr (ap (λ r. Some r) (sym goes.result_is)))
in_memory_ends files (stops s own) events result is goes = (goes.none, inr (ap (λ r. Some r) (sym goes.result_is)))
in_memory_ends files (reads name go) events result is (inl goes) =
    in_memory_ends files (go (found_in (files name))) events result (is (found_in (files name))) goes
in_memory_ends files (reads name go) events result is (inr ends) = (ends.none, inl ends.result_is)
in_memory_ends files (writes allowed name content p) events result is goes = absurd is
in_memory_ends files (puts piece p) events result is goes = absurd is
in_memory_ends files (takes allowed go) events result is goes = absurd is
in_memory_ends files (some Is go) events result is goes = absurd (is goes.value goes.is)
in_memory_ends files (wants p) events result is (inl goes) = in_memory_ends files p events result is goes
in_memory_ends files (wants p) events result is (inr ends) = (ends.none, inl ends.result_is)

same_outcome : {A : Type 0} (a b : Result A Status) → Some a ≡ Some b → a ≡ b
same_outcome a b is = cc

-- It may end with that result.
pub in_memory_goes :
    {may : May} {A : Type 0} (files : Files) (p : Program may A) (result : Result A Status)
    → reader_result files p ≡ Some result → Goes (in_memory files p) [] result
unfolding Goes in_memory reader_result
in_memory_goes files (done a) result is = record { none = refl; result_is = sym (same_outcome (Ok a) result is) }
in_memory_goes files (stops s own) result is = record { none = refl; result_is = sym (same_outcome (Err s) result is) }
in_memory_goes files (reads name go) result is = inl (in_memory_goes files (go (found_in (files name))) result is)
in_memory_goes files (writes allowed name content p) result is = absurd (cc)
in_memory_goes files (puts piece p) result is = absurd (cc)
in_memory_goes files (takes allowed go) result is = absurd (cc)
in_memory_goes files (some Is go) result is = absurd (cc)
in_memory_goes files (wants p) result is = inl (in_memory_goes files p result is)

-- That result is an end of the program.
pub outcome_end :
    {may : May} {A : Type 0} (files : Files) (p : Program may A) (result : Result A Status)
    → reader_result files p ≡ Some result → IsEnd result
unfolding reader_result
outcome_end {may} {A} files (done a) result is = subst (IsEnd {A = A}) (same_outcome (Ok a) result is) tt
outcome_end {may} {A} files (stops s own) result is = subst (IsEnd {A = A}) (same_outcome (Err s) result is) own
outcome_end files (reads name go) result is = outcome_end files (go (found_in (files name))) result is
outcome_end files (writes allowed name content p) result is = absurd (cc)
outcome_end files (puts piece p) result is = absurd (cc)
outcome_end files (takes allowed go) result is = absurd (cc)
outcome_end files (some Is go) result is = absurd (cc)
outcome_end files (wants p) result is = outcome_end files p result is

-- ---- a call of the reader over a folder in memory

-- A count that is always 0 does not rise.
pub never_rose : (old new : ℕ) → old ≡ 0 → new ≡ 0 → Rose old new → ⊥
never_rose old new before after (inl rose) = omega (arith, before, after, rose)
never_rose old new before after (inr full) = omega (arith, after, full)

pub reads_in_memory :
    {may : May} {A : Type 0} (files : Files) (p : Program may A) (result : Result A Status) (old new : Seen)
    → IsReader p → old.files ≡ Some files → NoneRose old new → Performs p result old new
    → Goes (wants (in_memory files p)) [] result
unfolding Goes
reads_in_memory files p result old new is told none performs =
    elim (performs_unless p result old new none performs) [
      | inl ended ↦ inl (in_memory_goes files p result (reader_outcome p files result old new is told ended performs))
      | inr memory ↦ inr (record { none = refl; result_is = memory })
    ]
