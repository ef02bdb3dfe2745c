-- What a call reads if the files are known.
use Rattle.std.proofs.Common.{◌≡◌, ℕ, List, ◌∷◌, Some, Result, ap, subst, ◌∙◌}
use Rattle.m36_outside.specs.Files.{Files}
use Rattle.m36_world.specs.Seen.{Seen}
use Rattle.m36_world.specs.Happened.{IsFileRead}
use Rattle.m36_world.specs.Follow.{Follow}
use Rattle.m36_world.specs.declared.event.Event.{Event}
use Rattle.m36_world.specs.declared.event.Event.TheVariants.{FileRead}
use Rattle.m36_status.specs.declared.status.Status.{Status}
use Rattle.m36_program.specs.Program.{Found, May, Program, reads}
use Rattle.m36_program.specs.Goes.{Goes}
use Rattle.m36_program.specs.Performs.{Performs}
use Rattle.m36_program.specs.Found.{found_in}
use Rattle.m36_program.specs.Alike.{IsEnd}
use Rattle.m36_program.proofs.OneText.{found_or_ended, said}

-- A call that reads a file continues by what the files have.
pub record GoesOn {may : May} {A : Type 0} (p : Program may A) (files : Files) (result : Result A Status)
    (new : Seen) : Type 0 where
  pub between : Seen
  pub told : between.files ≡ Some files
  pub performs : Performs p result between new

pub reads_told :
    {may : May} {A : Type 0} (name : List ℕ) (go : Found → Program may A) (files : Files) (result : Result A Status)
    (old new : Seen)
    → old.files ≡ Some files → IsEnd result → Performs (reads name go) result old new
    → GoesOn (go (found_in (files name))) files result new
unfolding Goes Follow
reads_told name go files result old new told ended performs =
    let goes = performs.goes in
    let same : (let start : List Event = FileRead name goes.answer ∷ goes.more in Follow start old new) =
    subst (λ e. Follow e old new) goes.first performs.follow in
    let did : IsFileRead name goes.answer old same.between = same.begins in
    found_or_ended goes.answer (files name) _ goes.more result
    (said goes.answer name old.files files told did.content) did.limit goes.rest
    (λ rest. record {
      between = same.between;
      told = ap (λ s. s.files) did.rest ∙ told;
      performs = record { events = goes.more; follow = same.goes_on; goes = rest };
    })
    (λ none fails. fails _ ended)
