-- The result of the reader of bare images, which may also be NoMemory.
use Rattle.std.specs.Prelude.{ℕ, ◌≡◌, ⊤, List, Result, Ok, Err}
use Rattle.m36_model.specs.Store.{State}
use Rattle.m36_image.specs.declared.refusal.Refusal.{Refusal}
use Rattle.m36_image.specs.declared.refusal.ImageFault.{ImageFault}
use Rattle.m36_image.specs.declared.refusal.ImageFault.TheVariants.{Refused, NoMemory}

-- the result of the code is the state or the refusal of the definition; NoMemory is allowed in
-- place of either
abbrev pub ImageResult :
    Result (State (List ℕ)) ImageFault → Result (State (List ℕ)) Refusal → Type 0
ImageResult (Ok state) definition = definition ≡ Ok state
ImageResult (Err (Refused refusal)) definition = definition ≡ Err refusal
ImageResult (Err NoMemory) definition = ⊤
