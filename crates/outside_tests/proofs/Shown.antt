-- What changed in a world that showed a file: from the events to the lists of calls.
use Rattle.std.proofs.Common.{◌≡◌, ℕ, List, [], ◌∷◌, ◌++◌, Result, Ok, Err, MatchResult, ap, sym, subst, ◌∙◌}
use Rattle.std.proofs.lemmas.List.{append-nil}
use Rattle.m36_outside.specs.FolderCalls.{Asked}
use Rattle.m36_outside.specs.Passing.{TakesLines, TakesSome}
use Rattle.m36_outside.specs.declared.folder.ReadAnswer.{ReadAnswer}
use Rattle.m36_outside.specs.declared.folder.ReadAnswer.TheVariants.{Read}
use Rattle.m36_outside.specs.declared.sink.Put.{Put}
use Rattle.m36_outside.specs.declared.sink.Put.TheVariants as put
use Rattle.m36_world.specs.Follow.{Follow}
use Rattle.m36_world.specs.Logs.{AddsOutputs}
use Rattle.m36_world.specs.CallEvents.{put_events}
use Rattle.m36_world.specs.Seen.{Seen}
use Rattle.m36_world.specs.declared.event.Event.TheVariants.{FileRead, Output, OutputFailed}
use Rattle.m36_world.proofs.Following.{follow_logs}

abbrev pub Shows : Result Put ReadAnswer → List ℕ → Seen → Seen → Type 0
Shows result name old new = MatchResult result
    (λ answer. (bytes : List ℕ) × Follow (FileRead name (Read bytes) ∷ put_events answer bytes) old new)
    (λ answer. Follow (FileRead name answer ∷ []) old new)

abbrev pub Through :
    Result Put ReadAnswer → List ℕ → List Asked → List Asked → List (List ℕ) → List (List ℕ) → Type 0
Through result name asked asked' taken taken' = MatchResult result
    (λ answer. (bytes : List ℕ)
    × (asked' ≡ asked ++ (name, Read bytes) ∷ []) × TakesLines answer taken taken' (bytes ∷ []))
    (λ answer. (asked' ≡ asked ++ (name, answer) ∷ []) × (taken' ≡ taken))

pub record Shown (result : Result Put ReadAnswer) (name : List ℕ) (old new : Seen) : Type 0 where
  pub through : Through result name old.reads new.reads old.outputs new.outputs
  pub writes : new.writes ≡ old.writes
  pub inputs : new.inputs ≡ old.inputs
  pub references : new.references ≡ old.references

pub shown :
    (result : Result Put ReadAnswer) (name : List ℕ) (old new : Seen)
    → Shows result name old new → Shown result name old new
unfolding AddsOutputs
shown (Ok put.Done) name old new (bytes, some) =
    let logs = follow_logs (FileRead name (Read bytes) ∷ Output bytes ∷ []) old new some in
    let one = logs.outputs in let two = one.goes_on in record {
      through = (bytes, logs.reads, two.goes_on ∙ two.begins ∙ ap (λ l. l ++ bytes ∷ []) one.begins);
      writes = logs.writes ∙ append-nil old.writes;
      inputs = logs.inputs ∙ append-nil old.inputs;
      references = logs.references;
    }
shown (Ok put.Failed) name old new (bytes, some) =
    let logs = follow_logs (FileRead name (Read bytes) ∷ OutputFailed (bytes ∷ []) ∷ []) old new some in
    let one = logs.outputs in let two = one.goes_on in record {
      through = (
        bytes,
        logs.reads,
        subst (λ l. TakesSome l new.outputs (bytes ∷ [])) one.begins
            (subst (λ l. TakesSome one.between l (bytes ∷ [])) (sym two.goes_on) two.begins),
      );
      writes = logs.writes ∙ append-nil old.writes;
      inputs = logs.inputs ∙ append-nil old.inputs;
      references = logs.references;
    }
shown (Err answer) name old new some =
    let logs = follow_logs (FileRead name answer ∷ []) old new some in record {
      through = (logs.reads, logs.outputs.goes_on ∙ logs.outputs.begins);
      writes = logs.writes ∙ append-nil old.writes;
      inputs = logs.inputs ∙ append-nil old.inputs;
      references = logs.references;
    }

-- `Through` for lists equal to the given ones
pub through_at :
    (result : Result Put ReadAnswer) (name : List ℕ)
    (asked asked' at at' : List Asked) (taken taken' on on' : List (List ℕ))
    → Through result name asked asked' taken taken' → asked ≡ at → at' ≡ asked' → taken ≡ on → on' ≡ taken'
    → Through result name at at' on on'
through_at result name asked asked' at at' taken taken' on on' is a a' t t' =
    let first = subst (λ l. Through result name l asked' taken taken') a is in
    let second = subst (λ l. Through result name at l taken taken') (sym a') first in
    let third = subst (λ l. Through result name at at' l taken') t second in
    subst (λ l. Through result name at at' on l) (sym t') third
