-- Programs that put pieces and end with a status: what they put, by how they end, and that some events end them.
use Rattle.std.proofs.Common.{◌≡◌, ℕ, List, [], ◌++◌, Result, Err, sym, ap, subst, ◌∙◌, inl, inr}
use Rattle.std.proofs.lemmas.List.{append-nil, append_assoc}
use Rattle.std.proofs.lemmas.List.Folds.{concat-append as joined_on}
use Rattle.m36_outside.specs.Passing.{joined}
use Rattle.m36_world.specs.Follow.{outputs}
use Rattle.m36_world.specs.declared.event.Event.{Event}
use Rattle.m36_status.specs.declared.status.Status.{Status}
use Rattle.m36_status.specs.declared.status.Status.TheVariants as status
use Rattle.m36_program.specs.Alike.{IsEnd}
use Rattle.m36_program.specs.Early.{result_of_status, MayEnd, ends}
use Rattle.m36_program.specs.Ended.{StartsWith}
use Rattle.m36_program.specs.Goes.{Ends, Goes}
use Rattle.m36_program.specs.Program.{quiet, Program, puts_all}
use Rattle.m36_program.specs.MayHappen.{pieces_of}
use Rattle.m36_program.proofs.PieceLaws.{PutsBy, pieces_put}
use Rattle.m36_program.proofs.ProgramLaws.{goes_ends}
use Rattle.m36_program.proofs.PutLaws.{goes_puts}
use Rattle.cmd_image.specs.AuditText.{yes_line}
use Rattle.cmd_image.specs.ImageEnds.{EndsWith}

-- ---- what a program put, by how it ended

abbrev as_result : Status → Result (Unit {0}) Status
as_result s = Err s

-- A call that ends put all of its pieces.
pub whole_ends : (pieces : List (List ℕ)) (s : Status) (events : List Event) (result : Result (Unit {0}) Status)
    → IsEnd result → PutsBy pieces s events result → EndsWith pieces s events result
whole_ends pieces s events result end (inl whole) =
    record { events_are = whole.events_are; result_is = whole.result_is }
whole_ends pieces s events result end (inr part) =
    let no : IsEnd (as_result status.WriteFault) = subst IsEnd part.result_is end in
    absurd no

-- Memory ran out, so the call did not end.
pub none_ends :
    {P : Type 0} (events : List Event) (result : Result (Unit {0}) Status) → IsEnd result
    → Ends (Err status.NoMemory) events result → P
none_ends events result end ends =
    let no : IsEnd (as_result status.NoMemory) = subst IsEnd ends.result_is end in
    absurd no

-- What was put is a prefix of the pieces.
pub pieces_begin : (pieces : List (List ℕ)) (s : Status) (events : List Event) (result : Result (Unit {0}) Status)
    → PutsBy pieces s events result → (left : List (List ℕ)) × (pieces ≡ pieces_of events ++ left)
pieces_begin pieces s events result (inl whole) = (
  [],
  sym (append-nil pieces) ∙ sym (pieces_put pieces []) ∙ ap pieces_of (append-nil (outputs pieces))
      ∙ ap pieces_of (sym whole.events_are) ∙ sym (append-nil (pieces_of events)),
)
pieces_begin pieces s events result (inr part) = (part.left, part.is)

pub both_end :
    (pieces : List (List ℕ)) (s : Status) (events others : List Event) (result other : Result (Unit {0}) Status)
    → EndsWith pieces s events result → EndsWith pieces s others other → (events ≡ others) × (result ≡ other)
both_end pieces s events others result other one two =
    (one.events_are ∙ sym two.events_are, one.result_is ∙ sym two.result_is)

-- ---- some call ends

-- Some events end the program: it puts all of its pieces.
pub record SomeEnd (p : Program quiet (Unit {0})) : Type 0 where
  pub events : List Event
  pub result : Result (Unit {0}) Status
  pub goes : Goes p events result
  pub is_end : IsEnd result

pub early_ends : (s : Status) → MayEnd s → IsEnd (result_of_status s)
early_ends status.Done own = tt
early_ends status.Usage own = absurd own
early_ends status.ReadFault own = absurd own
early_ends status.WriteFault own = absurd own
early_ends (status.BadFile bad) own = tt
early_ends status.AuditNo own = tt
early_ends (status.MachineStop end) own = tt
early_ends status.Steps own = tt
early_ends status.NoMemory own = absurd own

pub puts_end : (pieces : List (List ℕ)) (s : Status) (own : MayEnd s) → SomeEnd (puts_all pieces (ends s own))
puts_end pieces s own = record {
  events = outputs pieces ++ [];
  result = result_of_status s;
  goes = goes_puts pieces (ends s own) [] (result_of_status s) (goes_ends quiet s own);
  is_end = early_ends s own;
}

-- ---- the text

-- If a prefix of some pieces begins with a text, so do the pieces.
pub starts_longer :
    (text : List ℕ) (pieces first left : List (List ℕ)) → pieces ≡ first ++ left → StartsWith text first
    → StartsWith text pieces
starts_longer text pieces first left is starts = record {
  rest = starts.rest ++ joined left;
  is = ap joined is ∙ joined_on first left ∙ ap (λ t. t ++ joined left) starts.is
      ∙ append_assoc text starts.rest (joined left);
}

-- Nothing was put, so no text begins with `audit yes`.
pub none_starts : {P : Type 0} (events : List Event) → events ≡ [] → StartsWith yes_line (pieces_of events) → P
none_starts events none starts =
    let no : [] ≡ yes_line ++ starts.rest = sym (ap (λ e. joined (pieces_of e)) none) ∙ starts.is in
    absurd (cc)
