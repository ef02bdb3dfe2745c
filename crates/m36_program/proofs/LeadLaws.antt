-- Loops that perform a program: what is left of it.
use Rattle.std.proofs.Common.{◌≡◌, ℕ, List, [], ◌∷◌, ◌++◌, Result, Ok, Err, sym, ap, subst, ◌∙◌}
use Rattle.std.proofs.lemmas.List.{append_assoc}
use Rattle.m36_world.specs.declared.event.Event.{Event}
use Rattle.m36_world.specs.Seen.{Seen}
use Rattle.m36_world.specs.Follow.{Follow, outputs}
use Rattle.m36_status.specs.declared.status.Status.{Status}
use Rattle.m36_status.specs.declared.status.Status.TheVariants.{WriteFault}
use Rattle.m36_program.specs.Program.{May, Program, then_with, puts, some, puts_all}
use Rattle.m36_program.specs.Goes.{Goes}
use Rattle.m36_program.specs.Performs.{Performs, Leads}
use Rattle.m36_program.specs.Gathered.{Gathers, Loses}
use Rattle.m36_program.specs.Readers.{put_one}
use Rattle.m36_world.proofs.Following.{follow_on, follow_none}
use Rattle.m36_program.proofs.GoesLaws.{goes_then, goes_stop}
use Rattle.m36_program.proofs.Performing.{goes_some, puts_then, performs_unput}
use Rattle.m36_program.proofs.PutLaws.{goes_puts, puts_both, puts_one, puts_none, loses_performs}

-- the whole program is left
pub leads_start : {may : May} {A : Type 0} (p : Program may A) (seen : Seen) → Leads p p seen seen
leads_start p seen = record { events = []; follow = follow_none seen; leads = λ more result goes. goes }

-- some events happened, after which less is left
leads_on :
    {may : May} {A : Type 0} (now next first : Program may A) (passed : List Event) (old between new : Seen)
    → Leads now first old between → Follow passed between new
    → ((more : List Event) (result : Result A Status) → Goes next more result → Goes now (passed ++ more) result)
    → Leads next first old new
leads_on now next first passed old between new left follow on = record {
  events = left.events ++ passed;
  follow = follow_on left.events passed old between new left.follow follow;
  leads = λ more result goes.
      subst (λ events. Goes first events result) (sym (append_assoc left.events passed more))
      (left.leads (passed ++ more) result (on more result goes));
}

-- a part of what is left ended with a value
pub leads_then :
    {may : May} {A B : Type 0} (part : Program may A) (next : A → Program may B) (first : Program may B) (a : A)
    (old between new : Seen)
    → Leads (then_with part next) first old between → Performs part (Ok a) between new → Leads (next a) first old new
leads_then part next first a old between new left performs =
    leads_on (then_with part next) (next a) first performs.events old between new left performs.follow
    (λ more result goes. goes_then part next performs.events more a result performs.goes goes)

-- a call performed all that was left
pub leads_ends :
    {may : May} {A : Type 0} (now first : Program may A) (result : Result A Status) (old between new : Seen)
    → Leads now first old between → Performs now result between new → Performs first result old new
leads_ends now first result old between new left performs = record {
  events = left.events ++ performs.events;
  follow = follow_on left.events performs.events old between new left.follow performs.follow;
  goes = left.leads performs.events result performs.goes;
}

-- a part of what is left ended with a status
pub leads_stop :
    {may : May} {A B : Type 0} (part : Program may A) (next : A → Program may B) (first : Program may B) (s : Status)
    (old between new : Seen)
    → Leads (then_with part next) first old between → Performs part (Err s) between new → Performs first (Err s) old new
leads_stop part next first s old between new left performs = record {
  events = left.events ++ performs.events;
  follow = follow_on left.events performs.events old between new left.follow performs.follow;
  goes = left.leads performs.events (Err s) (goes_stop part next performs.events s performs.goes);
}

-- what is left is another, equal program
pub leads_as :
    {may : May} {A : Type 0} (now next first : Program may A) (old new : Seen) → now ≡ next → Leads now first old new
    → Leads next first old new
leads_as now next first old new same left = subst (λ p. Leads p first old new) same left

-- ---- one step of what is left

-- a value was chosen
pub leads_some :
    {may : May} {A B : Type 0} (Is : B → Type 0) (go : B → Program may A) (b : B) (first : Program may A)
    (old new : Seen)
    → Is b → Leads (some Is go) first old new → Leads (go b) first old new
leads_some Is go b first old new is left = record {
  events = left.events;
  follow = left.follow;
  leads = λ more result goes. left.leads more result (goes_some Is go b more result is goes);
}

-- a piece was put
pub leads_put :
    {may : May} {A : Type 0} (piece : List ℕ) (rest first : Program may A) (old between new : Seen)
    → Leads (puts piece rest) first old between → Performs {may = may} (put_one piece) (Ok tt) between new
    → Leads rest first old new
leads_put piece rest first old between new left put =
    leads_then (put_one piece) (λ u. rest) first tt old between new
    (subst (λ p. Leads p first old between) (sym (puts_then piece rest)) left) put

-- the output failed
pub leads_unput :
    {may : May} {A : Type 0} (piece : List ℕ) (rest first : Program may A) (s : Status) (old between new : Seen)
    → Leads (puts piece rest) first old between → Performs {may = may} (put_one piece) (Err s) between new
    → Performs first (Err s) old new
leads_unput piece rest first s old between new left put =
    leads_ends (puts piece rest) first (Err s) old between new left (performs_unput piece rest s between new put)

-- ---- pieces that are gathered

-- pieces are added to the block: those that are in it are put before what is left
pub leads_gathers :
    {may : May} {A : Type 0} (block block' more : List (List ℕ)) (rest first : Program may A) (old between new : Seen)
    → Leads (puts_all block (puts_all more rest)) first old between → Gathers block block' more between new
    → Leads (puts_all block' rest) first old new
leads_gathers block block' more rest first old between new left gathers =
    leads_on (puts_all block (puts_all more rest)) (puts_all block' rest) first
    (outputs gathers.handed) old between new left gathers.follow
    (λ after result goes.
    subst (λ p. Goes p (outputs gathers.handed ++ after) result)
    (sym (puts_both gathers.handed block' rest) ∙ ap (λ l. puts_all l rest) (sym gathers.is)
    ∙ puts_both block more rest)
    (goes_puts gathers.handed (puts_all block' rest) after result goes))

-- one piece is added
pub leads_adds :
    {may : May} {A : Type 0} (block block' : List (List ℕ)) (piece : List ℕ) (rest first : Program may A)
    (old between new : Seen)
    → Leads (puts_all block (puts piece rest)) first old between → Gathers block block' (piece ∷ []) between new
    → Leads (puts_all block' rest) first old new
leads_adds block block' piece rest first old between new left gathers =
    leads_gathers block block' (piece ∷ []) rest first old between new
    (subst (λ p. Leads (puts_all block p) first old between) (sym (puts_one piece rest)) left) gathers

-- the block is empty
pub leads_empty :
    {may : May} {A : Type 0} (block : List (List ℕ)) (rest first : Program may A) (old new : Seen)
    → block ≡ [] → Leads rest first old new → Leads (puts_all block rest) first old new
leads_empty block rest first old new none left =
    subst (λ p. Leads p first old new) (sym (puts_none rest) ∙ ap (λ l. puts_all l rest) (sym none)) left

-- all pieces were put, and a call performed what was left
pub gathers_performs :
    {may : May} {A : Type 0} (pieces : List (List ℕ)) (rest : Program may A) (result : Result A Status)
    (old between new : Seen)
    → Follow (outputs pieces) old between → Performs rest result between new
    → Performs (puts_all pieces rest) result old new
gathers_performs pieces rest result old between new follow performs = record {
  events = outputs pieces ++ performs.events;
  follow = follow_on (outputs pieces) performs.events old between new follow performs.follow;
  goes = goes_puts pieces rest performs.events result performs.goes;
}

-- the output failed while pieces were added
pub leads_lost :
    {may : May} {A : Type 0} (block more : List (List ℕ)) (rest first : Program may A) (old between new : Seen)
    → Leads (puts_all block (puts_all more rest)) first old between → Loses (block ++ more) between new
    → Performs first (Err WriteFault) old new
leads_lost block more rest first old between new left lost =
    leads_ends (puts_all block (puts_all more rest)) first (Err WriteFault) old between new left
    (subst (λ p. Performs p (Err WriteFault) between new) (puts_both block more rest)
    (loses_performs (block ++ more) rest between new lost))

pub leads_lost_one :
    {may : May} {A : Type 0} (block : List (List ℕ)) (piece : List ℕ) (rest first : Program may A)
    (old between new : Seen)
    → Leads (puts_all block (puts piece rest)) first old between → Loses (block ++ piece ∷ []) between new
    → Performs first (Err WriteFault) old new
leads_lost_one block piece rest first old between new left lost =
    leads_lost block (piece ∷ []) rest first old between new
    (subst (λ p. Leads (puts_all block p) first old between) (sym (puts_one piece rest)) left) lost

-- the last pieces were put, and nothing is left after them
pub leads_finished :
    {may : May} {A : Type 0} (block more : List (List ℕ)) (rest first : Program may A) (result : Result A Status)
    (old between new : Seen)
    → Leads (puts_all block (puts_all more rest)) first old between → Follow (outputs (block ++ more)) between new
    → Goes rest [] result → Performs first result old new
leads_finished block more rest first result old between new left follow goes =
    leads_ends (puts_all block (puts_all more rest)) first result old between new left
    (subst (λ p. Performs p result between new) (puts_both block more rest)
    (gathers_performs (block ++ more) rest result between new new follow
    (record { events = []; follow = follow_none new; goes = goes })))
