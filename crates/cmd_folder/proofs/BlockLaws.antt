-- What is left of a program, with the pieces of a block put before it.
use Rattle.std.proofs.Common.{ℕ, List, [], ◌∷◌, ◌++◌, Result, Err, sym, ap, subst, ◌∙◌, inl, inr}
use Rattle.std.proofs.lemmas.List.{append-nil, append_assoc}
use Rattle.m36_world.specs.declared.event.Event.{Event}
use Rattle.m36_world.specs.declared.event.Event.TheVariants.{OutputFailed}
use Rattle.m36_world.specs.Seen.{Seen}
use Rattle.m36_world.specs.Happened.{IsOutputFailed}
use Rattle.m36_world.specs.Follow.{Follow, outputs}
use Rattle.m36_world.proofs.Following.{follow_on, follow_none}
use Rattle.m36_status.specs.declared.status.Status.{Status}
use Rattle.m36_status.specs.declared.status.Status.TheVariants.{WriteFault, NoMemory}
use Rattle.m36_outside.specs.declared.sink.Put.{Put}
use Rattle.m36_outside.specs.declared.sink.Put.TheVariants.{Done, Failed}
use Rattle.m36_program.specs.Program.{May, Program, wants, puts_all}
use Rattle.m36_program.specs.Goes.{Goes, FailsWith}
use Rattle.m36_program.specs.Gathered.{Gathers, Loses, Adds}
use Rattle.m36_program.specs.Performs.{Performs, Leads}
use Rattle.m36_program.proofs.Gathered.{follow_pieces}
use Rattle.m36_program.proofs.Performing.{goes_no_memory}
use Rattle.m36_program.proofs.PutLaws.{goes_puts, loses_performs}

-- Each list of events and result that the first program allows, the second allows.
abbrev pub GoesAs : {may : May} {A : Type 0} → Program may A → Program may A → Type 0
GoesAs {may} {A} p q = (events : List Event) (result : Result A Status) → Goes p events result → Goes q events result

pub fails_as :
    {A : Type 0} (pieces : List (List ℕ)) (goes goes' : List Event → Type 0) (result : Result A Status)
    → ((events : List Event) → goes events → goes' events) → FailsWith pieces goes result → FailsWith pieces goes' result
fails_as [] goes goes' result on fails = fails
fails_as (piece ∷ pieces) goes goes' result on fails = on (OutputFailed (piece ∷ pieces) ∷ []) fails

-- This stays true if the same pieces are put before both.
pub goes_under :
    {may : May} {A : Type 0} (pieces : List (List ℕ)) (p q : Program may A) → GoesAs p q
    → GoesAs (puts_all pieces p) (puts_all pieces q)
unfolding Goes puts_all
goes_under [] p q on events result goes = on events result goes
goes_under (piece ∷ pieces) p q on events result (inl goes) = inl (record {
  more = goes.more;
  first = goes.first;
  rest = goes_under pieces p q on goes.more result goes.rest;
})
goes_under (piece ∷ pieces) p q on events result (inr failed) = inr (record {
  pieces = failed.pieces;
  only = failed.only;
  rest = fails_as failed.pieces (λ more. Goes (puts_all pieces p) more result) (λ more. Goes (puts_all pieces q) more result) result
      (λ more goes. goes_under pieces p q on more result goes) failed.rest;
})

pub leads_under :
    {may : May} {A : Type 0} (pieces : List (List ℕ)) (p q first : Program may A) (old new : Seen)
    → GoesAs p q → Leads (puts_all pieces q) first old new → Leads (puts_all pieces p) first old new
leads_under pieces p q first old new on left = record {
  events = left.events;
  follow = left.follow;
  leads = λ more result goes. left.leads more result (goes_under pieces p q on more result goes);
}

-- more passed, after which less is left
pub leads_on :
    {may : May} {A : Type 0} (now between first : Program may A) (old mid new : Seen)
    → Leads between first old mid → Leads now between mid new → Leads now first old new
leads_on now between first old mid new one two = record {
  events = one.events ++ two.events;
  follow = follow_on one.events two.events old mid new one.follow two.follow;
  leads = λ more result goes.
      subst (λ events. Goes first events result) (sym (append_assoc one.events two.events more))
      (one.leads (two.events ++ more) result (two.leads more result goes));
}

-- the pieces of a block were put, and memory ran out
pub performs_starved :
    {may : May} {A : Type 0} (block : List (List ℕ)) (p : Program may A) (old new : Seen)
    → Follow (outputs block) old new → Performs (puts_all block (wants p)) (Err NoMemory) old new
performs_starved block p old new follow = record {
  events = outputs block;
  follow = follow;
  goes = subst (λ events. Goes (puts_all block (wants p)) events (Err NoMemory)) (append-nil (outputs block))
      (goes_puts block (wants p) [] (Err NoMemory) (goes_no_memory p));
}

-- the pieces of a block were not all put
pub performs_unput :
    {may : May} {A : Type 0} (block : List (List ℕ)) (p : Program may A) (old new : Seen)
    → IsOutputFailed block old new → Performs (puts_all block p) (Err WriteFault) old new
performs_unput block p old new fails = loses_performs block p old new (record {
  handed = [];
  failed = block;
  left = [];
  is = sym (append-nil block);
  between = old;
  follow = follow_none old;
  fails = fails;
})

-- ---- pieces are added to a block, and then others

pub gathers_then :
    (old mid new more others : List (List ℕ)) (before between after : Seen)
    → Gathers old mid more before between → Gathers mid new others between after
    → Gathers old new (more ++ others) before after
gathers_then old mid new more others before between after one two = record {
  handed = one.handed ++ two.handed;
  is = sym (append_assoc old more others) ∙ ap (λ l. l ++ others) one.is ∙ append_assoc one.handed mid others
      ∙ ap (λ l. one.handed ++ l) two.is ∙ sym (append_assoc one.handed two.handed new);
  follow = follow_pieces one.handed two.handed before between after one.follow two.follow;
}

pub loses_then :
    (old mid more others : List (List ℕ)) (before between after : Seen)
    → Gathers old mid more before between → Loses (mid ++ others) between after
    → Loses (old ++ (more ++ others)) before after
loses_then old mid more others before between after one two = record {
  handed = one.handed ++ two.handed;
  failed = two.failed;
  left = two.left;
  is = sym (append_assoc old more others) ∙ ap (λ l. l ++ others) one.is ∙ append_assoc one.handed mid others
      ∙ ap (λ l. one.handed ++ l) two.is ∙ sym (append_assoc one.handed (two.handed ++ two.failed) two.left)
      ∙ ap (λ l. l ++ two.left) (sym (append_assoc one.handed two.handed two.failed));
  between = two.between;
  follow = follow_pieces one.handed two.handed before between two.between one.follow two.follow;
  fails = two.fails;
}

pub loses_more :
    (old more others : List (List ℕ)) (before after : Seen)
    → Loses (old ++ more) before after → Loses (old ++ (more ++ others)) before after
loses_more old more others before after one = record {
  handed = one.handed;
  failed = one.failed;
  left = one.left ++ others;
  is = sym (append_assoc old more others) ∙ ap (λ l. l ++ others) one.is
      ∙ append_assoc (one.handed ++ one.failed) one.left others;
  between = one.between;
  follow = one.follow;
  fails = one.fails;
}

pub adds_then :
    (answer : Put) (old mid new more others : List (List ℕ)) (before between after : Seen)
    → Gathers old mid more before between → Adds answer mid new others between after
    → Adds answer old new (more ++ others) before after
adds_then Done old mid new more others before between after one two =
    gathers_then old mid new more others before between after one two
adds_then Failed old mid new more others before between after one two =
    loses_then old mid more others before between after one two
