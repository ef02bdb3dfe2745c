-- Laws of events that follow one another.
use Rattle.std.proofs.Common.{◌≡◌, ℕ, List, [], ◌∷◌, ◌++◌, refl, sym, ap, subst, ◌∙◌}
use Rattle.std.proofs.lemmas.List.{append-nil, append_assoc}
use Rattle.std.specs.List.{flat_map}
use Rattle.m36_outside.specs.declared.lines.Piece.TheVariants as piece
use Rattle.m36_outside.specs.declared.sink.Put.{Put}
use Rattle.m36_outside.specs.declared.sink.Put.TheVariants as put
use Rattle.m36_world.specs.Answers.{PutDid}
use Rattle.m36_world.specs.Happened.{Happened}
use Rattle.m36_world.specs.CallEvents.{put_events}
use Rattle.m36_world.specs.Follow.{InSequence, Follow}
use Rattle.m36_world.specs.Logs.{read_of, write_of, input_of, AddsOutput, AddsOutputs, Logs}
use Rattle.m36_world.specs.Seen.{Seen}
use Rattle.m36_world.specs.declared.event.Event.{Event}
use Rattle.m36_world.specs.declared.event.Event.TheVariants.{FileRead, FileWrite, Output, OutputFailed}
use Rattle.m36_world.specs.declared.event.Event.TheVariants.{Input, InputFailed}

-- no event
pub follow_none : (old : Seen) → Follow [] old old
unfolding Follow
follow_none old = refl

-- one event
pub follow_one : (event : Event) (old new : Seen) → Happened event old new → Follow (event ∷ []) old new
unfolding Follow
follow_one event old new did = record { between = new; begins = did; goes_on = refl }

-- some events, and then others
pub follow_on :
    (first rest : List Event) (old between new : Seen)
    → Follow first old between → Follow rest between new → Follow (first ++ rest) old new
unfolding Follow
follow_on [] rest old between new none more = subst (λ seen. Follow rest seen new) none more
follow_on (event ∷ first) rest old between new some more = record {
  between = some.between;
  begins = some.begins;
  goes_on = follow_on first rest some.between between new some.goes_on more;
}

-- events in two parts
pub follow_split :
    (first rest : List Event) (old new : Seen)
    → Follow (first ++ rest) old new → InSequence (Follow first) (Follow rest) old new
unfolding Follow
follow_split [] rest old new all = record { between = old; begins = refl; goes_on = all }
follow_split (event ∷ first) rest old new all =
    let later = follow_split first rest all.between new all.goes_on in record {
      between = later.between;
      begins = record { between = all.between; begins = all.begins; goes_on = later.begins };
      goes_on = later.goes_on;
    }

-- ---- the events of a call, by its answer

pub follow_put :
    (answer : Put) (piece : List ℕ) (old new : Seen)
    → PutDid answer piece old new → Follow (put_events answer piece) old new
follow_put put.Done piece old new did = follow_one (Output piece) old new did
follow_put put.Failed piece old new did = follow_one (OutputFailed (piece ∷ [])) old new did.failed

-- ---- the events, and what the objects logged

same : {A : Type 0} (old new : List A) → new ≡ old → new ≡ old ++ []
same old new is = is ∙ sym (append-nil old)

-- the logs after one event: an entry of its kind, and every other log unchanged
pub record LogsOne (event : Event) (old new : Seen) : Type 0 where
  pub all : new.events ≡ old.events ++ event ∷ []
  pub reads : new.reads ≡ old.reads ++ read_of event
  pub writes : new.writes ≡ old.writes ++ write_of event
  pub inputs : new.inputs ≡ old.inputs ++ input_of event
  pub outputs : AddsOutput event old.outputs new.outputs
  pub references : new.references ≡ old.references

logs_one : (event : Event) (old new : Seen) → Happened event old new → LogsOne event old new
logs_one (FileRead name answer) old new did = record {
  all = ap (λ s. s.events) did.rest;
  reads = ap (λ s. s.reads) did.rest;
  writes = same old.writes new.writes (ap (λ s. s.writes) did.rest);
  inputs = same old.inputs new.inputs (ap (λ s. s.inputs) did.rest);
  outputs = ap (λ s. s.outputs) did.rest;
  references = ap (λ s. s.references) did.rest;
}
logs_one (FileWrite name content answer) old new did = record {
  all = ap (λ s. s.events) did.rest;
  reads = same old.reads new.reads (ap (λ s. s.reads) did.rest);
  writes = ap (λ s. s.writes) did.rest;
  inputs = same old.inputs new.inputs (ap (λ s. s.inputs) did.rest);
  outputs = ap (λ s. s.outputs) did.rest;
  references = ap (λ s. s.references) did.rest;
}
logs_one (Output piece) old new did = record {
  all = ap (λ s. s.events) did.rest;
  reads = same old.reads new.reads (ap (λ s. s.reads) did.rest);
  writes = same old.writes new.writes (ap (λ s. s.writes) did.rest);
  inputs = same old.inputs new.inputs (ap (λ s. s.inputs) did.rest);
  outputs = ap (λ s. s.outputs) did.rest;
  references = ap (λ s. s.references) did.rest;
}
logs_one (OutputFailed pieces) old new did = record {
  all = ap (λ s. s.events) did.rest;
  reads = same old.reads new.reads (ap (λ s. s.reads) did.rest);
  writes = same old.writes new.writes (ap (λ s. s.writes) did.rest);
  inputs = same old.inputs new.inputs (ap (λ s. s.inputs) did.rest);
  outputs = did.took;
  references = ap (λ s. s.references) did.rest;
}
logs_one (Input piece) old new did = record {
  all = ap (λ s. s.events) did.rest;
  reads = same old.reads new.reads (ap (λ s. s.reads) did.rest);
  writes = same old.writes new.writes (ap (λ s. s.writes) did.rest);
  inputs = ap (λ s. s.inputs) did.rest;
  outputs = ap (λ s. s.outputs) did.rest;
  references = ap (λ s. s.references) did.rest;
}
logs_one InputFailed old new did = record {
  all = ap (λ s. s.events) did.rest;
  reads = same old.reads new.reads (ap (λ s. s.reads) did.rest);
  writes = same old.writes new.writes (ap (λ s. s.writes) did.rest);
  inputs = same old.inputs new.inputs (ap (λ s. s.inputs) did.rest);
  outputs = ap (λ s. s.outputs) did.rest;
  references = ap (λ s. s.references) did.rest;
}

more : {A : Type 0} (old between new first rest : List A)
    → between ≡ old ++ first → new ≡ between ++ rest → new ≡ old ++ (first ++ rest)
more old between new first rest one two = two ∙ ap (λ l. l ++ rest) one ∙ append_assoc old first rest

pub follow_logs : (events : List Event) (old new : Seen) → Follow events old new → Logs events old new
unfolding Follow AddsOutputs
follow_logs [] old new none = record {
  all = same old.events new.events (ap (λ s. s.events) none);
  reads = same old.reads new.reads (ap (λ s. s.reads) none);
  writes = same old.writes new.writes (ap (λ s. s.writes) none);
  inputs = same old.inputs new.inputs (ap (λ s. s.inputs) none);
  outputs = ap (λ s. s.outputs) none;
  references = ap (λ s. s.references) none;
}
follow_logs (event ∷ events) old new some =
    let mid = some.between in
    let one = logs_one event old mid some.begins in
    let rest = follow_logs events mid new some.goes_on in record {
      all = more old.events mid.events new.events (event ∷ []) events one.all rest.all;
      reads = more old.reads mid.reads new.reads (read_of event) (flat_map read_of events) one.reads rest.reads;
      writes = more old.writes mid.writes new.writes (write_of event) (flat_map write_of events) one.writes rest.writes;
      inputs = more old.inputs mid.inputs new.inputs (input_of event) (flat_map input_of events) one.inputs rest.inputs;
      outputs = record { between = mid.outputs; begins = one.outputs; goes_on = rest.outputs };
      references = rest.references ∙ one.references;
    }
