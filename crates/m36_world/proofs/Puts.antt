-- Puts of a piece and of a block: the contract of the sink gives that of the world.
use Rattle.std.proofs.Common.{◌≡◌, ℕ, ◌≤◌, ◌<◌, ◌^◌, ◌⊎◌, List, [], ◌∷◌, ◌++◌, length, Option, refl, sym, ap}
use Rattle.std.proofs.Common.{subst, ◌∙◌, inl, inr, arith, length-append}
use Rattle.std.proofs.lemmas.List.{append-nil, append_assoc}
use Rattle.m36_outside.specs.Passing.{joined, PutTakes, TakesLines, TakesSome}
use Rattle.m36_outside.specs.Put.{PutResult, PutHasCause}
use Rattle.m36_outside.specs.Written.{appended, Grew}
use Rattle.m36_outside.specs.declared.sink.Put.{Put}
use Rattle.m36_outside.specs.declared.sink.Put.TheVariants.{Done, Failed}
use Rattle.m36_outside.proofs.Grown.{appended-nil, appended-appended, grew_longer}
use Rattle.m36_outside.proofs.LinesTaken.{takes_some_of_line}
use Rattle.m36_world.specs.Answers.{PutDid, PutBlockDid}
use Rattle.m36_world.specs.Happened.{IsOutput}
use Rattle.m36_world.specs.Follow.{Follow, outputs}
use Rattle.m36_world.specs.CallEvents.{put_events, block_events}
use Rattle.m36_world.specs.Seen.{Seen}
use Rattle.m36_world.specs.declared.event.Event.{Event}
use Rattle.m36_world.specs.declared.event.Event.TheVariants.{Output}

-- what is observed after a call that writes to the output
abbrev pub after_put : Seen → List Event → List (List ℕ) → Option (List ℕ) → ℕ → Seen
after_put old events outputs written faults =
    record old { events = events; outputs = outputs; written = written; output_faults = faults }

pub put_did :
    (answer : Put) (piece : List ℕ) (old : Seen)
    (events : List Event) (outputs : List (List ℕ)) (written : Option (List ℕ)) (faults : ℕ)
    → PutResult answer old.written written piece → PutTakes answer old.written written old.outputs outputs piece
    → PutHasCause answer old.output_faults faults → old.output_faults ≤ faults → faults < 2 ^ 64
    → events ≡ old.events ++ put_events answer piece
    → PutDid answer piece old (after_put old events outputs written faults)
put_did Done piece old events outputs written faults says took cause count bound with_event = record {
  bound = bound;
  rest = λ i. after_put old (with_event i) (took i) (says i) (cause i);
}
put_did Failed piece old events outputs written faults says took cause count bound with_event = record {
  part = took;
  failed = record {
    took = takes_some_of_line old.written written old.outputs outputs piece took;
    grew = grew_longer old.written written piece [] says;
    cause = cause;
    count = count;
    bound = bound;
    rest = λ i. after_put old (with_event i) outputs written faults;
  };
}

-- what is observed after these pieces were written, each as a whole
pub after_pieces : Seen → List (List ℕ) → Seen
after_pieces old pieces =
    after_put old (old.events ++ outputs pieces) (old.outputs ++ pieces) (appended (joined pieces) old.written)
    old.output_faults

one_piece_more :
    (old : Seen) (piece : List ℕ) (pieces : List (List ℕ))
    → after_pieces (after_pieces old (piece ∷ [])) pieces ≡ after_pieces old (piece ∷ pieces)
unfolding after_pieces
one_piece_more old piece pieces =
    let events = append_assoc old.events (Output piece ∷ []) (outputs pieces) in
    let taken = append_assoc old.outputs (piece ∷ []) pieces in
    let written = ap (λ first. appended (joined pieces) (appended first old.written)) (append-nil piece)
    ∙ appended-appended piece (joined pieces) old.written in
    λ i. after_put old (events i) (taken i) (written i) old.output_faults

one_piece :
    (old : Seen) (piece : List ℕ) → old.output_faults < 2 ^ 64 → IsOutput piece old (after_pieces old (piece ∷ []))
unfolding after_pieces
one_piece old piece bound = record {
  bound = bound;
  rest = λ i. after_put old (old.events ++ Output piece ∷ []) (old.outputs ++ piece ∷ [])
      (appended (append-nil piece i) old.written) old.output_faults;
}

no_piece : (old : Seen) → after_pieces old [] ≡ old
unfolding after_pieces
no_piece old = λ i. after_put old (append-nil old.events i) (append-nil old.outputs i) (appended-nil old.written i)
    old.output_faults

same_faults : (old : Seen) (pieces : List (List ℕ)) → (after_pieces old pieces).output_faults ≡ old.output_faults
unfolding after_pieces
same_faults old pieces = refl

pieces_follow :
    (pieces : List (List ℕ)) (old : Seen)
    → (1 ≤ length pieces → old.output_faults < 2 ^ 64) → Follow (outputs pieces) old (after_pieces old pieces)
unfolding Follow
pieces_follow [] old bound = no_piece old
pieces_follow (piece ∷ pieces) old bound =
    let below : old.output_faults < 2 ^ 64 = bound (omega arith) in
    let between = after_pieces old (piece ∷ []) in
    let within : between.output_faults < 2 ^ 64 = subst (λ n. n < 2 ^ 64) (sym (same_faults old (piece ∷ []))) below in
    record {
      between = between;
      begins = one_piece old piece below;
      goes_on = subst (λ new. Follow (outputs pieces) between new) (one_piece_more old piece pieces)
          (pieces_follow pieces between (λ _. within));
    }

some_pieces : (old new pieces : List (List ℕ)) → TakesSome old new pieces → 1 ≤ length pieces
some_pieces old new pieces some =
    subst (λ (l : List (List ℕ)). 1 ≤ length l) (sym some.is)
    (omega (arith, length-append some.lines (some.line ∷ some.left)))

pub put_block_did :
    (answer : Put) (pieces : List (List ℕ)) (old : Seen)
    (events : List Event) (outputs : List (List ℕ)) (written : Option (List ℕ)) (faults : ℕ)
    → PutResult answer old.written written (joined pieces) → TakesLines answer old.outputs outputs pieces
    → PutHasCause answer old.output_faults faults → old.output_faults ≤ faults
    → ((old.output_faults < 2 ^ 64) ⊎ (1 ≤ length pieces) → faults < 2 ^ 64)
    → events ≡ old.events ++ block_events answer pieces
    → PutBlockDid answer pieces old (after_put old events outputs written faults)
unfolding after_pieces
put_block_did Done pieces old events outs written faults says took cause count bound with_event =
    let below : 1 ≤ length pieces → old.output_faults < 2 ^ 64 =
    λ some. subst (λ n. n < 2 ^ 64) cause (bound (inr some)) in
    subst (λ new. Follow (outputs pieces) old new)
    (λ i. after_put old (sym with_event i) (sym took i) (sym says i) (sym cause i))
    (pieces_follow pieces old below)
put_block_did Failed pieces old events outs written faults says took cause count bound with_event = record {
  took = took;
  grew = says;
  cause = cause;
  count = count;
  bound = bound (inr (some_pieces old.outputs outs pieces took));
  rest = λ i. after_put old (with_event i) outs written faults;
}

-- ---- what is unchanged after pieces that were written as a whole

pub pieces_done :
    (pieces : List (List ℕ)) (old new : Seen) → Follow (outputs pieces) old new → new ≡ after_pieces old pieces
unfolding Follow after_pieces
pieces_done [] old new none = none ∙ sym (no_piece old)
pieces_done (piece ∷ pieces) old new some =
    let one : some.between ≡ after_pieces old (piece ∷ []) = some.begins.rest
    ∙ (λ i. after_put old (old.events ++ Output piece ∷ []) (old.outputs ++ piece ∷ [])
    (appended (sym (append-nil piece) i) old.written) old.output_faults) in
    pieces_done pieces some.between new some.goes_on
    ∙ ap (λ seen. after_pieces seen pieces) one
    ∙ one_piece_more old piece pieces

pub pieces_written :
    (pieces : List (List ℕ)) (old new : Seen) → Follow (outputs pieces) old new → Grew old.written new.written (joined pieces)
unfolding after_pieces
pieces_written pieces old new some = ap (λ s. s.written) (pieces_done pieces old new some)

pub pieces_taken :
    (pieces : List (List ℕ)) (old new : Seen) → Follow (outputs pieces) old new → new.outputs ≡ old.outputs ++ pieces
unfolding after_pieces
pieces_taken pieces old new some = ap (λ s. s.outputs) (pieces_done pieces old new some)

pub pieces_no_fault :
    (pieces : List (List ℕ)) (old new : Seen)
    → Follow (outputs pieces) old new → new.output_faults ≡ old.output_faults
unfolding after_pieces
pieces_no_fault pieces old new some = ap (λ s. s.output_faults) (pieces_done pieces old new some)

pub pieces_bound :
    (pieces : List (List ℕ)) (old new : Seen)
    → Follow (outputs pieces) old new → (old.output_faults < 2 ^ 64) ⊎ (1 ≤ length pieces) → new.output_faults < 2 ^ 64
unfolding Follow
pieces_bound [] old new none (inl below) = subst (λ s. s.output_faults < 2 ^ 64) (sym none) below
pieces_bound [] old new none (inr some) = absurd (omega arith)
pieces_bound (piece ∷ pieces) old new some _ =
    pieces_bound pieces some.between new some.goes_on (inl some.begins.bound)
